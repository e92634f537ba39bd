-- The cells of a request, which are tiles at ticks, and how two requests meet. Assumes nothing.
use Rattle.std.specs.Prelude.{◌≡◌, ℕ, ◌+◌, ◌≤◌, Bool, true, ◌&&◌, ◌==◌, nat_le}
use Rattle.grid.specs.declared.junction.Junction.{Junction}
use Rattle.grid.specs.Paths.{inside}
use Rattle.grid.specs.Some.{some}
use Rattle.grid.specs.Steps.{duration_of, path_touches, step_touches}
use Rattle.reservation.specs.declared.request.Request.{Request}
use Rattle.reservation.specs.Requests.{first_tick_of, last_tick_of, span_end}

-- the ticks t and u are at most b apart
abbrev pub near : ℕ → ℕ → ℕ → Bool
near b u t = nat_le u (t + b) && nat_le t (u + b)

-- the request has the cell of the tile at tick t: the tile lies in the square, and some step touches it, at most a
-- buffer away from t
unfoldable pub has : Junction → Request → ℕ → ℕ → Bool
has j r tile t =
    inside j.lanes tile
    && some (duration_of j.lanes r.body) (λ s. near j.buffer (r.entry + s) t && step_touches j.lanes r.body s tile)

-- a vehicle that is in step s at tick t, at most a buffer off its plan, touches the tile
pub record Holds (j : Junction) (r : Request) (s tile t : ℕ) : Type 0 where
  pub touched : step_touches j.lanes r.body s tile ≡ true
  pub late : t ≤ r.entry + s + j.buffer
  pub early : r.entry + s ≤ t + j.buffer

-- both have the cell, each at its junction
abbrev pub both_at : Junction → Request → Junction → Request → ℕ → ℕ → Bool
both_at j p k q t tile = has j p tile t && has k q tile t

-- both have the cell
abbrev pub both : Junction → Request → Request → ℕ → ℕ → Bool
both j p q t tile = has j p tile t && has j q tile t

-- the two requests share a cell
unfoldable pub share : Junction → Request → Request → Bool
share j p q = some (span_end j p) (λ t. some 64 (both j p q t))

-- the same, as a fact
abbrev pub SharesCell : Junction → Request → Request → Type 0
SharesCell j p q = (tile : ℕ) × (t : ℕ) × (has j p tile t ≡ true) × (has j q tile t ≡ true)

-- the two paths touch a common tile
abbrev pub paths_meet : Junction → Request → Request → Bool
paths_meet j p q = some 64 (λ tile. path_touches j.lanes p.body tile && path_touches j.lanes q.body tile)

-- the two spans, first to last tick, overlap
abbrev pub spans_overlap : Junction → Request → Request → Bool
spans_overlap j p q = nat_le (first_tick_of j p) (last_tick_of j q) && nat_le (first_tick_of j q) (last_tick_of j p)

-- the two paths touch a common tile, and the spans overlap
unfoldable pub locks : Junction → Request → Request → Bool
locks j p q = paths_meet j p q && spans_overlap j p q

-- the two junctions are one
abbrev pub is_same_junction : Junction → Junction → Bool
is_same_junction j k = j.lanes == k.lanes && j.buffer == k.buffer
