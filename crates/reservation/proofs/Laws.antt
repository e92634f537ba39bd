-- The laws by which the layers above know the cells. Assumes nothing.
use Rattle.std.proofs.Common.{◌≡◌, ℕ, suc, ◌+◌, ◌-◌, ◌*◌, ◌<◌, ◌≤◌, min, max, Bool, true, false, ◌&&◌, eqb, leb, Decides, ap₂, ⊎_elim, arith}
use mathlib.Core.Bool.{and_comm}
use Rattle.std.proofs.lemmas.Bool.{and_from, and_parts, cases_Bool, eqb-true, le-leb, leb-true}
use Rattle.grid.specs.declared.junction.Junction.{Junction}
use Rattle.grid.specs.Paths.{inside}
use Rattle.grid.specs.Some.{some}
use Rattle.grid.specs.Steps.{duration_of, path_touches, step_touches, steps_touch}
use Rattle.grid.proofs.Somes.{same_tests, some_at, some_found, some_tests}
use Rattle.grid.proofs.Sweeps.{step_found, touched_below, touched_inside, touched_point}
use Rattle.grid.proofs.Same.{same_junction}
use Rattle.reservation.specs.declared.request.Request.{Request}
use Rattle.reservation.specs.Cells.{Holds, SharesCell, both, has, locks, near, paths_meet, is_same_junction, share, spans_overlap}
use Rattle.reservation.specs.Requests.{first_tick_of, last_tick_of, span_end}

pub one_junction : (j k : Junction) → is_same_junction j k ≡ true → j ≡ k
one_junction j k e =
    let parts = and_parts (eqb j.lanes k.lanes) (eqb j.buffer k.buffer) e in
    same_junction j k (eqb-true _ _ parts.0) (eqb-true _ _ parts.1)

module _ (j : Junction) (r : Request) where
  abbrev d : ℕ
  d = duration_of j.lanes r.body

  -- step s is near the tick t, and touches the tile
  abbrev takes : ℕ → ℕ → ℕ → Bool
  takes tile t s = near j.buffer (r.entry + s) t && step_touches j.lanes r.body s tile

  -- a cell is had by a step that is near
  pub has_step : (tile t : ℕ) → has j r tile t ≡ true → (s : ℕ) × Holds j r s tile t × (s < d)
  unfolding has
  has_step tile t e =
      let w = some_found d (takes tile t) (and_parts (inside j.lanes tile) (some d (takes tile t)) e).1 in
      let s = w.0 in
      let parts = and_parts (near j.buffer (r.entry + s) t) (step_touches j.lanes r.body s tile) w.2 in
      let sides = and_parts (leb (r.entry + s) (t + j.buffer)) (leb t (r.entry + s + j.buffer)) parts.0 in
      (s, record { touched = parts.1; late = leb-true _ _ sides.1; early = leb-true _ _ sides.0 }, w.1)

  -- a step that is near has its cells
  pub step_has : (tile t s : ℕ) → Holds j r s tile t → has j r tile t ≡ true
  unfolding has
  step_has tile t s h =
      let p = step_found j.lanes r.body s tile h.touched in
      and_from _ _ (touched_inside j.lanes r.body p.point tile p.touched)
      (some_at d (takes tile t) s p.step (and_from _ _ (and_from _ _ (le-leb _ _ h.early) (le-leb _ _ h.late)) h.touched))

  -- who has a cell has it within the span
  pub has_within : (tile t : ℕ) → has j r tile t ≡ true → (r.entry ≤ t + j.buffer) × (t < span_end j r)
  has_within tile t e =
      let w = has_step tile t e in
      let h = w.1 in
      (omega (arith, h.early), omega (arith, h.late, w.2))

  -- a tile that is had lies in the square
  pub has_tile_lem : (tile t : ℕ) → has j r tile t ≡ true → tile < 64
  has_tile_lem tile t e =
      let w = has_step tile t e in
      let p = step_found j.lanes r.body w.0 tile w.1.touched in
      touched_below j.lanes r.body p.point tile j.few p.touched

  -- a tile that is had is touched by the path
  pub has_path : (tile t : ℕ) → has j r tile t ≡ true → path_touches j.lanes r.body tile ≡ true
  unfolding path_touches
  has_path tile t e =
      let w = has_step tile t e in
      let p = step_found j.lanes r.body w.0 tile w.1.touched in
      let last = touched_point j.lanes r.body p.point tile p.touched in
      some_at _ _ p.point (omega arith) p.touched

  -- at tick k of the span the cells are those of the steps at most two buffers back
  pub has_swept : (tile t k : ℕ) → t + j.buffer ≡ r.entry + k → has j r tile t ≡ steps_touch j.lanes r.body (k - 2 * j.buffer) k tile
  has_swept tile t k at =
      let back = k - 2 * j.buffer in
      let swept : ℕ → Bool = λ s. leb back s && step_touches j.lanes r.body s tile in
      same_tests (has j r tile t) (some (suc k) swept)
      (λ e.
      let w = has_step tile t e in
      let h = w.1 in
      some_at (suc k) swept w.0 (omega (arith, h.early)) (and_from _ _ (le-leb _ _ (omega (arith, h.late))) h.touched))
      (λ e.
      let w = some_found (suc k) swept e in
      let parts = and_parts (leb back w.0) (step_touches j.lanes r.body w.0 tile) w.2 in
      let low = leb-true back w.0 parts.0 in
      step_has tile t w.0 (record { touched = parts.1; late = omega arith; early = omega (arith, w.1) }))

  none : (tile t : ℕ) → (has j r tile t ≡ true → ⊥) → has j r tile t ≡ false
  none tile t never = ⊎_elim (λ e. absurd (never e)) (λ e. e) (cases_Bool (has j r tile t))

  pub has_before : (tile t : ℕ) → t + j.buffer < r.entry → has j r tile t ≡ false
  has_before tile t h = none tile t (λ e. let w = has_within tile t e in omega arith)

  pub has_after : (tile t : ℕ) → span_end j r ≤ t → has j r tile t ≡ false
  has_after tile t h = none tile t (λ e. let w = has_within tile t e in omega arith)

module _ (j : Junction) (p q : Request) where
  -- a cell in common gives `share`
  pub share_from : SharesCell j p q → share j p q ≡ true
  unfolding share
  share_from w =
      let tile = w.0 in
      let t = w.1 in
      let within = has_within j p tile t w.2 in
      some_at (span_end j p) (λ u. some 64 (both j p q u)) t within.1
      (some_at 64 (both j p q t) tile (has_tile_lem j p tile t w.2) (and_from _ _ w.2 w.3))

  pub share_at : (t : ℕ) → some 64 (both j p q t) ≡ true → share j p q ≡ true
  share_at t e =
      let w = some_found 64 (both j p q t) e in
      let parts = and_parts (has j p w.0 t) (has j q w.0 t) w.2 in
      share_from (w.0, t, parts.0, parts.1)

  -- `share` gives a cell in common
  pub share_found : share j p q ≡ true → SharesCell j p q
  unfolding share
  share_found e =
      let at = some_found (span_end j p) (λ u. some 64 (both j p q u)) e in
      let on = some_found 64 (both j p q at.0) at.2 in
      let parts = and_parts (has j p on.0 at.0) (has j q on.0 at.0) on.2 in
      (on.0, at.0, parts.0, parts.1)

  -- where they share a cell, both are in their spans
  pub shared_within : (t : ℕ) → some 64 (both j p q t) ≡ true
      → (max p.entry q.entry ≤ t + j.buffer) × (t ≤ min (last_tick_of j p) (last_tick_of j q))
  shared_within t e =
      let w = some_found 64 (both j p q t) e in
      let parts = and_parts (has j p w.0 t) (has j q w.0 t) w.2 in
      let one = has_within j p w.0 t parts.0 in
      let other = has_within j q w.0 t parts.1 in
      (omega arith, omega arith)

  -- whether they share a cell, where that is decided for the ticks
  pub share_decided : (found : Bool) → Decides found ((t : ℕ) × (some 64 (both j p q t) ≡ true)) → found ≡ share j p q
  share_decided found d = same_tests found (share j p q)
      (λ e. let w = d.0 e in share_at w.0 w.1)
      (λ e.
      let w = share_found e in
      d.1 (w.1, some_at 64 (both j p q w.1) w.0 (has_tile_lem j p w.0 w.1 w.2) (and_from _ _ w.2 w.3)))

pub swapped : (j : Junction) (p q : Request) → SharesCell j p q → SharesCell j q p
swapped j p q w = (w.0, w.1, w.3, w.2)

pub share_symmetric : (j : Junction) (p q : Request) → share j p q ≡ share j q p
share_symmetric j p q = same_tests (share j p q) (share j q p)
    (λ e. share_from j q p (swapped j p q (share_found j p q e)))
    (λ e. share_from j p q (swapped j q p (share_found j q p e)))

-- who share a cell have paths that touch a common tile and spans that overlap
pub share_locks : (j : Junction) (p q : Request) → share j p q ≡ true → locks j p q ≡ true
unfolding locks
share_locks j p q e =
    let w = share_found j p q e in
    let tile = w.0 in
    let t = w.1 in
    let within = has_within j p tile t w.2 in
    let inside = has_within j q tile t w.3 in
    and_from (paths_meet j p q) (spans_overlap j p q)
    (some_at 64 _ tile (has_tile_lem j p tile t w.2) (and_from _ _ (has_path j p tile t w.2) (has_path j q tile t w.3)))
    (and_from _ _ (le-leb (first_tick_of j p) (last_tick_of j q) (omega arith)) (le-leb (first_tick_of j q) (last_tick_of j p) (omega arith)))

pub locks_symmetric : (j : Junction) (p q : Request) → locks j p q ≡ locks j q p
unfolding locks
locks_symmetric j p q =
    ap₂ ◌&&◌
    (some_tests 64 _ _ (λ tile. and_comm (path_touches j.lanes p.body tile) (path_touches j.lanes q.body tile)))
    (and_comm (leb (first_tick_of j p) (last_tick_of j q)) (leb (first_tick_of j q) (last_tick_of j p)))
