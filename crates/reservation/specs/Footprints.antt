-- The tiles of a crossing, tick by tick. Assumes nothing.
use Rattle.std.specs.Prelude.{◌≡◌, ℕ, ◌+◌, ◌-◌, ◌*◌, ◌<◌, List, slice_index}
use Rattle.grid.specs.declared.junction.Junction.{Junction}
use Rattle.grid.specs.declared.kinds.Body.{Body}
use Rattle.grid.specs.Sets.{bit}
use Rattle.grid.specs.Steps.{duration_of, steps_touch}

-- how many ticks a span has
abbrev pub span_ticks : Junction → Body → ℕ
span_ticks j body = duration_of j.lanes body + 2 * j.buffer

-- at tick k of the span the vehicle may be in any step that is at most two buffers back: word k has their tiles
abbrev pub Swept : Junction → Body → List ℕ → Type 0
Swept j body words =
    (k tile : ℕ) → k < span_ticks j body → bit (slice_index words k) tile ≡ steps_touch j.lanes body (k - 2 * j.buffer) k tile
