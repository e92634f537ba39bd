use Rattle.std.proofs.Common.{◌≡◌, ℕ, ◌-◌, ◌*◌, ◌<◌, length, get_or}
use Rattle.grid.specs.Sets.{bit}
use Rattle.grid.specs.Steps.{steps_touch}
use Rattle.reservation.proofs.making.sweep.Given as goal

abbrev pub invariant-loop-k : goal.invariant-loop-k
invariant-loop-k l =
    (length l.words ≡ 47)
    × ((i : ℕ) → i < l.k → (tile : ℕ) →
    bit (get_or l.words i 0) tile ≡ steps_touch l.path.junction.lanes l.path.body (i - 2 * l.path.junction.buffer) i tile)
