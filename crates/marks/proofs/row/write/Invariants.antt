use Rattle.std.proofs.Common.{◌≡◌, ℕ, cond, length, get_or}
use Rattle.grid.specs.Sets.{bit}
use Rattle.marks.proofs.row.write.Given as goal

-- once the rest is written, all of the word is
abbrev pub invariant-loop-tile : goal.invariant-loop-tile
invariant-loop-tile l =
    (length l.marks ≡ 64) ×
    ((tile : ℕ) → cond (bit l.tile-iterator.rest tile) l.vehicle (get_or l.marks tile 0) ≡ cond (bit l.word tile) l.vehicle (get_or l.initial.marks tile 0))
