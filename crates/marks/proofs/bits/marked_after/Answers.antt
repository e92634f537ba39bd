use Rattle.std.proofs.Common.{ap, ◌∙◌}
use lib.Bits.{bit_and}
use Rattle.grid.specs.Sets.{bit}
use Rattle.grid.proofs.Digits.{bit-and, bit-or}
use Rattle.marks.proofs.Xor.{bit-xor, either, unmarked, marked}
use Rattle.marks.proofs.bits.marked_after.Goals as goal

pub returns-then-vehicle-eq0 : goal.returns-then-vehicle-eq0
returns-then-vehicle-eq0 c j =
    let a = c.args.taken in
    let b = c.args.tiles in
    bit-xor a (bit_and a b) j ∙ ap (either (bit a j)) (bit-and a b j)
    ∙ unmarked (bit a j) (bit b j) c.args.vehicle c.if-vehicle-eq0.true

pub returns-else-vehicle-eq0 : goal.returns-else-vehicle-eq0
returns-else-vehicle-eq0 c j =
    let a = c.args.taken in
    let b = c.args.tiles in
    bit-or a b j ∙ marked (bit a j) (bit b j) c.args.vehicle c.if-vehicle-eq0.false
