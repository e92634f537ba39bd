use Rattle.std.proofs.Common.{not, ◌&&◌, eqb, get_or, ap, ◌∙◌, rules}
use lib.Bits.{bit_and}
use Rattle.grid.specs.Sets.{bit}
use Rattle.grid.proofs.Digits.{bit-and}
use Rattle.marks.specs.Rows.{is_other}
use Rattle.marks.proofs.Finds.{and_again, some_below}
use Rattle.marks.proofs.Takes.{any_one}
use Rattle.marks.proofs.row.Row.other_than.Goals as goal

-- a tile of both words is one of the word's that has a mark
pub returns : goal.returns
returns c =
    let row = c.args.self.now in
    let word = c.args.tiles.bits in
    let vehicle = c.args.vehicle in
    any_one _ _ (λ tile. not (eqb (get_or row.marks tile 0) vehicle)) (λ x r f called. search rules) _ _ _ c.any.ensures.ran
    ∙ some_below 64
    (λ tile. bit (bit_and word row.taken) tile && not (eqb (get_or row.marks tile 0) vehicle))
    (λ tile. bit word tile && is_other vehicle (get_or row.marks tile 0))
    (λ tile below.
    let own = bit-and word row.taken tile ∙ ap (λ b. bit word tile && b) (row.agree tile below) in
    let at = get_or row.marks tile 0 in
    ap (λ b. b && not (eqb at vehicle)) own ∙ and_again (bit word tile) (not (eqb at 0)) (not (eqb at vehicle)))
