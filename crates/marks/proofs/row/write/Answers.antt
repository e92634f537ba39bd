use Rattle.std.proofs.Common.{get_or, sym, ap, ◌∙◌}
use Rattle.grid.specs.Sets.{bit}
use Rattle.grid.proofs.Digits.{bit_zero}
use Rattle.std.proofs.lemmas.Bool.{cond-false}
use Rattle.marks.proofs.row.write.Goals as goal

pub returns-clause-marks : goal.returns-clause-marks
returns-clause-marks c tile below =
    let off = ap (λ x. bit x tile) c.in-None.ensures.steps ∙ bit_zero tile in
    sym (cond-false (bit c.loop-tile.tile-iterator.rest tile) c.args.vehicle (get_or c.loop-tile.marks tile 0) off) ∙ c.loop-tile.invariant.1 tile
