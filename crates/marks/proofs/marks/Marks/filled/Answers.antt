use Rattle.std.proofs.Common.{◌%◌, ◌<◌, get_or, ap, arith}
use Rattle.marks.proofs.Rings.{each_row}
use Rattle.marks.proofs.marks.Marks.filled.Goals as goal

pub returns : goal.returns
returns c tile tick =
    let ring : tick % 128 < 128 = omega arith in
    ap (λ m. get_or m tile 0) (each_row 128 (tick % 128) c.args.row ring)
