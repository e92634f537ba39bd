use Rattle.std.proofs.Common.{arith}
use Rattle.reservation.proofs.Ranges.{range_parts}
use Rattle.tile_table.proofs.meeting.mark_of.Goals as goal

pub overflow_cast-result : goal.overflow_cast-result
overflow_cast-result c =
    let f = c.args.footprint.now in
    let p = range_parts f.junction f.request f.ranged in
    omega (arith, p.vehicles)
