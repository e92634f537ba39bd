use Rattle.std.proofs.Common.{arith}
use Rattle.reservation.proofs.Ranges.{range_parts}
use Rattle.reservation.proofs.footprint.Footprint.last_tick.Goals as goal

pub overflow_add-result : goal.overflow_add-result
overflow_add-result c =
    let f = c.args.self.now in
    let parts = range_parts f.junction f.request f.ranged in
    let lasts = f.lasts in
    omega arith

pub overflow_add-result-2 : goal.overflow_add-result-2
overflow_add-result-2 c =
    let f = c.args.self.now in
    let parts = range_parts f.junction f.request f.ranged in
    let lasts = f.lasts in
    omega arith

pub overflow_sub-result : goal.overflow_sub-result
overflow_sub-result c =
    let f = c.args.self.now in
    let parts = range_parts f.junction f.request f.ranged in
    let lasts = f.lasts in
    omega arith
