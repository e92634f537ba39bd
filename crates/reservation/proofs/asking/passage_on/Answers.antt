use Rattle.std.proofs.Common.{arith}
use Rattle.grid.proofs.Known.{known}
use Rattle.reservation.proofs.Ranges.{range_parts}
use Rattle.reservation.proofs.asking.passage_on.Goals as goal

pub overflow_add-result : goal.overflow_add-result
overflow_add-result c =
    let parts = range_parts c.args.path.now.junction c.args.request.now c.requires.ranged in
    let path = known c.args.path.now in
    omega arith

pub overflow_add-result-2 : goal.overflow_add-result-2
overflow_add-result-2 c =
    let parts = range_parts c.args.path.now.junction c.args.request.now c.requires.ranged in
    let path = known c.args.path.now in
    omega arith

pub overflow_sub-result : goal.overflow_sub-result
overflow_sub-result c = let path = known c.args.path.now in omega arith
