use Rattle.std.proofs.Common.{arith}
use Rattle.grid.proofs.Known.{known}
use Rattle.vehicle.proofs.Reaches.{reach_few}
use Rattle.vehicle.proofs.vehicle.Vehicle.delay.Goals as goal

pub overflow_add-soonest : goal.overflow_add-soonest
overflow_add-soonest c = let v = c.args.self.now in omega (arith, reach_few v.junction v.row v.ok)

pub overflow_add-soonest-2 : goal.overflow_add-soonest-2
overflow_add-soonest-2 c =
    let v = c.args.self.now in
    omega (arith, reach_few v.junction v.row v.ok, (known c.path.result).few)
