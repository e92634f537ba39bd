use Rattle.std.proofs.Common.{w32}
use Rattle.std.proofs.lemmas.Int.{to_z-of_z}
use Rattle.vehicle.proofs.Steps.{no_step, step_or_none}
use Rattle.vehicle.proofs.standing.crossing_tiles.Goals as goal

pub returns-in_default : goal.returns-in_default
returns-in_default c =
    no_step c.args.path.now c.args.clock c.args.entry _ c.args.lag (to_z-of_z w32 c.args.lag c.ranges.lag) _ c.default.ensures c.in_default.ensures

pub returns : goal.returns
returns c =
    step_or_none c.args.path.now c.args.clock c.args.entry _ c.args.lag (to_z-of_z w32 c.args.lag c.ranges.lag) _ c.in-Some.step _
    c.in-Some.ensures c.step_tiles.ensures.answer c.unwrap_or_default.ensures
