use Rattle.vehicle.proofs.Steps.{no_tile}
use Rattle.vehicle.proofs.vehicle.Vehicle.tiles.Goals as goal

pub returns-in_default : goal.returns-in_default
returns-in_default c =
    record { answer = no_tile _ _ c.default.ensures (λ tile on. c.in_default.not-Crossing on.held on.lag on.nudged on.crosses) }
