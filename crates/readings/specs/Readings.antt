-- What a run tells. Assumes nothing.
use Rattle.std.specs.Prelude.{◌≡◌}
use Rattle.run.specs.declared.run.Run.{Run}
use Rattle.readings.specs.declared.moment.Moment.{Moment}

-- the run's clock and counts
pub record MomentOf (r : Run) (m : Moment) : Type 0 where
  pub clock : m.clock ≡ r.clock
  pub vehicles : m.vehicles ≡ r.vehicles
  pub mail : m.mail ≡ r.mail
