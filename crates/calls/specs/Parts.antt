-- What parts of the calls do to the run. Assumes nothing.
use Rattle.std.specs.Prelude.{◌≡◌, ◌+◌}
use Rattle.run.specs.declared.run.Run.{Run}

-- all but the count of its mail is as it was
pub record ButMail (r r' : Run) : Type 0 where
  pub junction : r'.junction ≡ r.junction
  pub clock : r'.clock ≡ r.clock
  pub vehicles : r'.vehicles ≡ r.vehicles

-- the clock went on by one, and the rest is as it was
pub record OneOn (r r' : Run) : Type 0 where
  pub junction : r'.junction ≡ r.junction
  pub clock : r'.clock ≡ r.clock + 1
  pub vehicles : r'.vehicles ≡ r.vehicles
  pub mail : r'.mail ≡ r.mail
