-- What a call looks at, and what it reads there. Assumes nothing.
use Rattle.std.specs.Prelude.{◌≡◌, ℕ}
use Rattle.message.specs.declared.message.Message.{Message}
use Rattle.vehicle.specs.declared.vehicle.Vehicle.{Vehicle}
use Rattle.run.specs.Worlds.{Stage, message_of, row_of, stage, world}
use Rattle.lent.specs.declared.scene.Scene.{Scene}

-- the stage that a call is given, behind its references
abbrev pub seen : {P : Type 0} → Scene P → Stage P
seen s = stage s.run.now s.vehicles.now s.mail.now s.policy.now

-- the record of vehicle v, from 1
pub record VehicleAt {P : Type 0} (s : Stage P) (v : ℕ) (x : Vehicle) : Type 0 where
  pub junction : x.junction ≡ s.run.junction
  pub row : x.row ≡ row_of (world s).vehicles v

-- message i, from 1
abbrev pub MessageAt : {P : Type 0} → Stage P → ℕ → Message → Type 0
MessageAt s i m = m.row ≡ message_of (world s).mail i
