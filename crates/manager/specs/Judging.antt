-- What the manager does with a number that it has not heard before. Assumes nothing.
use Rattle.std.specs.Prelude.{◌≡◌, ℕ, ◌<◌, Some, Option, Result}
use Rattle.refusal.specs.declared.kinds.Denial.{Denial}
use Rattle.refusal.specs.declared.kinds.Denial.TheVariants.{Because}
use Rattle.refusal.specs.declared.kinds.Name.{Name}
use Rattle.refusal.specs.declared.kinds.Reason.TheVariants.{BaseGone}
use Rattle.reservation.specs.declared.request.Request.{Request}
use Rattle.message.specs.declared.row.MessageRow.{MessageRow}
use Rattle.message.specs.declared.row.MessageRow.TheVariants.{Reject}
use Rattle.vehicle.specs.declared.rows.VehicleRow.{VehicleRow}
use Rattle.run.specs.Manager.{Based, Cleared, Outcome, hearing, verdict}
use Rattle.run.specs.Worlds.{Conduct}

module _ {P : Type 0} (c : Conduct P) where
  -- the policy p was asked for r and became p', and the reply tells its answer
  pub record Asked (p : P) (r : Request) (p' : P) (reply : MessageRow) : Type 0 where
    pub answer : Result (Unit {0}) Denial
    pub asked : c.asks p r answer p'
    pub told : reply ≡ verdict r.vehicle r.number r.entry answer

  -- a request of a new number, whose base stands if it has one: the number is heard, the earlier requests but the base are
  -- released, and then the policy is asked
  pub record Renewed (p : P) (row : VehicleRow) (r : Request) (base : Option ℕ) (o : Outcome P) : Type 0 where
    pub new : row.heard < r.number
    pub based : Based (c.view p) r.vehicle base
    pub between : P
    pub cleared : Cleared c r.vehicle base p between
    pub reply : MessageRow
    pub asked : Asked between r o.policy reply
    pub heard : o.row ≡ hearing row r.number
    pub told : o.reply ≡ Some reply

  -- a change of a new number, whose base does not stand: the number is heard, the earlier requests are released, and the
  -- reply says so
  pub record Denied (p : P) (row : VehicleRow) (n : Name) (b : ℕ) (o : Outcome P) : Type 0 where
    pub new : row.heard < n.number
    pub gone : Based (c.view p) n.vehicle (Some b) → ⊥
    pub cleared : Cleared c n.vehicle (Some b) p o.policy
    pub heard : o.row ≡ hearing row n.number
    pub told : o.reply ≡ Some (Reject n.vehicle n.number (Because BaseGone))
