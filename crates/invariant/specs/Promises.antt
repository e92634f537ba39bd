-- What holds after every list of run calls. Assumes nothing.
use Rattle.std.specs.Prelude.{◌≡◌, ℕ, List, [], ◌∷◌, Some, Ok, Option, ◌≢◌}
use Rattle.std.specs.List.{ContainsAt as Has}
use Rattle.grid.specs.declared.kinds.Body.{Body}
use Rattle.reservation.specs.declared.request.Request.{Request}
use Rattle.policy.specs.Views.{Told, View}
use Rattle.message.specs.declared.row.MessageRow.{MessageRow}
use Rattle.vehicle.specs.declared.rows.Claim.{Claim}
use Rattle.vehicle.specs.declared.rows.VehicleRow.{VehicleRow}
use Rattle.vehicle.specs.Standing.{OnTile}
use Rattle.vehicle.specs.States.{held_of}
use Rattle.run.specs.declared.call.Call.{Call}
use Rattle.run.specs.declared.run.Run.{Run}
use Rattle.run.specs.Calls.{Agrees, Answer, Makes, Opens}
use Rattle.run.specs.Worlds.{Arrived, Conduct, Stage, row_of, stage, world}

-- the reservation of vehicle v under this claim stands in the ledger, with the body of its record
pub record Reserved (ledger : List Request) (v : ℕ) (held : Claim) (body : Body) : Type 0 where
  pub by : Request
  pub stands : Has ledger by
  pub vehicle : by.vehicle ≡ v
  pub number : by.number ≡ held.number
  pub entry : by.entry ≡ held.entry
  pub shape : by.body ≡ body

module _ (w : View) (vs : List VehicleRow) where
  -- no two vehicles stand on a common tile
  abbrev pub NoCommonTile : Type 0
  NoCommonTile = (v u tile : ℕ) → Arrived vs v → Arrived vs u → (v ≢ u)
      → OnTile w.junction w.clock (row_of vs v) tile → OnTile w.junction w.clock (row_of vs u) tile → ⊥

  -- every Holding, Changing or Crossing vehicle has its reservation in the ledger
  abbrev pub AllReserved : Type 0
  AllReserved = (v : ℕ) (held : Claim) → Arrived vs v → held_of (row_of vs v).state ≡ Some held
      → Reserved w.ledger v held (row_of vs v).body

-- of a run with its memories and its policy: the policy has the run's moment, no two vehicles stand on a common tile,
-- every vehicle that relies on a reservation has it, and the marks of a tile table are those that the ledger gives
pub record Sound {P : Type 0} (view : P → View) (marks : P → Option (ℕ → ℕ → ℕ)) (s : Stage P) : Type 0 where
  pub agrees : Agrees s.run (view s.policy)
  pub apart : NoCommonTile (view s.policy) (world s).vehicles
  pub reserved : AllReserved (view s.policy) (world s).vehicles
  pub marked : Told (marks s.policy) (view s.policy)

-- the calls were made one after the other, and each answered so
pub data Ran {P : Type 0} (c : Conduct P) : Stage P → List Call → List Answer → Stage P → Type 0 where
  none : (s : Stage P) → Ran c s [] [] s
  next : (s between s' : Stage P) (x : Call) (a : Answer) (xs : List Call) (answers : List Answer)
      → Makes c s x a between → Ran c between xs answers s' → Ran c s (x ∷ xs) (a ∷ answers) s'

-- a run was opened, and only run calls were made on it since: so it came to s
pub record Reached {P : Type 0} (c : Conduct P) (s : Stage P) : Type 0 where
  pub vehicles : List VehicleRow
  pub mail : List MessageRow
  pub policy : P
  pub run : Run
  pub opens : Opens vehicles mail (c.view policy) (Ok run)
  pub calls : List Call
  pub answers : List Answer
  pub ran : Ran c (stage run vehicles mail policy) calls answers s
