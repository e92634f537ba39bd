-- What holds of every world of a run, clause by clause. Assumes nothing.
use Rattle.std.proofs.Common.{◌≡◌, ℕ, ◌+◌, ◌<◌, ◌≤◌, true, List, ℤ, is_some, Some, Option, Result}
use Rattle.std.specs.List.{ContainsAt as Has}
use Rattle.grid.specs.declared.junction.Junction.{Junction}
use Rattle.refusal.specs.declared.kinds.Denial.{Denial}
use Rattle.refusal.specs.declared.kinds.Name.{Name}
use Rattle.refusal.specs.declared.kinds.Reason.{Reason}
use Rattle.refusal.specs.declared.kinds.CallFault.{CallFault}
use Rattle.reservation.specs.declared.request.Request.{Request}
use Rattle.reservation.specs.Cells.{share}
use Rattle.policy.specs.Answers.{Answer}
use Rattle.policy.specs.Views.{Advanced, View, asked, released}
use Rattle.message.specs.declared.row.MessageRow.{MessageRow}
use Rattle.message.specs.declared.row.MessageRow.TheVariants as message
use Rattle.message.specs.Rows.{vehicle_of}
use Rattle.vehicle.specs.declared.rows.Claim.{Claim}
use Rattle.vehicle.specs.declared.rows.State.TheVariants.{Crossing}
use Rattle.vehicle.specs.declared.rows.VehicleRow.{VehicleRow}
use Rattle.vehicle.specs.Rows.{good_lag}
use Rattle.vehicle.specs.States.{awaited_of, done_at, held_of, is_in_lane}
use Rattle.run.specs.Worlds.{Arrived, Conduct, row_of}
use Rattle.invariant.specs.Promises.{Reserved}

-- what is known of a kind of policy: its laws, as far as they are needed here
pub record Lawful {P : Type 0} (clash : Junction → Request → Request → Type 0) (c : Conduct P) : Type 0 where
  pub symmetric : (j : Junction) (x y : Request) → clash j x y → clash j y x
  pub covers : (j : Junction) (x y : Request) → share j x y ≡ true → clash j x y
  pub answers : (p : P) (r : Request) (a : Result (Unit {0}) Denial) (p' : P) → c.asks p r a p' → (g : Option Reason) × Answer clash (c.view p) g r a
  pub records : (p : P) (r : Request) (a : Result (Unit {0}) Denial) (p' : P) → c.asks p r a p' → c.view p' ≡ asked (c.view p) r a
  pub removes : (p : P) (n : Name) (a : _) (p' : P) → c.releases p n a p' → c.view p' ≡ released (c.view p) n
  pub passes : (p : P) (a : Result (Unit {0}) CallFault) (p' : P) → c.advances p a p' → Advanced (c.view p) a (c.view p')

-- a request of that name stands
pub record Named (ledger : List Request) (v q : ℕ) : Type 0 where
  pub by : Request
  pub stands : Has ledger by
  pub vehicle : by.vehicle ≡ v
  pub number : by.number ≡ q

-- what the vehicle holds, and what it awaits
abbrev pub Holds : VehicleRow → Claim → Type 0
Holds r held = held_of r.state ≡ Some held

abbrev pub Awaits : VehicleRow → Claim → Type 0
Awaits r awaited = awaited_of r.state ≡ Some awaited

-- a message in mail, beside the row of its vehicle
abbrev pub Fits : View → VehicleRow → MessageRow → Type 0
Fits w r (message.Request v q e d) =
    (q ≤ r.used) × ((h : Claim) → Holds r h → q ≤ r.heard) × ((a : Claim) → Awaits r a → q ≡ a.number → e ≡ a.entry)
Fits w r (message.Change v q b e d) =
    (q ≤ r.used) × ((h : Claim) → Holds r h → r.heard < q → b ≡ h.number) × ((a : Claim) → Awaits r a → q ≡ a.number → e ≡ a.entry)
Fits w r (message.Cancel v q) =
    (q ≤ r.used) × ((h : Claim) → Holds r h → q ≡ h.number → ⊥) × ((a : Claim) → Awaits r a → q ≡ a.number → ⊥)
Fits w r (message.Done v) = is_some (done_at r.state) ≡ true
Fits w r (message.Confirm v q e) =
    (q ≤ r.heard) × ((a : Claim) → Awaits r a → q ≡ a.number → w.clock + w.junction.buffer < a.entry → Named w.ledger v q)
Fits w r (message.Reject v q why) = Unit {0}

-- a standing request, beside the row of its vehicle
pub record Right (r : VehicleRow) (x : Request) : Type 0 where
  pub shape : x.body ≡ r.body
  pub heard : x.number ≤ r.heard
  pub entry : (a : Claim) → Awaits r a → x.number ≡ a.number → x.entry ≡ a.entry

-- a row by itself, beside the ledger
pub record Sits (w : View) (v : ℕ) (r : VehicleRow) : Type 0 where
  pub heard : r.heard ≤ r.used
  pub latest : (a : Claim) → Awaits r a → a.number ≡ r.used
  pub apart : (a h : Claim) → Awaits r a → Holds r h → h.number ≡ a.number → ⊥
  pub ahead : (h : Claim) → Holds r h → is_in_lane r.state ≡ true → w.clock + w.junction.buffer < h.entry
  pub reserved : (h : Claim) → Holds r h → Reserved w.ledger v h r.body
  pub lag : (h : Claim) (l : ℤ) (t : ℕ) → r.state ≡ Crossing h l t → good_lag w.junction.buffer l ≡ true

-- requests of different vehicles do not clash
abbrev pub Apart : (Junction → Request → Request → Type 0) → View → Type 0
Apart clash w = (x y : Request) → Has w.ledger x → Has w.ledger y → (x.vehicle ≡ y.vehicle → ⊥) → clash w.junction x y → ⊥

-- by what the clauses speak of: messages, standing requests, rows, pairs of standing requests
pub record Inv (clash : Junction → Request → Request → Type 0) (w : View) (vs : List VehicleRow) (ms : List MessageRow) : Type 0 where
  pub mail : (m : MessageRow) → Has ms m → Arrived vs (vehicle_of m) × Fits w (row_of vs (vehicle_of m)) m
  pub ledger : (x : Request) → Has w.ledger x → Arrived vs x.vehicle × Right (row_of vs x.vehicle) x
  pub own : (v : ℕ) → Arrived vs v → Sits w v (row_of vs v)
  pub free : Apart clash w
