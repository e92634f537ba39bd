-- What is done with a delivered message. Assumes nothing.
use Rattle.std.specs.Prelude.{◌≡◌, ℕ, ◌-◌, ◌<◌, Bool, true, List, Some, None, Ok, Err, Option, Result, ◌≢◌, slice_set}
use Rattle.std.specs.List.{ContainsAt as Has, remove}
use Rattle.refusal.specs.declared.kinds.Denial.{Denial}
use Rattle.refusal.specs.declared.kinds.Denial.TheVariants.{Because}
use Rattle.refusal.specs.declared.kinds.Name.{Name}
use Rattle.refusal.specs.declared.kinds.Reason.TheVariants.{Answered, BaseGone}
use Rattle.reservation.specs.declared.request.Request.{Request}
use Rattle.reservation.specs.Requests.{name_of}
use Rattle.policy.specs.Answers.{Earliest}
use Rattle.policy.specs.Views.{View, found}
use Rattle.message.specs.declared.row.MessageRow.{MessageRow}
use Rattle.message.specs.declared.row.MessageRow.TheVariants as message
use Rattle.message.specs.Rows.{vehicle_of}
use Rattle.vehicle.specs.declared.rows.State.{State}
use Rattle.vehicle.specs.declared.rows.VehicleRow.{VehicleRow}
use Rattle.vehicle.specs.Hearing.{Told}
use Rattle.vehicle.specs.States.{in_state}
use Rattle.run.specs.Worlds.{Arrived, Conduct, World, row_of}

abbrev pub name : ℕ → ℕ → Name
name v q = record { vehicle = v; number = q }

-- what comes of a delivery: the vehicle's row, the policy, and the message that takes the place of the delivered one
pub record Outcome (P : Type 0) : Type 0 where
  pub row : VehicleRow
  pub policy : P
  pub reply : Option MessageRow

abbrev pub outcome : {P : Type 0} → VehicleRow → P → Option MessageRow → Outcome P
outcome r p m = record { row = r; policy = p; reply = m }

-- the row, once the manager has heard the number q
abbrev pub hearing : VehicleRow → ℕ → VehicleRow
hearing r q = record {
  body = r.body;
  distance = r.distance;
  first_distance = r.first_distance;
  arrival = r.arrival;
  used = r.used;
  heard = q;
  state = r.state;
}

-- the reply to a number that was heard before: by whether its request still stands, and with which entry
abbrev pub again : ℕ → ℕ → Option ℕ → MessageRow
again v q (Some e) = message.Confirm v q e
again v q None = message.Reject v q (Because Answered)

-- the reply that tells what the policy answered
abbrev pub verdict : ℕ → ℕ → ℕ → Result (Unit {0}) Denial → MessageRow
verdict v q e (Ok _) = message.Confirm v q e
verdict v q e (Err why) = message.Reject v q why

-- what the policy is asked: the rest comes from the vehicle's record
abbrev pub request : VehicleRow → ℕ → ℕ → ℕ → ℕ → Request
request r v q e d = record { vehicle = v; number = q; body = r.body; distance = d; entry = e }

-- a request of v that is not its base
abbrev pub Stale : ℕ → Option ℕ → Request → Type 0
Stale v base x = (x.vehicle ≡ v) × (base ≢ Some x.number)

-- the base, if there is one, stands
abbrev pub Based : View → ℕ → Option ℕ → Type 0
Based w v None = Unit {0}
Based w v (Some b) = found (name v b) w.ledger ≡ None → ⊥

module _ {P : Type 0} (c : Conduct P) where
  -- the standing requests of v but the base are released, one by one in the order granted
  pub data Cleared (v : ℕ) (base : Option ℕ) : P → P → Type 0 where
    over : (p : P) → ((x : Request) → Has (c.view p).ledger x → Stale v base x → ⊥) → Cleared v base p p
    more : (p between p' : P) (x : Request) → Earliest (Stale v base) (c.view p).ledger x → c.releases p (name_of x) true between
        → Cleared v base between p' → Cleared v base p p'

  -- the manager hears a REQUEST, or a CHANGE with its base
  pub data Judged (p : P) (row : VehicleRow) (v q e d : ℕ) (base : Option ℕ) (o : Outcome P) : Type 0 where
    old : q < row.heard → o ≡ outcome row p None → Judged p row v q e d base o
    known : q ≡ row.heard → o ≡ outcome row p (Some (again v q (found (name v q) (c.view p).ledger))) → Judged p row v q e d base o
    baseless : row.heard < q → (p' : P) → Cleared v base p p' → (Based (c.view p') v base → ⊥)
        → o ≡ outcome (hearing row q) p' (Some (message.Reject v q (Because BaseGone))) → Judged p row v q e d base o
    judged : row.heard < q → (between : P) → Cleared v base p between → Based (c.view between) v base
        → (a : Result (Unit {0}) Denial) (p' : P) → c.asks between (request row v q e d) a p'
        → o ≡ outcome (hearing row q) p' (Some (verdict v q e a)) → Judged p row v q e d base o

  -- the vehicle hears an answer: it alone changes, and may send a message
  pub record Responds (p : P) (row : VehicleRow) (v : ℕ) (m : MessageRow) (o : Outcome P) : Type 0 where
    pub state : State
    pub told : Told (c.view p).junction (c.view p).clock v row.state m (state, o.reply)
    pub row_is : o.row ≡ in_state row state
    pub policy_is : o.policy ≡ p

  -- what is done with a message
  abbrev pub Acts : P → VehicleRow → MessageRow → Outcome P → Type 0
  Acts p row (message.Request v q e d) o = Judged p row v q e d None o
  Acts p row (message.Change v q b e d) o = Judged p row v q e d (Some b) o
  Acts p row (message.Cancel v q) o = (b : Bool) × c.releases p (name v q) b o.policy × (o.row ≡ row) × (o.reply ≡ None)
  Acts p row (message.Done v) o = Cleared v None p o.policy × (o.row ≡ row) × (o.reply ≡ None)
  Acts p row (message.Confirm v q e) o = Responds p row v (message.Confirm v q e) o
  Acts p row (message.Reject v q why) o = Responds p row v (message.Reject v q why) o

-- a reply takes the place of message i, from 1, which is delivered; without one the later messages move up
abbrev pub replied : List MessageRow → ℕ → Option MessageRow → List MessageRow
replied ms i None = remove ms (i - 1)
replied ms i (Some m) = slice_set ms (i - 1) m

abbrev pub lost : {P : Type 0} → World P → ℕ → World P
lost w i = record { vehicles = w.vehicles; mail = remove w.mail (i - 1); policy = w.policy }

abbrev pub settled : {P : Type 0} → World P → ℕ → ℕ → Outcome P → World P
settled w i v o = record { vehicles = slice_set w.vehicles (v - 1) o.row; mail = replied w.mail i o.reply; policy = o.policy }

-- message m, the i-th of the world, is delivered
pub data Delivered {P : Type 0} (c : Conduct P) (w : World P) (i : ℕ) (m : MessageRow) (w' : World P) : Type 0 where
  acted : Arrived w.vehicles (vehicle_of m) → (o : Outcome P) → Acts c w.policy (row_of w.vehicles (vehicle_of m)) m o
      → w' ≡ settled w i (vehicle_of m) o → Delivered c w i m w'
  dropped : (Arrived w.vehicles (vehicle_of m) → ⊥) → w' ≡ lost w i → Delivered c w i m w'
