-- What a run holds at a moment, whichever its policy. Assumes nothing.
use Rattle.std.specs.Prelude.{◌≡◌, ℕ, ◌+◌, ◌-◌, ◌≤◌, Bool, cond, ◌&&◌, List, [], ◌∷◌, ◌++◌, length, take, drop, Some, None, Option, Result, ◌==◌, slice_index_or}
use Rattle.grid.specs.declared.kinds.Approach.TheVariants.{North}
use Rattle.grid.specs.declared.kinds.Movement.TheVariants.{Through}
use Rattle.grid.specs.Bodies.{lane_number_of}
use Rattle.refusal.specs.declared.kinds.CallFault.{CallFault}
use Rattle.refusal.specs.declared.kinds.Denial.{Denial}
use Rattle.refusal.specs.declared.kinds.Name.{Name}
use Rattle.reservation.specs.declared.request.Request.{Request}
use Rattle.policy.specs.Views.{View}
use Rattle.message.specs.declared.row.MessageRow.{MessageRow}
use Rattle.message.specs.declared.row.MessageRow.TheVariants as message
use Rattle.vehicle.specs.declared.rows.State.TheVariants.{Idle}
use Rattle.vehicle.specs.declared.rows.VehicleRow.{VehicleRow}
use Rattle.vehicle.specs.States.{is_in_lane}
use Rattle.run.specs.declared.run.Run.{Run}

-- how policies of one kind behave: what they tell, and what their calls make of them
pub record Conduct (P : Type 0) : Type 1 where
  pub view : P → View
  pub asks : P → Request → Result (Unit {0}) Denial → P → Type 0
  pub releases : P → Name → Bool → P → Type 0
  pub advances : P → Result (Unit {0}) CallFault → P → Type 0

abbrev pub conduct : {P : Type 0} → (P → View) → (P → Request → Result (Unit {0}) Denial → P → Type 0) → (P → Name → Bool → P → Type 0) → (P → Result (Unit {0}) CallFault → P → Type 0) → Conduct P
conduct view asks releases advances = record { view = view; asks = asks; releases = releases; advances = advances }

-- the counted vehicles, the counted mail and the policy
pub record World (P : Type 0) : Type 0 where
  pub vehicles : List VehicleRow
  pub mail : List MessageRow
  pub policy : P

-- all that a call is given: a run, both memories whole, and the policy
pub record Stage (P : Type 0) : Type 0 where
  pub run : Run
  pub vehicles : List VehicleRow
  pub mail : List MessageRow
  pub policy : P

abbrev pub stage : {P : Type 0} → Run → List VehicleRow → List MessageRow → P → Stage P
stage r vs ms p = record { run = r; vehicles = vs; mail = ms; policy = p }

abbrev pub world : {P : Type 0} → Stage P → World P
world s = record { vehicles = take s.run.vehicles s.vehicles; mail = take s.run.mail s.mail; policy = s.policy }

-- a run of this view, with so many vehicles and messages
pub record Counts (w : View) (vehicles mail : ℕ) (r : Run) : Type 0 where
  pub junction : r.junction ≡ w.junction
  pub clock : r.clock ≡ w.clock
  pub vehicles_are : r.vehicles ≡ vehicles
  pub mail_are : r.mail ≡ mail

-- from s a call came to the world w: its rows stand in front of the memories, and all behind them is as it was
pub record Later {P : Type 0} (view : P → View) (s : Stage P) (w : World P) (s' : Stage P) : Type 0 where
  pub run : Counts (view w.policy) (length w.vehicles) (length w.mail) s'.run
  pub vehicles : s'.vehicles ≡ w.vehicles ++ drop (length w.vehicles) s.vehicles
  pub mail : s'.mail ≡ w.mail ++ drop (length w.mail) s.mail
  pub policy : s'.policy ≡ w.policy

-- vehicle v, from 1, has arrived
abbrev pub Arrived : List VehicleRow → ℕ → Type 0
Arrived vs v = (1 ≤ v) × (v ≤ length vs)

-- a row that stands for none
abbrev pub blank : VehicleRow
blank = record {
  body = record { approach = North; movement = Through; lane = 0; length = 0; speed = 0 };
  distance = 0;
  first_distance = 0;
  arrival = 0;
  used = 0;
  heard = 0;
  state = Idle;
}

abbrev pub no_mail : MessageRow
no_mail = message.Done 0

abbrev pub row_of : List VehicleRow → ℕ → VehicleRow
row_of vs v = slice_index_or vs (v - 1) blank

-- message i, from 1
abbrev pub message_of : List MessageRow → ℕ → MessageRow
message_of ms i = slice_index_or ms (i - 1) no_mail

-- the vehicle is in lane, in the lane of that number
abbrev pub is_of_lane : ℕ → VehicleRow → Bool
is_of_lane lane row = is_in_lane row.state && lane_number_of row.body == lane

abbrev pub or_else : {X : Type 0} → Option X → Option X → Option X
or_else None other = other
or_else (Some x) other = Some x

-- the last of the rows that is in that lane
abbrev pub last_of_lane : ℕ → List VehicleRow → Option VehicleRow
last_of_lane lane [] = None
last_of_lane lane (row ∷ rows) = or_else (last_of_lane lane rows) (cond (is_of_lane lane row) (Some row) None)

-- the next vehicle ahead of vehicle v in its lane: the nearest one of a lower number
abbrev pub ahead_of : List VehicleRow → ℕ → Option VehicleRow
ahead_of vs v = last_of_lane (lane_number_of (row_of vs v).body) (take (v - 1) vs)

-- the least distance of a vehicle behind this one
abbrev pub place_behind_of : VehicleRow → ℕ
place_behind_of row = row.distance + row.body.length + 2
