-- The table of each run call, and what an accepted call does. Assumes nothing.
use Rattle.std.specs.Prelude.{◌≡◌, ℕ, ◌+◌, ◌-◌, ◌<◌, ◌≤◌, Bool, true, false, ◌⊎◌, List, [], ◌∷◌, ◌++◌, length, take, ℤ, pos, negsuc, ◌+ℤ◌, is_some, IfSome, Some, None, Ok, Err, Option, Result, ◌≢◌, slice_set}
use Rattle.std.specs.List.{AllByRecursion}
use Rattle.grid.specs.declared.kinds.Body.{Body}
use Rattle.grid.specs.Bodies.{fits, lane_number_of}
use Rattle.refusal.specs.declared.kinds.CallFault.{CallFault}
use Rattle.refusal.specs.declared.kinds.CallFault.TheVariants as fault
use Rattle.reservation.specs.Entries.{too_early, too_late}
use Rattle.policy.specs.Views.{View}
use Rattle.message.specs.declared.row.MessageRow.{MessageRow}
use Rattle.message.specs.declared.row.MessageRow.TheVariants as message
use Rattle.message.specs.Rows as messages
use Rattle.vehicle.specs.declared.rows.Claim.{Claim}
use Rattle.vehicle.specs.declared.rows.State.{State}
use Rattle.vehicle.specs.declared.rows.State.TheVariants.{Idle, Asking, Holding, Changing, Crossing, Done}
use Rattle.vehicle.specs.declared.rows.VehicleRow.{VehicleRow}
use Rattle.vehicle.specs.Records.{Good}
use Rattle.vehicle.specs.Rows.{good_lag}
use Rattle.vehicle.specs.States.{in_state}
use Rattle.run.specs.declared.call.Call.{Call}
use Rattle.run.specs.declared.call.Call.TheVariants as call
use Rattle.run.specs.declared.run.Run.{Run}
use Rattle.run.specs.Manager.{Delivered, lost}
use Rattle.run.specs.Tables.{Ruled, Table, and_then, end, row}
use Rattle.run.specs.Ticks.{Ticked}
use Rattle.run.specs.Worlds.{Arrived, Conduct, Counts, Later, Stage, World, ahead_of, last_of_lane, message_of, place_behind_of, row_of, world}

-- the memories are not too large, the counts lie within them, and each counted row makes a record or a message
pub record Whole (r : Run) (vs : List VehicleRow) (ms : List MessageRow) : Type 0 where
  pub vehicles : length vs ≤ 1024
  pub mail : length ms ≤ 256
  pub vehicle_count : r.vehicles ≤ length vs
  pub mail_count : r.mail ≤ length ms
  pub rows : AllByRecursion (Good r.junction) (take r.vehicles vs)
  pub messages : AllByRecursion (λ m. messages.good_row m ≡ true) (take r.mail ms)

-- the policy has the run's clock, lanes and buffer
pub record Agrees (r : Run) (w : View) : Type 0 where
  pub junction : r.junction ≡ w.junction
  pub clock : r.clock ≡ w.clock

-- the row of vehicle v with its next number and that state
abbrev pub numbered : VehicleRow → State → VehicleRow
numbered r s = record {
  body = r.body;
  distance = r.distance;
  first_distance = r.first_distance;
  arrival = r.arrival;
  used = r.used + 1;
  heard = r.heard;
  state = s;
}

-- the claim to an entry under the next number
abbrev pub next_claim : VehicleRow → ℕ → Claim
next_claim r e = record { number = r.used + 1; entry = e }

-- which states allow an ask; a change or a cancel, with what is held; and a nudge
abbrev pub MayAsk : State → Type 0
MayAsk s = (s ≡ Idle) ⊎ ((c : Claim) × (s ≡ Asking c))

abbrev pub keeping : State → Option Claim
keeping Idle = None
keeping (Asking c) = None
keeping (Holding held) = Some held
keeping (Changing held awaited) = Some held
keeping (Crossing held lag nudged) = None
keeping (Done tick) = None

abbrev pub is_crossing : State → Bool
is_crossing Idle = false
is_crossing (Asking c) = false
is_crossing (Holding held) = false
is_crossing (Changing held awaited) = false
is_crossing (Crossing held lag nudged) = true
is_crossing (Done tick) = false

-- one tick later or earlier
abbrev pub OneTick : ℤ → Type 0
OneTick by = (by ≡ pos 1) ⊎ (by ≡ negsuc 0)

-- a vehicle as it arrives
abbrev pub arriving : ℕ → Body → ℕ → VehicleRow
arriving clock b d = record { body = b; distance = d; first_distance = d; arrival = clock; used = 0; heard = 0; state = Idle }

-- the tables
module _ {P : Type 0} (view : P → View) (s : Stage P) where
  -- the rows of every run call but open
  abbrev pub common : Table
  common = row fault.Memory (Whole s.run s.vehicles s.mail) (row fault.Policy (Agrees s.run (view s.policy)) end)

  -- the rows of every call on vehicle v
  abbrev pub of_vehicle : ℕ → Table
  of_vehicle v = and_then common (row fault.NoVehicle (Arrived (world s).vehicles v) end)

  -- there is a message i, from 1
  abbrev pub InMail : ℕ → Type 0
  InMail i = (1 ≤ i) × (i ≤ s.run.mail)

  -- the rows of every call on message i
  abbrev pub of_message : ℕ → Table
  of_message i = and_then common (row fault.NoMessage (InMail i) end)

-- an entry that may be asked for, a number that is left, and room for the message: at this run, for this row
abbrev pub sending : Run → VehicleRow → ℕ → ℕ → Table
sending r x e room =
    row fault.TooEarly (too_early r.junction x.body r.clock x.distance e ≡ false)
    (row fault.TooLate (too_late r.junction x.body r.clock e ≡ false)
    (row fault.NumbersUsed (x.used < 1000)
    (row fault.MailFull (r.mail < room) end)))

-- what each call does
module _ {P : Type 0} (c : Conduct P) (s s' : Stage P) where
  abbrev w : World P
  w = world s

  abbrev clock : ℕ
  clock = s.run.clock

  abbrev there : ℕ → VehicleRow
  there v = row_of (world s).vehicles v

  abbrev MailRoom : Type 0
  MailRoom = s.run.mail < length s.mail

  -- the call came to another world
  abbrev To : World P → Type 0
  To w' = Later c.view s w' s'

  abbrev posted : ℕ → VehicleRow → MessageRow → World P
  posted v r m = record { vehicles = slice_set w.vehicles (v - 1) r; mail = w.mail ++ m ∷ []; policy = w.policy }

  abbrev rewritten : ℕ → VehicleRow → World P
  rewritten v r = record { vehicles = slice_set w.vehicles (v - 1) r; mail = w.mail; policy = w.policy }

  abbrev pub Arrives : Body → ℕ → Result ℕ CallFault → Type 0
  Arrives b d = Ruled
      (and_then (common c.view s)
      (row fault.Arrival ((fits s.run.junction.lanes b ≡ true) × (1 ≤ d) × (d ≤ 2000))
      (row fault.VehiclesFull (s.run.vehicles < length s.vehicles)
      (row fault.TooClose (IfSome (last_of_lane (lane_number_of b) w.vehicles) (λ last. place_behind_of last ≤ d)) end))))
      (λ v. (v ≡ s.run.vehicles + 1) × To (record { vehicles = w.vehicles ++ arriving clock b d ∷ []; mail = w.mail; policy = w.policy }))
      (s' ≡ s)

  abbrev pub Asks : ℕ → ℕ → Result ℕ CallFault → Type 0
  Asks v e = Ruled
      (and_then (of_vehicle c.view s v)
      (row fault.State (MayAsk (there v).state)
      (row fault.NotLead (ahead_of w.vehicles v ≡ None) (sending s.run (there v) e (length s.mail)))))
      (λ q. (q ≡ (there v).used + 1) × To (posted v (numbered (there v) (Asking (next_claim (there v) e))) (message.Request v q e (there v).distance)))
      (s' ≡ s)

  abbrev pub Changes : ℕ → ℕ → Result ℕ CallFault → Type 0
  Changes v e = Ruled
      (and_then (of_vehicle c.view s v) (row fault.State (is_some (keeping (there v).state) ≡ true) (sending s.run (there v) e (length s.mail))))
      (λ q. (q ≡ (there v).used + 1) × ((held : Claim) × (keeping (there v).state ≡ Some held)
      × To (posted v (numbered (there v) (Changing held (next_claim (there v) e))) (message.Change v q held.number e (there v).distance))))
      (s' ≡ s)

  abbrev pub Cancels : ℕ → Result (Unit {0}) CallFault → Type 0
  Cancels v = Ruled
      (and_then (of_vehicle c.view s v) (row fault.State (is_some (keeping (there v).state) ≡ true) (row fault.MailFull MailRoom end)))
      (λ _. (held : Claim) × (keeping (there v).state ≡ Some held) × To (posted v (in_state (there v) Idle) (message.Cancel v held.number)))
      (s' ≡ s)

  -- the lag and the tick of the last nudge of a crossing vehicle
  abbrev pub Crosses : ℕ → Claim → ℤ → ℕ → Type 0
  Crosses v held lag nudged = (there v).state ≡ Crossing held lag nudged

  abbrev pub Nudges : ℕ → ℤ → Result (Unit {0}) CallFault → Type 0
  Nudges v by = Ruled
      (and_then (of_vehicle c.view s v)
      (row fault.State (is_crossing (there v).state ≡ true)
      (row fault.Nudge (OneTick by × ((held : Claim) (lag : ℤ) (nudged : ℕ) → Crosses v held lag nudged → nudged ≢ clock))
      (row fault.Lag ((held : Claim) (lag : ℤ) (nudged : ℕ) → Crosses v held lag nudged → good_lag s.run.junction.buffer (lag +ℤ by) ≡ true) end))))
      (λ _. (held : Claim) × (lag : ℤ) × (nudged : ℕ) × Crosses v held lag nudged × To (rewritten v (in_state (there v) (Crossing held (lag +ℤ by) clock))))
      (s' ≡ s)

  abbrev pub Delivers : ℕ → Result (Unit {0}) CallFault → Type 0
  Delivers i = Ruled (of_message c.view s i) (λ _. (w' : World P) × Delivered c w i (message_of w.mail i) w' × To w') (s' ≡ s)

  abbrev pub Loses : ℕ → Result (Unit {0}) CallFault → Type 0
  Loses i = Ruled (of_message c.view s i) (λ _. To (lost w i)) (s' ≡ s)

  abbrev pub Repeats : ℕ → Result (Unit {0}) CallFault → Type 0
  Repeats i = Ruled
      (and_then (of_message c.view s i) (row fault.MailFull MailRoom end))
      (λ _. To (record { vehicles = w.vehicles; mail = w.mail ++ message_of w.mail i ∷ []; policy = w.policy }))
      (s' ≡ s)

  abbrev pub Ticks : Result (Unit {0}) CallFault → Type 0
  Ticks = Ruled
      (and_then (common c.view s) (row fault.ClockEnd (clock < 1000000) end))
      (λ _. (w' : World P) × Ticked c (length s.mail) w w' × To w')
      (s' ≡ s)

-- a run is opened over a new policy: it has no vehicle and no mail yet
abbrev pub Opens : List VehicleRow → List MessageRow → View → Result Run CallFault → Type 0
Opens vs ms v = Ruled
    (row fault.Memory ((length vs ≤ 1024) × (length ms ≤ 256))
    (row fault.Policy ((v.clock ≡ 0) × (v.ledger ≡ [])) end))
    (Counts v 0 0) (Unit {0})

-- what any call answers: an accepted one a number, or none
abbrev pub Answer : Type 0
Answer = Result (Option ℕ) CallFault

-- what an answer by number, or without one, is as an answer of any call
abbrev pub answer_by_number : Result ℕ CallFault → Answer
answer_by_number (Ok n) = Ok (Some n)
answer_by_number (Err f) = Err f

abbrev pub plain : {X : Type 0} → Result X CallFault → Answer
plain (Ok _) = Ok None
plain (Err f) = Err f

-- the run after an open: the new one, or where it was refused the one before
abbrev pub opened : Run → Result Run CallFault → Run
opened r (Ok new) = new
opened r (Err f) = r

-- open over the memories and the policy of s, which stay
pub record Reopens {P : Type 0} (c : Conduct P) (s s' : Stage P) (a : Result Run CallFault) : Type 0 where
  pub answer : Opens s.vehicles s.mail (c.view s.policy) a
  pub run : s'.run ≡ opened s.run a
  pub vehicles : s'.vehicles ≡ s.vehicles
  pub mail : s'.mail ≡ s.mail
  pub policy : s'.policy ≡ s.policy

-- any call makes s' of s, and answers so
abbrev pub Makes : {P : Type 0} → Conduct P → Stage P → Call → Answer → Stage P → Type 0
Makes c s call.Open a s' = (r : Result Run CallFault) × Reopens c s s' r × (a ≡ plain r)
Makes c s (call.Arrive b d) a s' = (r : Result ℕ CallFault) × Arrives c s s' b d r × (a ≡ answer_by_number r)
Makes c s (call.Ask v e) a s' = (r : Result ℕ CallFault) × Asks c s s' v e r × (a ≡ answer_by_number r)
Makes c s (call.Change v e) a s' = (r : Result ℕ CallFault) × Changes c s s' v e r × (a ≡ answer_by_number r)
Makes c s (call.Cancel v) a s' = (r : Result (Unit {0}) CallFault) × Cancels c s s' v r × (a ≡ plain r)
Makes c s (call.Nudge v by) a s' = (r : Result (Unit {0}) CallFault) × Nudges c s s' v by r × (a ≡ plain r)
Makes c s (call.Deliver i) a s' = (r : Result (Unit {0}) CallFault) × Delivers c s s' i r × (a ≡ plain r)
Makes c s (call.Lose i) a s' = (r : Result (Unit {0}) CallFault) × Loses c s s' i r × (a ≡ plain r)
Makes c s (call.Repeat i) a s' = (r : Result (Unit {0}) CallFault) × Repeats c s s' i r × (a ≡ plain r)
Makes c s call.Tick a s' = (r : Result (Unit {0}) CallFault) × Ticks c s s' r × (a ≡ plain r)
