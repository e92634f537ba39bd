-- What a tick does. Assumes nothing.
use Rattle.std.specs.Prelude.{◌≡◌, ℕ, ◌+◌, ◌-◌, min, max, Bool, true, cond, not, ◌&&◌, List, [], ◌∷◌, ◌++◌, length, take, ℤ, pos, ◌+ℤ◌, ◌≤ℤ◌, is_some, Some, None, Ok, Option}
use Rattle.std.specs.Option.{option_map}
use Rattle.grid.specs.declared.junction.Junction.{Junction}
use Rattle.grid.specs.Steps.{duration_of}
use Rattle.message.specs.declared.row.MessageRow.{MessageRow}
use Rattle.message.specs.declared.row.MessageRow.TheVariants as message
use Rattle.vehicle.specs.declared.rows.Claim.{Claim}
use Rattle.vehicle.specs.declared.rows.State.{State}
use Rattle.vehicle.specs.declared.rows.State.TheVariants.{Crossing, Done}
use Rattle.vehicle.specs.declared.rows.VehicleRow.{VehicleRow}
use Rattle.vehicle.specs.States.{done_at, held_of, is_in_lane}
use Rattle.run.specs.Worlds.{Arrived, Conduct, World, ahead_of, place_behind_of, row_of}

-- how far it is from the line after a tick, with this place behind the one ahead as that was before the tick: a lead
-- falls by its speed; a follower too, but not below that place, and it never rises
abbrev pub closer : VehicleRow → Option ℕ → ℕ
closer row None = row.distance - row.body.speed
closer row (Some place) = min row.distance (max (row.distance - row.body.speed) place)

-- who is not in lane keeps its distance
abbrev pub distance_after : VehicleRow → Option VehicleRow → ℕ
distance_after row ahead = cond (is_in_lane row.state) (closer row (option_map place_behind_of ahead)) row.distance

-- a vehicle in lane that holds this enters at the clock
abbrev pub Enters : Junction → ℕ → State → Claim → Type 0
Enters j clock s held = (is_in_lane s ≡ true) × (held_of s ≡ Some held) × (held.entry ≡ clock + j.buffer)

-- a crossing is over at the clock: clock − entry − lag is not below the duration
abbrev pub Over : ℕ → ℕ → Claim → ℤ → Type 0
Over duration clock held lag = (pos (held.entry + duration) +ℤ lag) ≤ℤ pos clock

-- a state over the tick that comes to the clock, of a vehicle that takes so long to cross
pub data Turns (j : Junction) (duration clock : ℕ) (s s' : State) : Type 0 where
  enters : (held : Claim) → Enters j clock s held → s' ≡ Crossing held (pos 0) 0 → Turns j duration clock s s'
  finishes : (held : Claim) (lag : ℤ) (nudged : ℕ) → s ≡ Crossing held lag nudged → Over duration clock held lag → s' ≡ Done clock → Turns j duration clock s s'
  goes_on : ((held : Claim) → Enters j clock s held → ⊥)
      → ((held : Claim) (lag : ℤ) (nudged : ℕ) → s ≡ Crossing held lag nudged → Over duration clock held lag → ⊥)
      → s' ≡ s → Turns j duration clock s s'

-- a row over that tick, with the row of the vehicle ahead as it was before
pub record Turned (j : Junction) (clock : ℕ) (ahead : Option VehicleRow) (r r' : VehicleRow) : Type 0 where
  pub body : r'.body ≡ r.body
  pub first : r'.first_distance ≡ r.first_distance
  pub arrival : r'.arrival ≡ r.arrival
  pub used : r'.used ≡ r.used
  pub heard : r'.heard ≡ r.heard
  pub distance : r'.distance ≡ distance_after r ahead
  pub state : Turns j (duration_of j.lanes r.body) clock r.state r'.state

-- all rows
pub record AllTurned (j : Junction) (clock : ℕ) (vs vs' : List VehicleRow) : Type 0 where
  pub count : length vs' ≡ length vs
  pub each : (v : ℕ) → Arrived vs v → Turned j clock (ahead_of vs v) (row_of vs v) (row_of vs' v)

-- whether it came to be Done
abbrev pub finished : VehicleRow → VehicleRow → Bool
finished r r' = not (is_some (done_at r.state)) && is_some (done_at r'.state)

-- the DONE messages of those that came to their end, by vehicle number from v on
abbrev pub dones : ℕ → List VehicleRow → List VehicleRow → List MessageRow
dones v [] rs' = []
dones v (r ∷ rs) [] = []
dones v (r ∷ rs) (r' ∷ rs') = cond (finished r r') (message.Done v ∷ dones (v + 1) rs rs') (dones (v + 1) rs rs')

-- the world over a tick, where mail has room for so many: the policy is advanced, each row goes on, and as many DONE
-- messages as there is room for are sent
pub record Ticked {P : Type 0} (c : Conduct P) (room : ℕ) (w w' : World P) : Type 0 where
  pub policy : c.advances w.policy (Ok tt) w'.policy
  pub vehicles : AllTurned (c.view w.policy).junction ((c.view w.policy).clock + 1) w.vehicles w'.vehicles
  pub mail : w'.mail ≡ w.mail ++ take (room - length w.mail) (dones 1 w.vehicles w'.vehicles)
