-- A tick over rows in lent memory. Assumes nothing.
use Rattle.std.specs.Prelude.{◌≡◌, ℕ, ◌+◌, ◌-◌, ◌<◌, ◌≤◌, Bool, true, cond, List, ◌++◌, length, take, drop, ℤ, Some, None, Option, slice_index_or, slice_set}
use Rattle.std.specs.List.{AllByRecursion}
use Rattle.grid.specs.declared.junction.Junction.{Junction}
use Rattle.grid.specs.Bodies.{fits, lane_number_of}
use Rattle.grid.specs.Steps.{duration_of}
use Rattle.message.specs.declared.row.MessageRow.{MessageRow}
use Rattle.vehicle.specs.declared.rows.Claim.{Claim}
use Rattle.vehicle.specs.declared.rows.State.{State}
use Rattle.vehicle.specs.declared.rows.State.TheVariants.{Crossing}
use Rattle.vehicle.specs.declared.rows.VehicleRow.{VehicleRow}
use Rattle.vehicle.specs.Records.{Good}
use Rattle.vehicle.specs.States.{is_in_lane}
use Rattle.run.specs.Ticks.{AllTurned, Over, Turns, closer, dones, finished}
use Rattle.run.specs.Worlds.{place_behind_of}

-- the places behind the last vehicle seen in each lane, once this one was seen too
abbrev pub noted : List (Option ℕ) → VehicleRow → List (Option ℕ)
noted places row = cond (is_in_lane row.state) (slice_set places (lane_number_of row.body) (Some (place_behind_of row))) places

-- a crossing vehicle of that duration is over
abbrev pub Ends : ℕ → ℕ → State → Type 0
Ends duration clock s = (held : Claim) × (lag : ℤ) × (nudged : ℕ) × (s ≡ Crossing held lag nudged) × Over duration clock held lag

-- a row over the tick, with this place behind the one ahead
pub record TurnedAt (j : Junction) (clock : ℕ) (place : Option ℕ) (r r' : VehicleRow) : Type 0 where
  pub body : r'.body ≡ r.body
  pub first : r'.first_distance ≡ r.first_distance
  pub arrival : r'.arrival ≡ r.arrival
  pub used : r'.used ≡ r.used
  pub heard : r'.heard ≡ r.heard
  pub distance : r'.distance ≡ cond (is_in_lane r.state) (closer r place) r.distance
  pub state : Turns j (duration_of j.lanes r.body) clock r.state r'.state

-- the same of a row that fits, where these were the places; the places after it; and whether it came to its end
pub record Passed (j : Junction) (clock : ℕ) (places places' : List (Option ℕ)) (r r' : VehicleRow) (ended : Bool) : Type 0 where
  pub row : fits j.lanes r.body ≡ true → TurnedAt j clock (slice_index_or places (lane_number_of r.body) None) r r'
  pub seen : places' ≡ noted places r
  pub ended_is : ended ≡ finished r r'

-- a message is put behind the first n, if there is a place
pub record Posted (ms : List MessageRow) (n : ℕ) (m : MessageRow) (ms' : List MessageRow) (count : ℕ) : Type 0 where
  pub free : n < length ms → (ms' ≡ slice_set ms n m) × (count ≡ n + 1)
  pub full : length ms ≤ n → (ms' ≡ ms) × (count ≡ n)

-- rows that make records, not too many, and no more messages than mail has rows
pub record Fit (j : Junction) (vs : List VehicleRow) (ms : List MessageRow) (sent : ℕ) : Type 0 where
  pub rows : AllByRecursion (Good j) vs
  pub few : length vs ≤ 1024
  pub within : sent ≤ length ms

-- as many of xs as find a place are put behind the first n of ms, and all behind them is as it was
pub record Posting (ms : List MessageRow) (n : ℕ) (xs ms' : List MessageRow) (count : ℕ) : Type 0 where
  pub counted : count ≡ length (take n ms ++ take (length ms - n) xs)
  pub memory : ms' ≡ (take n ms ++ take (length ms - n) xs) ++ drop count ms

pub record TurnedAll (j : Junction) (clock : ℕ) (vs vs' : List VehicleRow) (ms ms' : List MessageRow) (sent count : ℕ) : Type 0 where
  pub rows : AllTurned j clock vs vs'
  pub mail : Posting ms sent (dones 1 vs vs') ms' count
