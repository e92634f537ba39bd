-- The ranges of a vehicle's row. Assumes nothing.
use Rattle.std.specs.Prelude.{ℕ, Bool, true, ◌&&◌, ℤ, pos, neg_ℤ, int_le, nat_le}
use Rattle.grid.specs.declared.junction.Junction.{Junction}
use Rattle.grid.specs.Bodies.{fits}
use Rattle.vehicle.specs.declared.rows.Claim.{Claim}
use Rattle.vehicle.specs.declared.rows.State.{State}
use Rattle.vehicle.specs.declared.rows.State.TheVariants.{Idle, Asking, Holding, Changing, Crossing, Done}
use Rattle.vehicle.specs.declared.rows.VehicleRow.{VehicleRow}

-- a request number, and an entry tick
abbrev pub good_claim : Claim → Bool
good_claim c = nat_le 1 c.number && nat_le c.number 1000 && nat_le c.entry 1000127

-- at most b ticks early or late
abbrev pub good_lag : ℕ → ℤ → Bool
good_lag b lag = int_le (neg_ℤ (pos b)) lag && int_le lag (pos b)

-- what a state carries, at a buffer of b ticks
abbrev pub good_state : ℕ → State → Bool
good_state b Idle = true
good_state b (Asking c) = good_claim c
good_state b (Holding c) = good_claim c
good_state b (Changing held awaited) = good_claim held && good_claim awaited
good_state b (Crossing held lag nudged) = good_claim held && good_lag b lag && nat_le nudged 1000000
good_state b (Done tick) = nat_le tick 1000000

-- the numbers beside the body and the state
abbrev pub good_numbers : VehicleRow → Bool
good_numbers row =
    nat_le row.distance 2000
    && nat_le 1 row.first_distance && nat_le row.first_distance 2000
    && nat_le row.arrival 1000000
    && nat_le row.used 1000 && nat_le row.heard 1000

-- all numbers of the row are in their ranges, and its lane suits its movement
unfoldable pub good_row : Junction → VehicleRow → Bool
good_row j row = fits j.lanes row.body && good_numbers row && good_state j.buffer row.state
