-- What a state tells of its vehicle. Assumes nothing.
use Rattle.std.specs.Prelude.{ℕ, Bool, true, false, Some, None, Option}
use Rattle.vehicle.specs.declared.rows.Claim.{Claim}
use Rattle.vehicle.specs.declared.rows.State.{State}
use Rattle.vehicle.specs.declared.rows.VehicleRow.{VehicleRow}
use Rattle.vehicle.specs.declared.rows.State.TheVariants.{Idle, Asking, Holding, Changing, Crossing, Done}

-- what the vehicle holds or crosses on
abbrev pub held_of : State → Option Claim
held_of Idle = None
held_of (Asking c) = None
held_of (Holding c) = Some c
held_of (Changing held awaited) = Some held
held_of (Crossing held lag nudged) = Some held
held_of (Done tick) = None

-- what it awaits the answer to
abbrev pub awaited_of : State → Option Claim
awaited_of Idle = None
awaited_of (Asking c) = Some c
awaited_of (Holding c) = None
awaited_of (Changing held awaited) = Some awaited
awaited_of (Crossing held lag nudged) = None
awaited_of (Done tick) = None

-- the vehicle has neither entered nor crossed
abbrev pub is_in_lane : State → Bool
is_in_lane Idle = true
is_in_lane (Asking c) = true
is_in_lane (Holding c) = true
is_in_lane (Changing held awaited) = true
is_in_lane (Crossing held lag nudged) = false
is_in_lane (Done tick) = false

-- the tick at which it was done
abbrev pub done_at : State → Option ℕ
done_at Idle = None
done_at (Asking c) = None
done_at (Holding c) = None
done_at (Changing held awaited) = None
done_at (Crossing held lag nudged) = None
done_at (Done tick) = Some tick

-- the row in another state
abbrev pub in_state : VehicleRow → State → VehicleRow
in_state row s = record {
  body = row.body;
  distance = row.distance;
  first_distance = row.first_distance;
  arrival = row.arrival;
  used = row.used;
  heard = row.heard;
  state = s;
}
