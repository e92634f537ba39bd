-- How late a vehicle was. Assumes nothing.
use Rattle.std.specs.Prelude.{ℕ, ◌+◌, ◌-◌, ◌/◌, Option}
use Rattle.std.specs.Option.{option_map}
use Rattle.grid.specs.declared.junction.Junction.{Junction}
use Rattle.grid.specs.Steps.{duration_of}
use Rattle.vehicle.specs.declared.rows.VehicleRow.{VehicleRow}
use Rattle.vehicle.specs.States.{done_at}

-- the ticks from its arrival to the stop line if it never waits: first distance / speed, rounded up
abbrev pub reach_of : VehicleRow → ℕ
reach_of row = (row.first_distance + row.body.speed - 1) / row.body.speed

-- how much later than that it was done, not below 0, once it is done
abbrev pub delay_in : Junction → VehicleRow → Option ℕ
delay_in j row = option_map (λ tick. tick - (row.arrival + reach_of row + duration_of j.lanes row.body)) (done_at row.state)
