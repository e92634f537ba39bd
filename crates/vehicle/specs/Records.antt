-- Which rows make a record. Assumes nothing.
use Rattle.std.specs.Prelude.{◌≡◌, true, false, Some, None, Option}
use Rattle.grid.specs.declared.junction.Junction.{Junction}
use Rattle.vehicle.specs.declared.rows.VehicleRow.{VehicleRow}
use Rattle.vehicle.specs.declared.vehicle.Vehicle.{Vehicle}
use Rattle.vehicle.specs.Rows.{good_row}

abbrev pub Good : Junction → VehicleRow → Type 0
Good j row = good_row j row ≡ true

-- a good row makes a record, which is of that junction and row, and no other row makes one
abbrev pub RecordOf : Junction → VehicleRow → Option Vehicle → Type 0
RecordOf j row None = good_row j row ≡ false
RecordOf j row (Some v) = (v.junction ≡ j) × (v.row ≡ row)
