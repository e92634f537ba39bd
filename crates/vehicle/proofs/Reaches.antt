-- How long a vehicle takes to the stop line. Assumes nothing.
use Rattle.std.proofs.Common.{◌≡◌, ℕ, true, ◌+◌, ◌-◌, ◌*◌, ◌/◌, ◌%◌, ◌<◌, ap, inl, inr, div-le_self, arith}
use Rattle.std.specs.Int.{div_ceil}
use Rattle.std.proofs.lemmas.Bool.{cases_lt}
use Rattle.std.proofs.lemmas.Nat.{div-add-mod', div-mul-add, mod_below}
use Rattle.grid.specs.declared.junction.Junction.{Junction}
use Rattle.vehicle.specs.declared.rows.VehicleRow.{VehicleRow}
use Rattle.vehicle.specs.Rows.{good_row}
use Rattle.vehicle.specs.declared.vehicle.Vehicle.{Vehicle}
use Rattle.vehicle.specs.Delays.{reach_of}
use Rattle.vehicle.proofs.Parts.{good_parts}

-- a quotient, rounded up
rounded_up : (a b : ℕ) → 0 < b → div_ceil a b ≡ (a + b - 1) / b
rounded_up a b some =
    let below = mod_below a b some in
    let whole = div-add-mod' a b in
    elim (cases_lt 0 (a % b)) [
      | inl rest ↦ (
          let next : (a / b + 1) * b + (a % b - 1) ≡ a + b - 1 = grind (arith, whole) in
          omega (arith, div-mul-add (a / b + 1) b (a % b - 1) (omega arith), ap (λ n. n / b) next))
      | inr none ↦ (
          let next : a / b * b + (b - 1) ≡ a + b - 1 = omega (arith, whole) in
          omega (arith, div-mul-add (a / b) b (b - 1) (omega arith), ap (λ n. n / b) next))
    ]

pub moving : (j : Junction) (row : VehicleRow) → good_row j row ≡ true → 0 < row.body.speed
moving j row good = omega (arith, (good_parts j row good).body.moving)

pub reach_is : (v : Vehicle) → div_ceil v.row.first_distance v.row.body.speed ≡ reach_of v.row
reach_is v = rounded_up v.row.first_distance v.row.body.speed (moving v.junction v.row v.ok)

-- the ticks to the stop line after the arrival are few
pub reach_few : (j : Junction) (row : VehicleRow) → good_row j row ≡ true → row.arrival + reach_of row < 1003000
reach_few j row good =
    let parts = good_parts j row good in
    let whole = div-le_self (row.first_distance + row.body.speed - 1) row.body.speed in
    omega (arith, parts.arrival, parts.first, parts.body.slow)
