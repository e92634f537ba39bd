-- A vehicle that is at most a buffer off its plan stands on cells of its reservation. Assumes nothing.
use Rattle.std.proofs.Common.{◌≡◌, ℕ, true, Some, ap, ◌∙◌, arith}
use Rattle.std.proofs.lemmas.Int.{ints}
use Rattle.grid.specs.declared.junction.Junction.{Junction}
use Rattle.grid.specs.Steps.{step_touches}
use Rattle.reservation.specs.declared.request.Request.{Request}
use Rattle.reservation.specs.Cells.{has}
use Rattle.reservation.proofs.Laws.{step_has}
use Rattle.vehicle.specs.declared.rows.VehicleRow.{VehicleRow}
use Rattle.vehicle.specs.Rows.{good_row}
use Rattle.vehicle.specs.Standing.{OnTile}
use Rattle.vehicle.specs.States.{held_of}
use Rattle.vehicle.proofs.Parts.{crossing_lag}

module _ (j : Junction) (clock : ℕ) (row : VehicleRow) (tile : ℕ) (on : OnTile j clock row tile) where
  -- who stands on a tile holds the claim that it crosses on
  pub on_tile_held : held_of row.state ≡ Some on.held
  on_tile_held = ap held_of on.crosses

  -- and has the cell of that tile and tick by any request of its body and entry
  pub on_tile_has_cell : good_row j row ≡ true → (r : Request) → r.body ≡ row.body → r.entry ≡ on.held.entry → has j r tile clock ≡ true
  on_tile_has_cell good r same enters =
      let off = crossing_lag j row good on.held on.lag on.nudged on.crosses in
      let at = on.at in
      step_has j r tile clock on.step (record {
        touched = ap (λ b. step_touches j.lanes b on.step tile) same ∙ on.touched;
        late = omega (arith, ints, off.late, off.early);
        early = omega (arith, ints, off.late, off.early);
      })
