-- Where a vehicle stands. Assumes nothing.
use Rattle.std.specs.Prelude.{◌≡◌, ℕ, ◌+◌, ◌^◌, ◌<◌, true, ℤ, pos, ◌+ℤ◌, Some, None, Decides, Option}
use Rattle.grid.specs.declared.junction.Junction.{Junction}
use Rattle.grid.specs.declared.path.Path.{Path}
use Rattle.grid.specs.declared.tiles.TileSet.{TileSet}
use Rattle.grid.specs.Sets.{has_tile}
use Rattle.grid.specs.Steps.{step_touches}
use Rattle.vehicle.specs.declared.rows.Claim.{Claim}
use Rattle.vehicle.specs.declared.rows.State.TheVariants.{Crossing}
use Rattle.vehicle.specs.declared.rows.VehicleRow.{VehicleRow}
use Rattle.vehicle.specs.declared.vehicle.Vehicle.{Vehicle}

-- by now a crossing of this entry is at step s: clock − entry − lag is s
abbrev pub AtStep : ℕ → ℕ → ℤ → ℕ → Type 0
AtStep clock entry lag s = pos clock ≡ pos (entry + s) +ℤ lag

-- a vehicle of this row stands on the tile: it is crossing, and touches the tile in the step at which it is by now
pub record OnTile (j : Junction) (clock : ℕ) (row : VehicleRow) (tile : ℕ) : Type 0 where
  pub held : Claim
  pub lag : ℤ
  pub nudged : ℕ
  pub step : ℕ
  pub crosses : row.state ≡ Crossing held lag nudged
  pub at : AtStep clock held.entry lag step
  pub touched : step_touches j.lanes row.body step tile ≡ true

-- the tiles of the set are those on which it stands, and no others
abbrev pub Stands : Junction → ℕ → VehicleRow → TileSet → Type 0
Stands j clock row tiles = (tile : ℕ) → Decides (has_tile tiles tile) (OnTile j clock row tile)

-- the path is that of the vehicle's body over its junction
abbrev pub PathOf : Vehicle → Path → Type 0
PathOf v p = (p.junction ≡ v.junction) × (p.body ≡ v.row.body)

-- the step at which a crossing is by now, of the first 2 to the 32
abbrev pub StepAt : ℕ → ℕ → ℤ → Option ℕ → Type 0
StepAt clock entry lag None = (s : ℕ) → s < 2 ^ 32 → AtStep clock entry lag s → ⊥
StepAt clock entry lag (Some s) = AtStep clock entry lag s

-- the tiles of the set are those that are touched in the step at which a crossing on this path is by now
abbrev pub OnStep : Path → ℕ → ℕ → ℤ → TileSet → Type 0
OnStep p clock entry lag tiles =
    (tile : ℕ) → Decides (has_tile tiles tile) ((s : ℕ) × AtStep clock entry lag s × (step_touches p.junction.lanes p.body s tile ≡ true))
