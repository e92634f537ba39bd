-- What a path answers. Assumes nothing.
use Rattle.std.specs.Prelude.{◌≡◌, ℕ, ◌<◌, ◌≤◌, false, Some, None, Option}
use Rattle.grid.specs.declared.junction.Junction.{Junction}
use Rattle.grid.specs.declared.kinds.Body.{Body}
use Rattle.grid.specs.declared.kinds.Point.{Point}
use Rattle.grid.specs.declared.path.Path.{Path}
use Rattle.grid.specs.Bodies.{fits}
use Rattle.grid.specs.declared.tiles.TileSet.{TileSet}
use Rattle.grid.specs.Paths.{last_point_of, point_of_path, point_touches}
use Rattle.grid.specs.Sets.{Exactly}
use Rattle.grid.specs.Steps.{duration_of, step_touches}

-- a body has a path where it fits the junction, and nowhere else
abbrev pub PathOf : Junction → Body → Option Path → Type 0
PathOf j body None = fits j.lanes body ≡ false
PathOf j body (Some p) = (p.junction ≡ j) × (p.body ≡ body)

-- a path has the points 0 to its last
abbrev pub PointOf : Path → ℕ → Option Point → Type 0
PointOf p i None = last_point_of p.junction.lanes p.body < i
PointOf p i (Some at) = (i ≤ last_point_of p.junction.lanes p.body) × (at ≡ point_of_path p.junction.lanes p.body i)

-- the tiles that are touched from point i
abbrev pub PointTiles : Path → ℕ → Option TileSet → Type 0
PointTiles p i None = last_point_of p.junction.lanes p.body < i
PointTiles p i (Some s) =
    (i ≤ last_point_of p.junction.lanes p.body) × Exactly s (point_touches p.junction.lanes p.body i)

-- the tiles that are touched in step s, of the steps from 0 on
abbrev pub StepTiles : Path → ℕ → Option TileSet → Type 0
StepTiles p s None = duration_of p.junction.lanes p.body ≤ s
StepTiles p s (Some tiles) =
    (s < duration_of p.junction.lanes p.body) × Exactly tiles (step_touches p.junction.lanes p.body s)
