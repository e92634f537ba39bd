-- The ranges of a vehicle's body, and the lanes that its movement allows. Assumes nothing.
use Rattle.std.specs.Prelude.{◌≡◌, ℕ, ◌+◌, ◌*◌, ◌<◌, ◌≤◌, Bool, true, ◌&&◌, ◌==◌, nat_le, nat_lt}
use Rattle.grid.specs.declared.kinds.Approach.{Approach}
use Rattle.grid.specs.declared.kinds.Approach.TheVariants.{North, East, South, West}
use Rattle.grid.specs.declared.kinds.Movement.{Movement}
use Rattle.grid.specs.declared.kinds.Movement.TheVariants.{Left, Through, Right}
use Rattle.grid.specs.declared.kinds.Body.{Body}

abbrev pub approach_number : Approach → ℕ
approach_number North = 0
approach_number East = 1
approach_number South = 2
approach_number West = 3

-- the lane of an approach by its number among all lanes of the junction
abbrev pub lane_number_of : Body → ℕ
lane_number_of body = 2 * approach_number body.approach + body.lane

-- left turns start in the middle lane, right turns in the lane at the kerb
abbrev pub lane_rule : ℕ → ℕ → Movement → Bool
lane_rule n k Left = k == 0
lane_rule n k Through = true
lane_rule n k Right = k + 1 == n

-- the body's numbers are in their ranges, and its lane suits its movement, at n lanes to an approach
unfoldable pub fits : ℕ → Body → Bool
fits n body =
    nat_lt body.lane n && lane_rule n body.lane body.movement
    && nat_le 4 body.length && nat_le body.length 32
    && nat_le 2 body.speed && nat_le body.speed 8

-- the same, part by part
pub record Fits (n : ℕ) (body : Body) : Type 0 where
  pub lane : body.lane < n
  pub rule : lane_rule n body.lane body.movement ≡ true
  pub long : 4 ≤ body.length
  pub short : body.length ≤ 32
  pub moving : 2 ≤ body.speed
  pub slow : body.speed ≤ 8
