-- The steps of a crossing, and the tiles that a step, some steps, the whole path touch. Assumes nothing.
use Rattle.std.specs.Prelude.{ℕ, suc, ◌+◌, ◌-◌, ◌*◌, ◌/◌, Bool, ◌&&◌, nat_le, nat_lt}
use Rattle.grid.specs.declared.kinds.Body.{Body}
use Rattle.grid.specs.Some.{some}
use Rattle.grid.specs.Paths.{last_point_of, point_touches}

-- D, the ticks that the crossing takes: (P + length) / speed, rounded up
unfoldable pub duration_of : ℕ → Body → ℕ
duration_of n body = (last_point_of n body + body.length + body.speed - 1) / body.speed

-- point i is one of s × speed − length to s × speed + speed − 1
abbrev pub passes : Body → ℕ → ℕ → Bool
passes body s i = nat_le (s * body.speed) (i + body.length) && nat_lt i (s * body.speed + body.speed)

-- the vehicle touches the tile in step s
unfoldable pub step_touches : ℕ → Body → ℕ → ℕ → Bool
step_touches n body s tile =
    nat_lt s (duration_of n body) && some (suc (last_point_of n body)) (λ i. passes body s i && point_touches n body i tile)

-- it touches the tile from one of the points a to b
abbrev pub points_touch : ℕ → Body → ℕ → ℕ → ℕ → Bool
points_touch n body a b tile = some (suc b) (λ i. nat_le a i && point_touches n body i tile)

-- it touches the tile in one of the steps a to b
abbrev pub steps_touch : ℕ → Body → ℕ → ℕ → ℕ → Bool
steps_touch n body a b tile = some (suc b) (λ s. nat_le a s && step_touches n body s tile)

-- it touches the tile somewhere on its path
unfoldable pub path_touches : ℕ → Body → ℕ → Bool
path_touches n body tile = some (suc (last_point_of n body)) (λ i. point_touches n body i tile)
