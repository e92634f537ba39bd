-- The path of a vehicle over a junction with n lanes to an approach, and the tiles that it touches from each point.
-- Assumes nothing.
--
-- Coordinates are counted from 4 units, one tile, outside the square's north-west corner, so that none is below 0.
use Rattle.std.specs.Prelude.{ℕ, ◌+◌, ◌-◌, ◌*◌, ◌/◌, ◌%◌, Bool, cond, ◌&&◌, nat_le, nat_lt}
use Rattle.grid.specs.declared.kinds.Approach.{Approach}
use Rattle.grid.specs.declared.kinds.Approach.TheVariants.{North, East, South, West}
use Rattle.grid.specs.declared.kinds.Movement.{Movement}
use Rattle.grid.specs.declared.kinds.Movement.TheVariants.{Left, Through, Right}
use Rattle.grid.specs.declared.kinds.Body.{Body}
use Rattle.grid.specs.declared.kinds.Point.{Point}

-- U, the side of the square in units
abbrev pub side : ℕ → ℕ
side n = 16 * n

-- where the square begins, in both coordinates
abbrev pub rim : ℕ
rim = 4

abbrev pub point : ℕ → ℕ → Point
point x y = record { x = x; y = y }

-- P, the number of a path's last point
abbrev pub last_of : ℕ → Movement → ℕ
last_of n Left = side n + 14
last_of n Through = side n + 6
last_of n Right = 14

-- point i of the path from the south in lane k: straight north, and after the corner of a turn straight to its side
abbrev pub point_from_south : ℕ → ℕ → Movement → ℕ → Point
point_from_south n k Through i = point (rim + 8 * n + 8 * k + 4) (rim + side n + 3 - i)
point_from_south n k Right i =
    cond (nat_le i 7)
    (point (rim + side n - 4) (rim + side n + 3 - i))
    (point (rim + side n + i - 11) (rim + side n - 4))
point_from_south n k Left i =
    cond (nat_le i (8 * n + 7))
    (point (rim + 8 * n + 4) (rim + side n + 3 - i))
    (point (rim + 8 * n + 4 + (8 * n + 7) - i) (rim + 8 * n - 4))

-- a quarter turn about the middle, (x, y) to (U − y, x)
abbrev pub turn : ℕ → Point → Point
turn n p = point (rim + side n + rim - p.y) p.x

abbrev pub turned : ℕ → Approach → Point → Point
turned n South p = p
turned n West p = turn n p
turned n North p = turn n (turn n p)
turned n East p = turn n (turn n (turn n p))

unfoldable pub last_point_of : ℕ → Body → ℕ
last_point_of n body = last_of n body.movement

unfoldable pub point_of_path : ℕ → Body → ℕ → Point
point_of_path n body i = turned n body.approach (point_from_south n body.lane body.movement i)

-- how far a vehicle reaches to each side of its point
abbrev pub half : Body → ℕ
half body = 3

-- the unit squares z − h to z + h − 1 meet those of a tile's column, or row, c, which are 4 × c to 4 × c + 3
abbrev pub reaches : ℕ → ℕ → ℕ → Bool
reaches h z c = nat_le (rim + 4 * c) (z + h - 1) && nat_le z (rim + 4 * c + 3 + h)

-- the tile, 8 × row + column, lies in the square
abbrev pub inside : ℕ → ℕ → Bool
inside n tile = nat_lt (tile % 8) (4 * n) && nat_lt (tile / 8) (4 * n)

-- a vehicle that reaches h to each side of the point p touches the tile
abbrev pub touches : ℕ → Point → ℕ → Bool
touches h p tile = reaches h p.x (tile % 8) && reaches h p.y (tile / 8)

-- the tile lies in the square, there is a point i on the path, and the vehicle touches the tile from there
unfoldable pub point_touches : ℕ → Body → ℕ → ℕ → Bool
point_touches n body i tile = inside n tile && (nat_le i (last_point_of n body) && touches (half body) (point_of_path n body i) tile)
