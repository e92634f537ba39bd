-- The tables of the paths: for each path and each of its points, the tiles that the vehicle touches up to there, and
-- those that it touches from there on. Assumes nothing.
use Rattle.std.specs.Prelude.{ℕ, zero, suc, ◌+◌, ◌-◌, ◌*◌, ◌^◌, Bool, cond, List, [], ◌∷◌, ◌++◌, bit_or, slice_index}
use Rattle.grid.specs.declared.kinds.Approach.{Approach}
use Rattle.grid.specs.declared.kinds.Approach.TheVariants.{North, East, South, West}
use Rattle.grid.specs.declared.kinds.Movement.{Movement}
use Rattle.grid.specs.declared.kinds.Movement.TheVariants.{Left, Through, Right}
use Rattle.grid.specs.declared.kinds.Body.{Body}
use Rattle.grid.specs.Bodies.{approach_number}
use Rattle.grid.specs.Paths.{point_touches}

-- the number whose binary digits, below k, are those that pass the test
abbrev pub word : ℕ → (ℕ → Bool) → ℕ
word zero f = 0
word (suc k) f = bit_or (cond (f k) (2 ^ k) 0) (word k f)

-- a junction's lanes and a body: all that a path depends on
pub record Route : Type 0 where
  pub lanes : ℕ
  pub body : Body

-- the tiles that are touched from point i
unfoldable pub point_word : Route → ℕ → ℕ
point_word r i = word 64 (point_touches r.lanes r.body i)

-- the words of m points from i on
abbrev pub words : Route → ℕ → ℕ → List ℕ
words r i zero = []
words r i (suc m) = point_word r i ∷ words r (suc i) m

-- each word joined with all before it, and with `before`
abbrev pub joined_up : ℕ → List ℕ → List ℕ
joined_up before [] = []
joined_up before (w ∷ ws) = bit_or before w ∷ joined_up (bit_or before w) ws

abbrev pub join_first : ℕ → List ℕ → List ℕ
join_first w ws = bit_or (slice_index ws 0) w ∷ ws

-- each word joined with all after it
abbrev pub joined_down : List ℕ → List ℕ
joined_down [] = []
joined_down (w ∷ ws) = join_first w (joined_down ws)

-- a row of the table has this many points, and no path has more
abbrev pub points : ℕ
points = 48

abbrev pub up_row : Route → List ℕ
up_row r = joined_up 0 (words r 0 points)

abbrev pub down_row : Route → List ℕ
down_row r = joined_down (words r 0 points)

-- the rows, one after the other
abbrev pub rows : (Route → List ℕ) → List Route → List ℕ
rows f [] = []
rows f (r ∷ rs) = f r ++ rows f rs

abbrev pub route : ℕ → Approach → Movement → ℕ → Route
route n a m k = record { lanes = n; body = record { approach = a; movement = m; lane = k; length = 4; speed = 2 } }

-- the paths from one side
abbrev pub one_lane : Approach → List Route → List Route
one_lane a rest = route 1 a Left 0 ∷ route 1 a Through 0 ∷ route 1 a Right 0 ∷ rest

abbrev pub two_lanes : Approach → List Route → List Route
two_lanes a rest = route 2 a Left 0 ∷ route 2 a Through 0 ∷ route 2 a Through 1 ∷ route 2 a Right 1 ∷ rest

-- every path of every junction, in the order of the table
abbrev pub routes : List Route
routes =
    one_lane North (one_lane East (one_lane South (one_lane West
    (two_lanes North (two_lanes East (two_lanes South (two_lanes West [])))))))

-- from point to point, the table's words
unfoldable pub up_table : List ℕ
up_table = rows up_row routes

unfoldable pub down_table : List ℕ
down_table = rows down_row routes

abbrev pub movement_number : Movement → ℕ
movement_number Left = 0
movement_number Through = 1
movement_number Right = 2

-- the place of a body's path in the table
unfoldable pub row_of : ℕ → Body → ℕ
row_of n body =
    12 * (n - 1) + (2 + n) * approach_number body.approach + movement_number body.movement + body.lane
