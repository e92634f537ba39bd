-- Junctions worked by hand, and what the rules make of each: one list, which antt computes. Assumes nothing.
use Rattle.std.specs.Prelude.{◌≡◌, ℕ, zero, suc, Bool, true, false, not, ◌&&◌, List, [], ◌∷◌, ◌++◌, Some, None, Ok, Err, filter, Option, Result, ◌==◌}
use Rattle.std.proofs.Common.{lit≤}
use Rattle.grid.specs.declared.junction.Junction.{Junction}
use Rattle.grid.specs.declared.kinds.Approach.{Approach}
use Rattle.grid.specs.declared.kinds.Approach.TheVariants.{North, East, South, West}
use Rattle.grid.specs.declared.kinds.Movement.{Movement}
use Rattle.grid.specs.declared.kinds.Movement.TheVariants.{Left, Through, Right}
use Rattle.grid.specs.declared.kinds.Body.{Body}
use Rattle.grid.specs.Paths.{last_point_of, point_touches}
use Rattle.grid.specs.Steps.{duration_of}
use Rattle.refusal.specs.declared.kinds.CallFault.{CallFault}
use Rattle.refusal.specs.declared.kinds.Reason.{Reason}
use Rattle.refusal.specs.declared.kinds.Refusal.TheVariants.{Call}
use Rattle.refusal.specs.Numbers.{number_of, reason_number}
use Rattle.layers.specs.Gates.{stop_gate}
use Rattle.reservation.specs.declared.request.Request.{Request}
use Rattle.reservation.specs.Cells.{locks, paths_meet, share}
use Rattle.reservation.specs.Entries.{entry_row}

-- a vehicle of length 10 and speed 4 in lane 0
abbrev pub car : Approach → Movement → Body
car a m = record { approach = a; movement = m; lane = 0; length = 10; speed = 4 }

-- its request to enter at a tick
abbrev pub entering : Approach → Movement → ℕ → Request
entering a m e = record { vehicle = 1; number = 1; body = car a m; distance = 8; entry = e }

-- one lane to an approach and a buffer of one tick
abbrev pub small : Junction
small = record { lanes = 1; buffer = 1; some = lit≤ tt; few = lit≤ tt; short = lit≤ tt }

-- the tiles below k that pass the test, the highest first
abbrev pub tiles_below : ℕ → (ℕ → Bool) → List ℕ
tiles_below zero f = []
tiles_below (suc k) f = filter f (k ∷ []) ++ tiles_below k f

abbrev pub same : List ℕ → List ℕ → Bool
same [] [] = true
same [] (y ∷ ys) = false
same (x ∷ xs) [] = false
same (x ∷ xs) (y ∷ ys) = x == y && same xs ys

-- the number of a refusal, 0 where there is none
abbrev pub numbered : Result (Unit {0}) CallFault → ℕ
numbered (Ok _) = 0
numbered (Err fault) = number_of (Call fault)

-- what an ask at clock 0, 8 units from the line, is told of this entry
abbrev pub told : ℕ → ℕ
told e = numbered (entry_row small (car South Through) 0 8 e)

-- the number that a gate gives, 0 where it is open
abbrev pub gate_number : Option Reason → ℕ
gate_number None = 0
gate_number (Some g) = reason_number g

-- a request at a distance from the line
abbrev pub away : ℕ → Request
away d = record { vehicle = 1; number = 1; body = car South Through; distance = d; entry = 3 }

abbrev pub worked : List Bool
worked =
    -- the last points of the paths
    (last_point_of 1 (car South Through) == 22)
    ∷ (last_point_of 1 (car South Right) == 14)
    ∷ (last_point_of 1 (car South Left) == 30)
    ∷ (last_point_of 2 (car South Through) == 38)
    ∷ (last_point_of 2 (car South Right) == 14)
    ∷ (last_point_of 2 (car South Left) == 46)
    -- how long the crossings take
    ∷ (duration_of 1 (car South Through) == 8)
    ∷ (duration_of 1 (car South Right) == 6)
    ∷ (duration_of 1 (car South Left) == 10)
    -- straight from the south, point 0 touches nothing, and point 9 rows 1 to 3 of columns 2 and 3
    ∷ same (tiles_below 64 (point_touches 1 (car South Through) 0)) []
    ∷ same (tiles_below 64 (point_touches 1 (car South Through) 9)) (27 ∷ 26 ∷ 19 ∷ 18 ∷ 11 ∷ 10 ∷ [])
    -- right turns from the south and the north share no tile; one from the south and the way from the west do
    ∷ not (paths_meet small (entering South Right 3) (entering North Right 3))
    ∷ paths_meet small (entering South Right 3) (entering West Through 3)
    -- a vehicle from the south that enters at 3, and one from the east
    ∷ share small (entering South Through 3) (entering East Through 12)
    ∷ not (share small (entering South Through 3) (entering East Through 13))
    -- the same, and a second one from the south
    ∷ share small (entering South Through 3) (entering South Through 9)
    ∷ not (share small (entering South Through 3) (entering South Through 10))
    ∷ locks small (entering South Through 3) (entering South Through 12)
    ∷ not (locks small (entering South Through 3) (entering South Through 13))
    -- which entries may be asked for
    ∷ (told 2 == 12)
    ∷ (told 3 == 0)
    ∷ (told 119 == 0)
    ∷ (told 120 == 13)
    -- Stop line lets pass who is at the line, and refuses who is 1 unit away
    ∷ (gate_number (stop_gate (away 0)) == 0)
    ∷ (gate_number (stop_gate (away 1)) == 31)
    ∷ []

abbrev pub every : List Bool → Bool
every [] = true
every (x ∷ xs) = x && every xs

-- each of them holds
abbrev pub AllHold : Type 0
AllHold = every worked ≡ true
