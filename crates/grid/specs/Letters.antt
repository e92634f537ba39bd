-- The letters of approaches and movements. Assumes nothing.
use Rattle.std.specs.Prelude.{◌≡◌, ℕ, Ok, Err, Result, ◌≢◌}
use Rattle.grid.specs.declared.kinds.Approach.{Approach}
use Rattle.grid.specs.declared.kinds.Approach.TheVariants.{North, East, South, West}
use Rattle.grid.specs.declared.kinds.Movement.{Movement}
use Rattle.grid.specs.declared.kinds.Movement.TheVariants.{Left, Through, Right}
use Rattle.grid.specs.declared.letters.UnknownLetter.{UnknownLetter}

-- N, E, S, W
abbrev pub approach_letter : Approach → ℕ
approach_letter North = 78
approach_letter East = 69
approach_letter South = 83
approach_letter West = 87

-- L, T, R
abbrev pub movement_letter : Movement → ℕ
movement_letter Left = 76
movement_letter Through = 84
movement_letter Right = 82

-- the approach of the letter, or that no approach has it
abbrev pub ApproachOf : ℕ → Result Approach UnknownLetter → Type 0
ApproachOf c (Ok a) = approach_letter a ≡ c
ApproachOf c (Err e) = (e.0 ≡ c) × ((a : Approach) → approach_letter a ≢ c)

-- the movement of the letter, or that no movement has it
abbrev pub MovementOf : ℕ → Result Movement UnknownLetter → Type 0
MovementOf c (Ok m) = movement_letter m ≡ c
MovementOf c (Err e) = (e.0 ≡ c) × ((m : Movement) → movement_letter m ≢ c)
