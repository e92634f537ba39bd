-- A table of refusals, read from the top. Assumes nothing.
use Rattle.std.specs.Prelude.{◌⊎◌}

-- where the row's condition holds the answer is the row's, and else the one that the rows below it tell
abbrev pub Row : {A : Type 0} → Type 0 → (A → Type 0) → (A → Type 0) → A → Type 0
Row holds told below a = (holds × told a) ⊎ ((holds → ⊥) × below a)
