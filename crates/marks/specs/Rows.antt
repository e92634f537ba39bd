-- The marks of one tick. Assumes nothing.
use Rattle.std.specs.Prelude.{◌≡◌, ℕ, ◌<◌, Bool, not, ◌&&◌, List, ◌==◌, slice_index}
use Rattle.grid.specs.Sets.{bit}

-- the bits of a word are the tiles that have a mark
abbrev pub Agree : List ℕ → ℕ → Type 0
Agree marks taken = (tile : ℕ) → tile < 64 → bit taken tile ≡ not (slice_index marks tile == 0)

-- a mark is another vehicle's
abbrev pub is_other : ℕ → ℕ → Bool
is_other vehicle mark = not (mark == 0) && not (mark == vehicle)
