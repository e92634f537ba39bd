-- What the passes over the marks do. Assumes nothing.
use Rattle.std.specs.Prelude.{◌≡◌, ℕ, ◌<◌, Bool, true, false, cond, ◌&&◌, ◌||◌, List, [], ◌∷◌}
use Rattle.grid.specs.declared.junction.Junction.{Junction}
use Rattle.reservation.specs.declared.request.Request.{Request}
use Rattle.reservation.specs.Cells.{has}
use Rattle.reservation.specs.Requests.{in_range}
use Rattle.marks.specs.declared.marks.Marks.{Marks}
use Rattle.marks.specs.Marked.{mark, other_mark}
use Rattle.tile_table.specs.Holding.{InWindow}

-- the cells of the window that pass the test have this mark, and all others of the window the mark that they had
abbrev pub Painted : ℕ → (ℕ → ℕ → Bool) → ℕ → Marks → Marks → Type 0
Painted clock f vehicle old new = (tile t : ℕ) → InWindow clock tile t → mark new tile t ≡ cond (f tile t) vehicle (mark old tile t)

-- a cell that the request has bears the mark of another vehicle than this: at that tick, and at some tick
abbrev pub ForeignAt : Marks → Junction → Request → ℕ → ℕ → Type 0
ForeignAt m j r vehicle t = (tile : ℕ) × (tile < 64) × (has j r tile t ≡ true) × (other_mark m vehicle tile t ≡ true)

abbrev pub Foreign : Marks → Junction → Request → ℕ → Type 0
Foreign m j r vehicle = (t : ℕ) × ForeignAt m j r vehicle t

-- a request in range has the cell
abbrev pub takes : Junction → Request → ℕ → ℕ → Bool
takes j r tile t = in_range j r && has j r tile t

-- a chosen request in range has the cell
abbrev pub covers : (Request → Bool) → Junction → List Request → ℕ → ℕ → Bool
covers chosen j [] tile t = false
covers chosen j (r ∷ rs) tile t = (chosen r && takes j r tile t) || covers chosen j rs tile t
