-- What the answers on cells and spans tell. Assumes nothing.
use Rattle.std.specs.Prelude.{◌≡◌, ℕ, ◌≤◌, Bool, true, false, Some, None, Decides, Option}
use Rattle.grid.specs.declared.junction.Junction.{Junction}
use Rattle.grid.specs.Sets.{bit}
use Rattle.reservation.specs.declared.request.Request.{Request}
use Rattle.reservation.specs.Cells.{Holds, SharesCell, has, locks, is_same_junction, share}
use Rattle.reservation.specs.Requests.{first_tick_of, in_range, last_tick_of}

-- the word has a bit for each tile whose cell at tick t the request has
pub record CellsAt (j : Junction) (r : Request) (t word : ℕ) : Type 0 where
  pub cells : (tile : ℕ) → bit word tile ≡ has j r tile t
  -- a request has no cell outside its span
  pub span : (tile : ℕ) → bit word tile ≡ true → (first_tick_of j r ≤ t) × (t ≤ last_tick_of j r)
  -- and it has the cells of every step that is at most a buffer away
  pub steps : (s tile : ℕ) → Holds j r s tile t → bit word tile ≡ true

-- whether two requests share a cell: exactly where there is a cell that both have, whichever is named first
pub record Shares (j : Junction) (p q : Request) (answer : Bool) : Type 0 where
  pub told : answer ≡ share j p q
  pub cell : Decides answer (SharesCell j p q)
  pub symmetric : answer ≡ share j q p

-- whether two paths touch a common tile and the spans overlap: so it is for those that share a cell
pub record Locks (j : Junction) (p q : Request) (answer : Bool) : Type 0 where
  pub told : answer ≡ locks j p q
  pub covers : share j p q ≡ true → answer ≡ true
  pub symmetric : answer ≡ locks j q p

-- an answer on two requests, which there is where they are of one junction
abbrev pub OfOne : Junction → Junction → (Bool → Type 0) → Option Bool → Type 0
OfOne j k tells None = is_same_junction j k ≡ false
OfOne j k tells (Some answer) = (is_same_junction j k ≡ true) × tells answer

-- an answer on a request, which there is where it is in range
abbrev pub InRangeOf : Junction → Request → (Bool → Type 0) → Option Bool → Type 0
InRangeOf j r tells None = in_range j r ≡ false
InRangeOf j r tells (Some answer) = (in_range j r ≡ true) × tells answer
