-- Who is in the way of a request. Assumes nothing.
use Rattle.std.specs.Prelude.{◌≡◌, true, List, Some, None, Option, ◌≢◌}
use Rattle.std.specs.List.{ContainsAt as Has}
use Rattle.grid.specs.declared.junction.Junction.{Junction}
use Rattle.refusal.specs.declared.kinds.Name.{Name}
use Rattle.reservation.specs.declared.request.Request.{Request}
use Rattle.reservation.specs.Cells.{locks, share}
use Rattle.reservation.specs.Requests.{in_range, name_of}
use Rattle.policy.specs.Answers.{Earliest}

-- two ways to clash: to share a cell, and to have paths with a common tile and spans that overlap
abbrev pub CellClash : Junction → Request → Request → Type 0
CellClash j x y = share j x y ≡ true

abbrev pub PathClash : Junction → Request → Request → Type 0
PathClash j x y = locks j x y ≡ true

-- x is a request in range, of another vehicle than r, that clashes with it
abbrev pub Rival : (Junction → Request → Request → Type 0) → Junction → Request → Request → Type 0
Rival clash j r x = (x.vehicle ≢ r.vehicle) × (in_range j x ≡ true) × clash j x r

-- the name of the earliest with P, or that there is none
abbrev pub Sought : (Request → Type 0) → List Request → Option Name → Type 0
Sought P xs None = (x : Request) → Has xs x → P x → ⊥
Sought P xs (Some n) = (x : Request) × Earliest P xs x × (n ≡ name_of x)
