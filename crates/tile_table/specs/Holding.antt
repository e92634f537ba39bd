-- What always holds of the requests and the marks of a tile table. Assumes nothing.
use Rattle.std.specs.Prelude.{◌≡◌, ℕ, ◌+◌, ◌<◌, ◌≤◌, true, List}
use Rattle.std.specs.List.{ContainsAt as Has}
use Rattle.grid.specs.declared.junction.Junction.{Junction}
use Rattle.reservation.specs.declared.request.Request.{Request}
use Rattle.reservation.specs.Cells.{share}
use Rattle.reservation.specs.Requests.{in_range, last_tick_of}
use Rattle.policy.specs.Views.{given}
use Rattle.marks.specs.declared.marks.Marks.{Marks}
use Rattle.marks.specs.Marked.{mark}
use Rattle.ledger.specs.declared.standing.Standing.{Standing}

module _ (j : Junction) where
  abbrev pub Ranged : List Request → Type 0
  Ranged rs = (r : Request) → Has rs r → in_range j r ≡ true

  -- the last tick beside each is its own
  abbrev pub Ending : List Standing → Type 0
  Ending xs = (s : Standing) → Has xs s → s.last_tick ≡ last_tick_of j s.request

  -- none is over, and the last ticks are among the 128 from the clock on
  abbrev pub Ahead : ℕ → List Request → Type 0
  Ahead clock rs = (r : Request) → Has rs r → (clock ≤ last_tick_of j r) × (last_tick_of j r ≤ clock + 127)

  -- requests of different vehicles share no cell
  abbrev pub Apart : List Request → Type 0
  Apart rs = (p q : Request) → Has rs p × Has rs q × (share j p q ≡ true) → p.vehicle ≡ q.vehicle

-- a cell of the 128 ticks from the clock on
abbrev pub InWindow : ℕ → ℕ → ℕ → Type 0
InWindow clock tile t = (tile < 64) × (clock ≤ t) × (t < clock + 128)

-- each stored mark is the one that the requests give
abbrev pub Agree : Junction → ℕ → List Request → Marks → Type 0
Agree j clock rs m = (tile t : ℕ) → InWindow clock tile t → mark m tile t ≡ given j rs tile t
