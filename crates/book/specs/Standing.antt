-- What holds of every request that stands. Assumes nothing.
use Rattle.std.specs.Prelude.{◌≡◌, true, List}
use Rattle.std.specs.List.{ContainsAt as Has}
use Rattle.grid.specs.declared.junction.Junction.{Junction}
use Rattle.ledger.specs.declared.standing.Standing.{Standing}
use Rattle.reservation.specs.Requests.{in_range, last_tick_of}

-- its numbers are in their ranges
abbrev pub AllRanged : Junction → List Standing → Type 0
AllRanged j xs = (s : Standing) → Has xs s → in_range j s.request ≡ true

-- and the last tick beside it is its own
abbrev pub AllEnd : Junction → List Standing → Type 0
AllEnd j xs = (s : Standing) → Has xs s → s.last_tick ≡ last_tick_of j s.request
