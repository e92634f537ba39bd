-- Lists of standing requests. Assumes nothing.
use Rattle.std.specs.Prelude.{ℕ, ◌≤◌, Bool, not, List, map, Option, nat_le}
use Rattle.std.specs.List.{find, ContainsAt as Has}
use Rattle.refusal.specs.declared.kinds.Name.{Name}
use Rattle.reservation.specs.declared.request.Request.{Request}
use Rattle.policy.specs.Views.{named}
use Rattle.ledger.specs.declared.standing.Standing.{Standing}

abbrev pub requests : List Standing → List Request
requests xs = map (λ s. s.request) xs

-- it has another name
abbrev pub other : Name → Standing → Bool
other n s = not (named n s.request)

-- it is not over at that clock
abbrev pub lasts : ℕ → Standing → Bool
lasts clock s = nat_le clock s.last_tick

-- no last tick is below t
abbrev pub Sooner : ℕ → List Standing → Type 0
Sooner t xs = (s : Standing) → Has xs s → t ≤ s.last_tick

-- the first of that name, if there is one
abbrev pub first_of_name : Name → List Standing → Option Standing
first_of_name n = find (λ s. named n s.request)
