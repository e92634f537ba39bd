-- What a policy tells of itself at a moment, and what its calls make of that. Assumes nothing.
use Rattle.std.specs.Prelude.{◌≡◌, ℕ, zero, suc, ◌+◌, ◌<◌, ◌≤◌, Bool, cond, not, ◌&&◌, List, [], ◌∷◌, ◌++◌, Some, None, Ok, Err, filter, Option, Result, ◌==◌, nat_le}
use Rattle.std.specs.List.{slice_get}
use Rattle.grid.specs.declared.junction.Junction.{Junction}
use Rattle.refusal.specs.declared.kinds.CallFault.{CallFault}
use Rattle.refusal.specs.declared.kinds.CallFault.TheVariants.{ClockEnd}
use Rattle.refusal.specs.declared.kinds.Denial.{Denial}
use Rattle.refusal.specs.declared.kinds.Name.{Name}
use Rattle.reservation.specs.declared.request.Request.{Request}
use Rattle.reservation.specs.Cells.{has}
use Rattle.reservation.specs.Requests.{last_tick_of}

-- the ledger has the standing requests, in the order granted
pub record View : Type 0 where
  pub junction : Junction
  pub clock : ℕ
  pub ledger : List Request

-- a new policy's
abbrev pub new_view : Junction → View
new_view j = record { junction = j; clock = 0; ledger = [] }

abbrev pub with_ledger : View → List Request → View
with_ledger w xs = record { junction = w.junction; clock = w.clock; ledger = xs }

abbrev pub named : Name → Request → Bool
named n x = x.vehicle == n.vehicle && x.number == n.number

-- the entry tick of the request of that name, if it stands
abbrev pub found : Name → List Request → Option ℕ
found n [] = None
found n (x ∷ xs) = cond (named n x) (Some x.entry) (found n xs)

-- the i-th request, from 1
abbrev pub numbered : List Request → ℕ → Option Request
numbered xs zero = None
numbered xs (suc i) = slice_get xs i

-- after an ask: a grant appends the request, and a refusal changes nothing
abbrev pub asked : View → Request → Result (Unit {0}) Denial → View
asked w r (Ok _) = with_ledger w (w.ledger ++ r ∷ [])
asked w r (Err _) = w

-- after a release
abbrev pub released : View → Name → View
released w n = with_ledger w (filter (λ x. not (named n x)) w.ledger)

-- the requests whose last tick is not below t
abbrev pub lasting : Junction → ℕ → List Request → List Request
lasting j t = filter (λ x. nat_le t (last_tick_of j x))

-- after an advance: the clock goes on by one, and what is over goes out
abbrev pub moved : View → View
moved w = record { junction = w.junction; clock = w.clock + 1; ledger = lasting w.junction (w.clock + 1) w.ledger }

-- unless the clock is at its end
abbrev pub Advanced : View → Result (Unit {0}) CallFault → View → Type 0
Advanced w (Ok _) w' = (w.clock < 1000000) × (w' ≡ moved w)
Advanced w (Err e) w' = (1000000 ≤ w.clock) × (e ≡ ClockEnd) × (w' ≡ w)

-- the mark that the ledger gives a cell: the vehicle of the standing request that has it, else 0
abbrev pub given : Junction → List Request → ℕ → ℕ → ℕ
given j [] tile t = 0
given j (x ∷ xs) tile t = cond (has j x tile t) x.vehicle (given j xs tile t)

-- where there is a tile table, its marks at the 128 ticks from the clock on are those that the ledger gives
abbrev pub Told : Option (ℕ → ℕ → ℕ) → View → Type 0
Told None w = Unit {0}
Told (Some mark) w =
    (tile t : ℕ) → (tile < 64) × (w.clock ≤ t) × (t < w.clock + 128) → mark tile t ≡ given w.junction w.ledger tile t
