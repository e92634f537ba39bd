-- What a policy answers. Assumes nothing.
use Rattle.std.specs.Prelude.{◌≡◌, ℕ, ◌+◌, ◌≤◌, Bool, true, false, ◌&&◌, List, ◌∷◌, ◌++◌, length, is_some, Some, Ok, Err, Option, Result, ◌≢◌, nat_le, nat_lt}
use Rattle.std.specs.List.{ContainsAt as Has}
use Rattle.grid.specs.declared.junction.Junction.{Junction}
use Rattle.refusal.specs.declared.kinds.Denial.{Denial}
use Rattle.refusal.specs.declared.kinds.Denial.TheVariants.{Because, Clash}
use Rattle.refusal.specs.declared.kinds.Reason.{Reason}
use Rattle.refusal.specs.declared.kinds.Reason.TheVariants.{LedgerFull, NameStands, Range, Time}
use Rattle.reservation.specs.declared.request.Request.{Request}
use Rattle.reservation.specs.Requests.{in_range, name_of, span_end}
use Rattle.policy.specs.Rows.{Row}
use Rattle.policy.specs.Views.{View, found}

-- the first tick is after the clock, and the last is at most clock + 127
abbrev pub is_in_time : Junction → ℕ → Request → Bool
is_in_time j clock r = nat_lt (clock + j.buffer) r.entry && nat_le (span_end j r) (clock + 128)

-- the rows that are the same for every policy: range, time, and whether the name stands
abbrev pub Screened : {A : Type 0} → Junction → ℕ → Option ℕ → Request → (Reason → A → Type 0) → (A → Type 0) → A → Type 0
Screened j clock standing r told below =
    Row (in_range j r ≡ false) (told Range)
    (Row (is_in_time j clock r ≡ false) (told Time)
    (Row (is_some standing ≡ true) (told NameStands) below))

-- the first of xs with P is x
pub record Earliest (P : Request → Type 0) (xs : List Request) (x : Request) : Type 0 where
  pub before : List Request
  pub after : List Request
  pub split : xs ≡ before ++ x ∷ after
  pub here : P x
  pub none : (y : Request) → Has before y → P y → ⊥

abbrev pub Denied : Reason → Result (Unit {0}) Denial → Type 0
Denied g a = a ≡ Err (Because g)

module _ (clash : Junction → Request → Request → Type 0) (w : View) (gate : Option Reason) (r : Request) where
  -- x stands in the way of r: it is another vehicle's, and the two clash
  abbrev pub Bars : Request → Type 0
  Bars x = (x.vehicle ≢ r.vehicle) × clash w.junction x r

  -- the rows after those: the gate, the earliest that stands in the way, and whether there is room
  abbrev pub Judged : Result (Unit {0}) Denial → Type 0
  Judged =
      Row (is_some gate ≡ true) (λ a. (g : Reason) × (gate ≡ Some g) × Denied g a)
      (Row ((x : Request) × Has w.ledger x × Bars x) (λ a. (x : Request) × Earliest Bars w.ledger x × (a ≡ Err (Clash (name_of x))))
      (Row (64 ≤ length w.ledger) (Denied LedgerFull)
      (λ a. a ≡ Ok tt)))

  -- the whole table
  abbrev pub Answer : Result (Unit {0}) Denial → Type 0
  Answer = Screened w.junction w.clock (found (name_of r) w.ledger) r Denied Judged
