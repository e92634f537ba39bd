-- A request before anyone looks who is in its way. Assumes nothing.
use Rattle.std.specs.Prelude.{◌≡◌, ℕ, Ok, Err, Result}
use Rattle.grid.specs.declared.junction.Junction.{Junction}
use Rattle.refusal.specs.declared.kinds.Denial.{Denial}
use Rattle.refusal.specs.declared.kinds.Denial.TheVariants.{Because}
use Rattle.reservation.specs.declared.footprint.Footprint.{Footprint}
use Rattle.reservation.specs.declared.request.Request.{Request}
use Rattle.reservation.specs.Requests.{name_of}
use Rattle.policy.specs.Answers.{Screened}
use Rattle.policy.specs.Views.{View, found}
use Rattle.ledger.specs.declared.ledger.Ledger.{Ledger}
use Rattle.ledger.specs.Entries.{entries}
use Rattle.ledger.specs.Standings.{requests}

-- what a policy tells whose standing requests are a ledger's
abbrev pub told : Junction → ℕ → Ledger → View
told j clock l = record { junction = j; clock = clock; ledger = requests (entries l) }

-- the first of the rows on range, time and name that holds refuses the request; else it has a footprint
abbrev pub Screens : View → Request → Result Footprint Denial → Type 0
Screens w r =
    Screened w.junction w.clock (found (name_of r) w.ledger) r (λ g a. a ≡ Err (Because g))
    (λ a. (f : Footprint) × (a ≡ Ok f) × (f.junction ≡ w.junction) × (f.request ≡ r))
