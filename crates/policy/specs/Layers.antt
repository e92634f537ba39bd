-- What a layer over a policy answers. Assumes nothing.
use Rattle.std.specs.Prelude.{◌≡◌, Some, None, Ok, Err, Option, Result, MatchResult}
use Rattle.refusal.specs.declared.kinds.Denial.{Denial}
use Rattle.refusal.specs.declared.kinds.Reason.{Reason}
use Rattle.reservation.specs.declared.request.Request.{Request}
use Rattle.reservation.specs.Requests.{name_of}
use Rattle.policy.specs.Answers.{Denied, Screened}
use Rattle.policy.specs.Views.{View, found}

-- the gate of a layer: its own, and where that is open the one below
abbrev pub over : Option Reason → Option Reason → Option Reason
over None below = below
over (Some g) below = Some g

-- what a gate alone answers
abbrev pub refused_by : Option Reason → Result (Unit {0}) Reason
refused_by None = Ok tt
refused_by (Some g) = Err g

-- how a layer with this gate of its own refuses the request before it asks below: by its range, its time or its name,
-- which come before every gate, else by its own gate
abbrev pub Stopped : View → Option Reason → Request → Result (Unit {0}) Reason → Type 0
Stopped w own r = Screened w.junction w.clock (found (name_of r) w.ledger) r (λ g o. o ≡ Err g) (λ o. o ≡ refused_by own)

-- the layer refuses so, and then comes what its own refusal makes of it, or it asks below
abbrev pub Layered : View → Option Reason → Request → (Reason → Type 0) → (Result (Unit {0}) Denial → Type 0) → Result (Unit {0}) Denial → Type 0
Layered w own r alone below a = (o : Result (Unit {0}) Reason) × Stopped w own r o × MatchResult o (λ _. below a) (λ g. Denied g a × alone g)
