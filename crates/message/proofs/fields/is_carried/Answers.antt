use Rattle.std.proofs.Common.{◌≡◌, ℕ, Ok, Err, Result, sym, refl}
use Rattle.std.specs.Bool.{Decides}
use Rattle.std.specs.Result.{is_ok}
use Rattle.std.proofs.lemmas.Bool.{eq-eqb, true≢false}
use Rattle.refusal.specs.Numbers.{ReasonOf, reason_number}
use Rattle.refusal.specs.declared.kinds.Denial.TheVariants.{Because, Clash}
use Rattle.refusal.specs.declared.kinds.NoReason.{NoReason}
use Rattle.refusal.specs.declared.kinds.Reason.{Reason}
use Rattle.message.specs.Fields.{Takes}
use Rattle.message.specs.declared.kinds.Field.TheVariants as field
use Rattle.message.proofs.fields.is_carried.Goals as goal

none_carried : (n : ℕ) → ((r : Reason) → reason_number r ≡ n → ⊥) → (n ≡ 34 → ⊥) → Takes field.Reason n → ⊥
none_carried n none other (Because r, e) = none r e
none_carried n none other (Clash m, e) = other (sym e)

carried : (n : ℕ) (r : Result Reason NoReason) → ReasonOf n r → (n ≡ 34 → ⊥) → Decides (is_ok r) (Takes field.Reason n)
carried n (Ok r) h other = (λ _. (Because r, h), λ _. refl)
carried n (Err e) h other = (λ t. absurd (true≢false (sym t)), λ p. absurd (none_carried n h.1 other p))

pub returns-then-number-eq-CLASH : goal.returns-then-number-eq-CLASH
returns-then-number-eq-CLASH c =
    (λ _. (Clash (record { vehicle = 1; number = 1 }), sym c.if-number-eq-CLASH.true), λ _. eq-eqb _ 34 c.if-number-eq-CLASH.true)

pub returns-else-number-eq-CLASH : goal.returns-else-number-eq-CLASH
returns-else-number-eq-CLASH c = rw c.is_ok.ensures.value (carried c.args.number c.try_from.result c.try_from.ensures c.if-number-eq-CLASH.false)
