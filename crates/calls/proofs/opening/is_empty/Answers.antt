use Rattle.std.proofs.Common.{◌≡◌, List, [], ◌∷◌, length, Bool, true, false, not, is_some, Decides, sym, refl, ap, ◌∙◌, arith}
use Rattle.std.proofs.lemmas.Bool.{false≢true}
use Rattle.reservation.specs.declared.request.Request.{Request}
use Rattle.policy.specs.Views.{numbered}
use Rattle.calls.proofs.opening.is_empty.Goals as goal

first_tells : (xs : List Request) (b : Bool) → is_some (numbered xs 1) ≡ not b → Decides b (xs ≡ [])
first_tells [] true e = ((λ _. refl), λ _. refl)
first_tells [] false e = absurd (false≢true e)
first_tells (x ∷ xs) true e = absurd (false≢true (sym e))
first_tells (x ∷ xs) false e = ((λ f. absurd (false≢true f)), λ f. absurd (omega (arith, ap length f)))

pub returns : goal.returns
returns g c = first_tells _ _ (sym (ap is_some c.at.ensures) ∙ c.is_none.ensures)
