-- What holds of each standing request holds of fewer, and of one more for which it holds. Assumes nothing.
use Rattle.std.proofs.Common.{◌≡◌, Bool, List, [], ◌∷◌, ◌++◌, filter, subst, ⊎_elim}
use Rattle.std.specs.List.{ContainsAt as Has}
use Rattle.std.proofs.ByRecursion.{has_push_cases}
use Rattle.ledger.specs.declared.standing.Standing.{Standing}
use Rattle.ledger.proofs.Kept.{has_kept_by}

pub each_kept : (P : Standing → Type 0) (p : Standing → Bool) (xs ys : List Standing) → ys ≡ filter p xs
    → ((s : Standing) → Has xs s → P s) → (s : Standing) → Has ys s → P s
each_kept P p xs ys is all s h = all s (has_kept_by p xs s (subst (λ l. Has l s) is h))

pub each_more : (P : Standing → Type 0) (xs ys : List Standing) (x : Standing) → ys ≡ xs ++ x ∷ []
    → ((s : Standing) → Has xs s → P s) → P x → (s : Standing) → Has ys s → P s
each_more P xs ys x is all here s h = ⊎_elim
    (λ before. all s before)
    (λ (e : x ≡ s). subst P e here)
    (has_push_cases xs x s (subst (λ l. Has l s) is h))
