-- What a filter of a list keeps. Assumes nothing.
use Rattle.std.proofs.Common.{◌≡◌, Bool, true, List, [], ◌∷◌, filter, refl, ap, ◌∙◌, subst, sym}
use Rattle.std.specs.List.{items_where_true, ContainsAt as Has, AllByRecursion as All}
use Rattle.std.specs.List.Retain.{IsFiltered}
use Rattle.std.proofs.lemmas.Grind.{get_or_picked}
use Rattle.std.proofs.ByRecursion.{all-has, has_get_or, all_has_itself, all_kept_by, All-weaker}
use Rattle.std.proofs.lemmas.Bool.{cond-true}

module _ {X : Type 0} where
  pub all_from_has : (P : X → Type 0) (xs : List X) → ((x : X) → Has xs x → P x) → All P xs
  all_from_has P xs each = All-weaker (Has xs) P each xs (all_has_itself xs)

  module _ (p : X → Bool) where
    pub has_kept_by : (xs : List X) (x : X) → Has (filter p xs) x → Has xs x
    has_kept_by xs x = all-has (Has xs) (filter p xs) x (all_kept_by p (Has xs) xs (all_has_itself xs))

    -- where all pass, all are kept
    pub kept_by_all : (xs : List X) → All (λ x. p x ≡ true) xs → filter p xs ≡ xs
    kept_by_all [] passes = refl
    kept_by_all (x ∷ xs) passes = cond-true _ _ _ passes.0 ∙ ap (λ ys. x ∷ ys) (kept_by_all xs passes.1)

  -- what `retain` leaves was there
  pub has_retained : {F : Type 0} (R : F → X → Bool → F → Type 0) (f : F) (xs ys : List X) → IsFiltered R f xs ys → (x : X) → Has ys x → Has xs x
  has_retained R f xs ys is x has =
      let at : Has (items_where_true is.0 xs) x = subst (λ l. Has l x) is.4 has in
      let place = get_or_picked is.0 xs at.0 x at.1 in
      subst (Has xs) (sym place.1.2 ∙ at.2 x) (has_get_or xs place.1.0 x place.1.1)
