-- The first standing request of a name. Assumes nothing.
use Rattle.std.proofs.Common.{◌≡◌, ℕ, true, false, not, List, [], ◌∷◌, is_some, Some, None, filter, Option, sym, refl, ap, ◌∙◌, subst, ⊎_elim, arith}
use Rattle.std.specs.Option.{option_map}
use Rattle.std.specs.List.{ContainsAt as Has, AllByRecursion as All}
use Rattle.std.proofs.ByRecursion.{has_append_right, has_get_or}
use Rattle.std.proofs.lemmas.Bool.{both_ways, cases_Bool, cond-true, cond-false, not_from_false}
use Rattle.refusal.specs.declared.kinds.Name.{Name}
use Rattle.policy.specs.Views.{found, named}
use Rattle.ledger.specs.declared.standing.Standing.{Standing}
use Rattle.ledger.specs.Standings.{first_of_name, other, requests}
use Rattle.ledger.proofs.Kept.{kept_by_all}
use Rattle.ledger.proofs.Requests.{requests-other}

module _ (n : Name) where
  -- by cases on whether the head has the name
  by_head : (x : Standing) (xs : List Standing) (P : Option Standing → Type 0) → (named n x.request ≡ true → P (Some x)) → (named n x.request ≡ false → P (first_of_name n xs))
      → P (first_of_name n (x ∷ xs))
  by_head x xs P here rest = ⊎_elim
      (λ (e : named n x.request ≡ true). subst P (sym (cond-true _ _ _ e)) (here e))
      (λ (e : named n x.request ≡ false). subst P (sym (cond-false _ _ _ e)) (rest e))
      (cases_Bool (named n x.request))

  others : (xs : List Standing) → first_of_name n xs ≡ None → All (λ s. other n s ≡ true) xs
  others [] none = tt
  others (x ∷ xs) none =
      by_head x xs (λ o. o ≡ None → All (λ s. other n s ≡ true) (x ∷ xs))
      (λ _ e. let z : ◌≡◌ {A = ℕ} 0 1 = cc in absurd (omega arith))
      (λ t e. (not_from_false _ t, others xs e))
      none

  -- where none has the name, none is taken out
  pub none_named : (xs : List Standing) → first_of_name n xs ≡ None → filter (other n) xs ≡ xs
  none_named xs none = kept_by_all (other n) xs (others xs none)

  -- the first is one of the list, and has the name
  pub first_named : (xs : List Standing) (s : Standing) → first_of_name n xs ≡ Some s → Has xs s × (named n s.request ≡ true)
  first_named [] s e = let z : ◌≡◌ {A = ℕ} 0 1 = cc in absurd (omega arith)
  first_named (x ∷ xs) s is =
      by_head x xs (λ o. o ≡ Some s → Has (x ∷ xs) s × (named n s.request ≡ true))
      (λ t e. let same : x ≡ s = cc in subst (λ y. Has (x ∷ xs) y × (named n y.request ≡ true)) same (has_get_or (x ∷ xs) 0 x (omega arith), t))
      (λ _ e. let tail = first_named xs s e in (has_append_right (x ∷ []) xs s tail.0, tail.1))
      is

  pub found_first : (xs : List Standing) → found n (requests xs) ≡ option_map (λ s. s.request.entry) (first_of_name n xs)
  found_first [] = refl
  found_first (x ∷ xs) =
      by_head x xs (λ o. found n (requests (x ∷ xs)) ≡ option_map (λ s. s.request.entry) o)
      (λ e. cond-true _ _ _ e)
      (λ e. cond-false _ _ _ e ∙ found_first xs)

  some_mapped : (o : Option Standing) → is_some (option_map (λ s. s.request.entry) o) ≡ is_some o
  some_mapped None = refl
  some_mapped (Some s) = refl

  none_of : (o : Option Standing) → is_some o ≡ false → o ≡ None
  none_of None e = refl
  none_of (Some s) e = absurd (both_ways true e refl)

  pub first_is_found : (xs : List Standing) → is_some (first_of_name n xs) ≡ is_some (found n (requests xs))
  first_is_found xs = sym (ap is_some (found_first xs) ∙ some_mapped (first_of_name n xs))

  -- where none is found, a release takes none out
  pub not_found : (xs : List Standing) → is_some (found n (requests xs)) ≡ false → filter (λ r. not (named n r)) (requests xs) ≡ requests xs
  not_found xs e = sym (requests-other n xs) ∙ ap requests (none_named xs (none_of (first_of_name n xs) (first_is_found xs ∙ e)))
