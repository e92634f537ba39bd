-- The mark that requests give a cell. Assumes nothing.
use Rattle.std.proofs.Common.{◌≡◌, ℕ, Bool, true, false, cond, ◌⊎◌, List, [], ◌∷◌, ◌++◌, filter, sym, refl, ap, ◌∙◌, inl, inr, ⊎_elim, arith}
use Rattle.std.specs.List.{ContainsAt as Has, AllByRecursion as All}
use Rattle.std.proofs.ByRecursion.{all-has, has_append_right, has_get_or}
use Rattle.std.proofs.lemmas.Bool.{cond-true, cond-false, cases_Bool, both_ways}
use Rattle.grid.specs.declared.junction.Junction.{Junction}
use Rattle.reservation.specs.declared.request.Request.{Request}
use Rattle.reservation.specs.Cells.{has}
use Rattle.reservation.proofs.Laws.{share_from}
use Rattle.policy.specs.Views.{given}
use Rattle.tile_table.specs.Holding.{Apart}

pub has_head : (x : Request) (xs : List Request) → Has (x ∷ xs) x
has_head x xs = has_get_or (x ∷ xs) 0 x (omega arith)

pub has_tail : (x y : Request) (xs : List Request) → Has xs x → Has (y ∷ xs) x
has_tail x y xs = has_append_right (y ∷ []) xs x

module _ (j : Junction) (tile t : ℕ) where
  -- a request that does not have the cell changes nothing of its mark
  pub given_push_not : (xs : List Request) (r : Request) → has j r tile t ≡ false → given j (xs ++ r ∷ []) tile t ≡ given j xs tile t
  given_push_not [] r e = cond-false _ _ _ e
  given_push_not (x ∷ xs) r e = ap (cond (has j x tile t) x.vehicle) (given_push_not xs r e)

  pub given_kept : (p : Request → Bool) (xs : List Request) → ((r : Request) → Has xs r → p r ≡ false → has j r tile t ≡ false)
      → given j (filter p xs) tile t ≡ given j xs tile t
  given_kept p [] h = refl
  given_kept p (x ∷ xs) h =
      let rest = given_kept p xs (λ r inside. h r (has_tail r x xs inside)) in
      ⊎_elim
      (λ (e : p x ≡ true). ap (λ l. given j l tile t) (cond-true _ _ _ e) ∙ ap (cond (has j x tile t) x.vehicle) rest)
      (λ (e : p x ≡ false). ap (λ l. given j l tile t) (cond-false _ _ _ e) ∙ rest ∙ sym (cond-false _ _ _ (h x (has_head x xs) e)))
      (cases_Bool (p x))

  pub record Owner (xs : List Request) : Type 0 where
    pub holder : Request
    pub inside : Has xs holder
    pub holds : has j holder tile t ≡ true
    pub is : given j xs tile t ≡ holder.vehicle

  abbrev pub Free : List Request → Type 0
  Free xs = All (λ r. has j r tile t ≡ false) xs × (given j xs tile t ≡ 0)

  -- no request has the cell, or its mark is the vehicle of one that has
  pub given_cases : (xs : List Request) → Free xs ⊎ Owner xs
  given_cases [] = inl (tt, refl)
  given_cases (x ∷ xs) = ⊎_elim
      (λ (e : has j x tile t ≡ true). inr (record { holder = x; inside = has_head x xs; holds = e; is = cond-true _ _ _ e }))
      (λ (e : has j x tile t ≡ false). ⊎_elim
      (λ (f : Free xs). inl ((e, f.0), cond-false _ _ _ e ∙ f.1))
      (λ (o : Owner xs). inr (record {
        holder = o.holder;
        inside = has_tail o.holder x xs o.inside;
        holds = o.holds;
        is = cond-false _ _ _ e ∙ o.is;
      }))
      (given_cases xs))
      (cases_Bool (has j x tile t))

  pub given_none : (xs : List Request) → ((r : Request) → Has xs r → has j r tile t ≡ false) → given j xs tile t ≡ 0
  given_none xs none = ⊎_elim
      (λ (f : Free xs). f.1)
      (λ (o : Owner xs). absurd (both_ways _ (none o.holder o.inside) o.holds))
      (given_cases xs)

  -- where requests of different vehicles share no cell, the mark is the vehicle of each that has it
  pub given_owner : (xs : List Request) → Apart j xs → (p : Request) → Has xs p → has j p tile t ≡ true → given j xs tile t ≡ p.vehicle
  given_owner xs apart p inside e = ⊎_elim
      (λ (f : Free xs). absurd (both_ways _ (all-has (λ r. has j r tile t ≡ false) xs p f.0 inside) e))
      (λ (o : Owner xs). o.is ∙ apart o.holder p (o.inside, inside, share_from j o.holder p (tile, t, o.holds, e)))
      (given_cases xs)
