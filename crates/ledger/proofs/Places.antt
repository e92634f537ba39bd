-- The i-th request of a list, from 1. Assumes nothing.
use Rattle.std.proofs.Common.{◌≡◌, ℕ, zero, suc, ◌-◌, ◌<◌, ◌≤◌, ◌⊎◌, List, length, get_or, Some, None, refl, ap, ◌∙◌, inl, inr, ⊎_elim, arith}
use Rattle.std.proofs.lemmas.Bool.{cases_lt}
use Rattle.std.proofs.lemmas.List.{get_or-map}
use Rattle.std.proofs.lemmas.Option.{slice_get-get_or, slice_get_past}
use Rattle.policy.specs.Views.{numbered}
use Rattle.ledger.specs.declared.standing.Standing.{Standing}
use Rattle.ledger.specs.Standings.{requests}
use Rattle.ledger.proofs.Requests.{length-requests}

-- no request has that place, or one has. The first part is trivially true: it gives `grind` the term to match
pub numbered_cases : (xs : List Standing) (i : ℕ) → (numbered (requests xs) i ≡ numbered (requests xs) i)
    × ((((i ≡ 0) ⊎ (length xs < i)) × (numbered (requests xs) i ≡ None))
    ⊎ ((i ≡ 0 → ⊥) × (i ≤ length xs) × ((d : Standing) → numbered (requests xs) i ≡ Some (get_or xs (i - 1) d).request)))
numbered_cases xs zero = (refl, inl (inl refl, refl))
numbered_cases xs (suc i) = (
  refl,
  ⊎_elim
      (λ (below : i < length xs). inr (
        (λ e. omega arith),
        omega arith,
        λ d.
            let back : i ≡ suc i - 1 = omega arith in
            slice_get-get_or (requests xs) i d.request (rw length-requests below)
            ∙ ap Some (get_or-map (λ s. s.request) xs i d d.request below)
            ∙ ap (λ k. Some (get_or xs k d).request) back,
      ))
      (λ (past : length xs ≤ i). inl (inr (omega arith), slice_get_past (requests xs) i (rw length-requests past)))
      (cases_lt i (length xs)),
)
