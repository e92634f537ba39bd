-- A tick that no last tick is below. Assumes nothing.
use Rattle.std.proofs.Common.{◌≡◌, ℕ, ◌≤◌, min, true, List, [], ◌∷◌, ◌++◌, filter, subst, inl, inr, arith}
use Rattle.std.proofs.ByRecursion.{has_push_cases}
use Rattle.std.proofs.lemmas.Bool.{le-leb}
use Rattle.ledger.specs.declared.standing.Standing.{Standing}
use Rattle.ledger.specs.Standings.{Sooner, lasts}
use Rattle.ledger.proofs.Kept.{all_from_has, kept_by_all}

pub sooner_push : (t : ℕ) (xs : List Standing) (x : Standing) → Sooner t xs → Sooner (min t x.last_tick) (xs ++ x ∷ [])
sooner_push t xs x sooner s has = elim (has_push_cases xs x s has) [
  | inl before ↦ let le = sooner s before in omega arith
  | inr same ↦ subst (λ y. min t x.last_tick ≤ y.last_tick) same (omega arith)
]

-- up to the soonest tick nothing is over
pub none_over : (t clock : ℕ) (xs : List Standing) → Sooner t xs → clock ≤ t → filter (lasts clock) xs ≡ xs
none_over t clock xs sooner early =
    kept_by_all (lasts clock) xs (all_from_has (λ s. lasts clock s ≡ true) xs (λ s has. le-leb _ _ (let le = sooner s has in omega arith)))
