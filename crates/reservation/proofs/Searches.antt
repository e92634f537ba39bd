-- A search of the ticks from the first up to the end. Assumes nothing.
use Rattle.std.proofs.Common.{◌≡◌, ℕ, ◌+◌, ◌-◌, ◌<◌, ◌≤◌, Bool, true, false, length, get_or, refl, sym, ◌∙◌, subst, arith}
use Rattle.std.specs.Bool.{Decides, MatchBool}
use Rattle.std.specs.List.{AllWithin, HoldsAt, range_with_len}
use Rattle.std.proofs.lemmas.Bool.{both_ways}
use Rattle.std.proofs.lemmas.List.FromFn.{get_or-range_with_len, length-range_with_len}

-- where what is sought can be at no other tick, the search decides whether it is at any
module _ (at : ℕ → Type 0) (first end : ℕ) (inside : (t : ℕ) → at t → (first ≤ t) × (t < end)) where
  pub decides_range : (found : Bool)
      → MatchBool found ((k : ℕ) × (k < length (range_with_len first (end - first))) × HoldsAt at (range_with_len first (end - first)) k)
      (AllWithin (λ t. at t → ⊥) (range_with_len first (end - first)) 0 (length (range_with_len first (end - first))))
      → Decides found ((t : ℕ) × at t)
  decides_range true w = (λ _. (get_or (range_with_len first (end - first)) w.0 0, w.2 0), λ _. refl)
  decides_range false none = (
    λ e. absurd (both_ways false refl e),
    λ w.
        let within = inside w.0 w.1 in
        let k : ℕ = w.0 - first in
        let small : k < end - first = omega arith in
        let below : k < length (range_with_len first (end - first)) = rw length-range_with_len small in
        let is : w.0 ≡ get_or (range_with_len first (end - first)) k 0 = (let sum : w.0 ≡ first + k = omega arith in sum ∙ sym (get_or-range_with_len first (end - first) k 0 small)) in
        absurd (none k 0 (omega arith) below (subst at is w.1)),
  )
