-- The requests of a list of standing ones. Assumes nothing.
use Rattle.std.proofs.Common.{◌≡◌, ℕ, ◌<◌, Bool, true, false, not, leb, List, [], ◌∷◌, ◌++◌, length, get_or, filter, sym, refl, ap, ◌∙◌, ⊎_elim}
use Rattle.std.specs.List.{ContainsAt as Has, AllByRecursion as All}
use Rattle.std.proofs.ByRecursion.{has_get_or}
use Rattle.std.proofs.lemmas.List.{get_or-map, length-map, map-append}
use Rattle.std.proofs.lemmas.Bool.{cases_Bool, cond-true, cond-false}
use Rattle.refusal.specs.declared.kinds.Name.{Name}
use Rattle.reservation.specs.declared.request.Request.{Request}
use Rattle.policy.specs.Views.{named}
use Rattle.ledger.specs.declared.standing.Standing.{Standing}
use Rattle.ledger.specs.Standings.{lasts, other, requests}
use Rattle.ledger.proofs.Kept.{all_from_has}

pub length-requests : (xs : List Standing) → length (requests xs) ≡ length xs
length-requests xs = length-map xs (λ s. s.request)

pub requests-append : (xs ys : List Standing) → requests (xs ++ ys) ≡ requests xs ++ requests ys
requests-append xs ys = map-append (λ s. s.request) xs ys

-- a request of the list has its standing one there
pub has_standing : (xs : List Standing) (r : Request) → Has (requests xs) r → (s : Standing) × Has xs s × (s.request ≡ r)
has_standing xs r (k, below, at) =
    let d : Standing = record { request = r; last_tick = 0 } in
    let within : k < length xs = rw length-requests at below in
    (get_or xs k d, has_get_or xs k d within, sym (get_or-map (λ s. s.request) xs k d r within) ∙ at r)

pub has_request : (xs : List Standing) (s : Standing) → Has xs s → Has (requests xs) s.request
has_request xs s (k, below, at) =
    (k, rw length-requests below, λ e. get_or-map (λ t. t.request) xs k s e below ∙ ap (λ t. t.request) (at s))

-- a filter of the standing ones is one of their requests, where the two tests agree
module _ (p : Standing → Bool) (q : Request → Bool) where
  kept_alike : (xs : List Standing) → All (λ s. p s ≡ q s.request) xs → requests (filter p xs) ≡ filter q (requests xs)
  kept_alike [] alike = refl
  kept_alike (x ∷ xs) alike =
      let rest = kept_alike xs alike.1 in
      ⊎_elim
      (λ (e : p x ≡ true). ap requests (cond-true _ _ _ e) ∙ ap (λ ys. x.request ∷ ys) rest ∙ sym (cond-true _ _ _ (sym alike.0 ∙ e)))
      (λ (e : p x ≡ false). ap requests (cond-false _ _ _ e) ∙ rest ∙ sym (cond-false _ _ _ (sym alike.0 ∙ e)))
      (cases_Bool (p x))

  pub requests_kept : (xs : List Standing) → ((s : Standing) → Has xs s → p s ≡ q s.request) → requests (filter p xs) ≡ filter q (requests xs)
  requests_kept xs alike = kept_alike xs (all_from_has (λ s. p s ≡ q s.request) xs alike)

pub requests-other : (n : Name) (xs : List Standing) → requests (filter (other n) xs) ≡ filter (λ r. not (named n r)) (requests xs)
requests-other n xs = requests_kept (other n) (λ r. not (named n r)) xs (λ _ _. refl)

-- where each last tick is what `last` gives for the request
pub requests_lasting : (last : Request → ℕ) (clock : ℕ) (xs : List Standing) → ((s : Standing) → Has xs s → s.last_tick ≡ last s.request)
    → requests (filter (lasts clock) xs) ≡ filter (λ r. leb clock (last r)) (requests xs)
requests_lasting last clock xs ticks = requests_kept (lasts clock) (λ r. leb clock (last r)) xs (λ s h. ap (leb clock) (ticks s h))
