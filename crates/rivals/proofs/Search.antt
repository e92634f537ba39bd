-- A search of the standing requests for the first with P. Assumes nothing.
use Rattle.std.proofs.Common.{◌≡◌, ℕ, ◌+◌, ◌<◌, List, ◌∷◌, ◌++◌, length, get_or, take, drop, Some, None, Option, Bor, sym, refl, ap, ◌∙◌, subst, arith, length-take}
use Rattle.std.specs.List.{AllWithin, HoldsAt, ContainsAt as Has}
use Rattle.std.specs.Option.{MatchOption, option_map}
use Rattle.std.proofs.lemmas.List.{drop_more, get_or-take, take-append-drop, take_all}
use Rattle.ledger.specs.declared.standing.Standing.{Standing}
use Rattle.ledger.specs.Standings.{requests}
use Rattle.ledger.proofs.Requests.{has_standing, requests-append}
use Rattle.policy.specs.Answers.{Earliest}
use Rattle.reservation.specs.declared.request.Request.{Request}
use Rattle.reservation.specs.Requests.{name_of}
use Rattle.rivals.specs.Rivals.{Sought}

module _ (P : Request → Type 0) (xs : List Standing) where
  abbrev pub Passes : Standing → Type 0
  Passes s = P s.request

  abbrev pub Fails : Standing → Type 0
  Fails s = P s.request → ⊥

  -- none among the first i
  none_before : (i : ℕ) → AllWithin Fails xs 0 i → (x : Request) → Has (requests (take i xs)) x → P x → ⊥
  none_before i fails x h p =
      let w = has_standing (take i xs) x h in
      let k = w.1.0 in
      let small : k < i = omega (arith, w.1.1, length-take i xs) in
      let is : get_or xs k w.0 ≡ w.0 = sym (get_or-take i xs k w.0 small) ∙ w.1.2 w.0 in
      fails k w.0 (omega arith) small (subst P (sym (ap (λ (s : Standing). s.request) is ∙ w.2)) p)

  first_at : (s : Standing) (i : ℕ) → P s.request → i < length xs → HoldsAt (λ y. y ≡ s) xs i → AllWithin Fails xs 0 i → Earliest P (requests xs) s.request
  first_at s i p within at fails = record {
    before = requests (take i xs);
    after = requests (drop (i + 1) xs);
    split = ap requests (sym (take-append-drop i xs) ∙ ap (λ ys. take i xs ++ ys) (drop_more xs i s within ∙ ap (λ y. y ∷ drop (i + 1) xs) (at s)))
        ∙ requests-append (take i xs) (s ∷ drop (i + 1) xs);
    here = p;
    none = none_before i fails;
  }

  pub sought_found : (found : Option (Bor Standing))
      → MatchOption found (AllWithin Fails xs 0 (length xs)) (λ s. Passes s.now × (i : ℕ) × (i < length xs) × HoldsAt (λ y. y ≡ s.now) xs i × AllWithin Fails xs 0 i)
      → Sought P (requests xs) (option_map (λ s. name_of s.now.request) found)
  sought_found None fails = λ x h p. none_before (length xs) fails x (subst (λ ys. Has (requests ys) x) (sym (take_all (length xs) xs (omega arith))) h) p
  sought_found (Some s) w = (s.now.request, first_at s.now w.1 w.0 w.2 w.3 w.4, refl)
