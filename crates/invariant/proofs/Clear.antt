-- What a release, and a clearing of one vehicle's requests, leave in the ledger. Assumes nothing.
use Rattle.std.proofs.Common.{◌≡◌, ℕ, Bool, true, not, eqb, List, [], ◌∷◌, Some, filter, Option, sym, refl, ap, ◌∙◌, subst, inl, inr, arith}
use Rattle.std.specs.List.{ContainsAt as Has, AllByRecursion as All}
use Rattle.std.proofs.ByRecursion.{all-has, all_has_itself, all_kept_by, All-weaker, has_append_right, has_get_or}
use Rattle.std.proofs.lemmas.Bool.{and_parts, cases_Bool, cond_both, cond-true, eqb-true, not_from_false}
use Rattle.grid.specs.declared.junction.Junction.{Junction}
use Rattle.refusal.specs.declared.kinds.Name.{Name}
use Rattle.reservation.specs.declared.request.Request.{Request}
use Rattle.reservation.specs.Requests.{name_of}
use Rattle.policy.specs.Views.{View, named}
use Rattle.run.specs.Manager.{Cleared, Stale, more, over}
use Rattle.run.specs.Worlds.{Conduct}
use Rattle.invariant.proofs.Inv.{Apart, Lawful}

-- what a filter keeps
module _ {X : Type 0} (p : X → Bool) where
  pub has_kept : (xs : List X) (x : X) → Has (filter p xs) x → Has xs x
  has_kept xs x = all-has (Has xs) (filter p xs) x (all_kept_by p (Has xs) xs (all_has_itself xs))

  abbrev Kept : List X → X → Type 0
  Kept xs x = p x ≡ true → Has (filter p xs) x

  all_stay : (xs : List X) → All (Kept xs) xs
  all_stay [] = tt
  all_stay (x ∷ xs) =
      let ys = filter p xs in
      let head : Kept (x ∷ xs) x = λ e. subst (λ zs. Has zs x) (sym (cond-true (p x) (x ∷ ys) ys e)) (has_get_or (x ∷ ys) 0 x (omega arith)) in
      let tail : (z : X) → Kept xs z → Kept (x ∷ xs) z =
      λ z h e. cond_both (p x) (x ∷ ys) ys (λ zs. Has zs z) (λ _. has_append_right (x ∷ []) ys z (h e)) (λ _. h e) in
      (head, All-weaker (Kept xs) (Kept (x ∷ xs)) tail xs (all_stay xs))

  pub stays : (xs : List X) (x : X) → p x ≡ true → Has xs x → Has (filter p xs) x
  stays xs x e h = all-has (Kept xs) xs x (all_stay xs) h e

-- of the requests that stood none but those with P went out, and none came in
pub record Fewer (P : Request → Type 0) (w w' : View) : Type 0 where
  pub junction : w'.junction ≡ w.junction
  pub clock : w'.clock ≡ w.clock
  pub stood : (x : Request) → Has w'.ledger x → Has w.ledger x
  pub stands : (x : Request) → Has w.ledger x → (P x → ⊥) → Has w'.ledger x

pub fewer_apart : (clash : Junction → Request → Request → Type 0) (P : Request → Type 0) (w w' : View)
    → Fewer P w w' → Apart clash w → Apart clash w'
fewer_apart clash P w w' f free x y hx hy ne meet =
    free x y (f.stood x hx) (f.stood y hy) ne (subst (λ j. clash j x y) f.junction meet)

abbrev pub Bears : Name → Request → Type 0
Bears n x = (x.vehicle ≡ n.vehicle) × (x.number ≡ n.number)

unnamed : (n : Name) (x : Request) → (Bears n x → ⊥) → not (named n x) ≡ true
unnamed n x other = elim (cases_Bool (named n x)) [
  | inl e ↦ (let same = and_parts (eqb x.vehicle n.vehicle) (eqb x.number n.number) e in
      absurd (other (eqb-true _ _ same.0, eqb-true _ _ same.1)))
  | inr e ↦ not_from_false _ e
]

module _ {P : Type 0} (clash : Junction → Request → Request → Type 0) (c : Conduct P) (law : Lawful clash c) where
  pub released_fewer : (p : P) (n : Name) (a : Bool) (p' : P) → c.releases p n a p' → Fewer (Bears n) (c.view p) (c.view p')
  released_fewer p n a p' r =
      let w = c.view p in
      subst (Fewer (Bears n) w) (sym (law.removes p n a p' r)) (record {
        junction = refl;
        clock = refl;
        stood = λ x h. has_kept (λ y. not (named n y)) w.ledger x h;
        stands = λ x h other. stays (λ y. not (named n y)) w.ledger x (unnamed n x other) h;
      })

  -- a request with the name of a stale one is stale, so nothing else goes out
  pub cleared_fewer : (v : ℕ) (base : Option ℕ) (p p' : P) → Cleared c v base p p' → Fewer (Stale v base) (c.view p) (c.view p')
  cleared_fewer v base p p' (over _ none) = record { junction = refl; clock = refl; stood = λ x h. h; stands = λ x h other. h }
  cleared_fewer v base p p' (more _ between _ x first out rest) =
      let f = released_fewer p (name_of x) true between out in
      let g = cleared_fewer v base between p' rest in
      let stale : (y : Request) → Bears (name_of x) y → Stale v base y =
      λ y same. (same.0 ∙ first.here.0, λ is. first.here.1 (is ∙ ap Some same.1)) in
      record {
        junction = g.junction ∙ f.junction;
        clock = g.clock ∙ f.clock;
        stood = λ y h. f.stood y (g.stood y h);
        stands = λ y h other. g.stands y (f.stands y h (λ same. other (stale y same))) other;
      }
