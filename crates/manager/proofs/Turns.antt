-- The turns of a loop that releases all of a vehicle's requests but its base. Assumes nothing.
use Rattle.std.proofs.Common.{◌≡◌, ℕ, suc, ◌+◌, ◌<◌, ◌≤◌, Bool, true, false, cond, not, eqb, List, [], ◌∷◌, ◌++◌, length, is_some, Some, None, filter, Option, sym, refl, ap, ◌∙◌, subst, inl, inr, append_assoc, append-nil, arith, length-append}
use Rattle.std.specs.List.{ContainsAt as Has, slice_get}
use Rattle.std.proofs.lemmas.List.Elements.{filter-append}
use Rattle.std.proofs.lemmas.Option.{none-some, same_Some}
use Rattle.std.proofs.ByRecursion.{has_append_right, has_get_or, has_push_cases}
use Rattle.std.proofs.lemmas.List.Filters.{length-filter_both}
use Rattle.std.proofs.lemmas.Bool.{and_from, and_parts, cases_Bool, cond_both, cond-false, cond-true, eq-eqb, eqb-true, not_from_false, not_from_true}
use Rattle.refusal.specs.declared.kinds.Name.{Name}
use Rattle.reservation.specs.declared.request.Request.{Request}
use Rattle.reservation.specs.Requests.{name_of}
use Rattle.policy.specs.Views.{found, named, numbered, released}
use Rattle.run.specs.Manager.{Based, Cleared, Stale, more, name, over}
use Rattle.run.specs.Worlds.{Conduct}

module _ {X : Type 0} where
  -- what stands right behind the front
  nth_behind : (front back : List X) → slice_get (front ++ back) (length front) ≡ slice_get back 0
  nth_behind [] back = refl
  nth_behind (x ∷ front) back = nth_behind front back

  -- the list behind the front begins with it, or is empty
  behind : (back : List X) (x : X) → slice_get back 0 ≡ Some x → (rest : List X) × (back ≡ x ∷ rest)
  behind [] x is = absurd (none-some x is)
  behind (y ∷ rest) x is = (rest, ap (λ z. z ∷ rest) (same_Some y x is))

  nothing_behind : (back : List X) → slice_get back 0 ≡ None → back ≡ []
  nothing_behind [] is = refl
  nothing_behind (y ∷ rest) is = absurd (none-some y (sym is))

  module _ (p : X → Bool) where
    -- where all pass, all are kept
    kept_all : (xs : List X) → ((x : X) → Has xs x → p x ≡ true) → filter p xs ≡ xs
    kept_all [] passes = refl
    kept_all (x ∷ xs) passes =
        cond-true _ _ _ (passes x (has_get_or (x ∷ xs) 0 x (omega arith)))
        ∙ ap (λ ys. x ∷ ys) (kept_all xs (λ y h. passes y (has_append_right (x ∷ []) xs y h)))

    -- a filter that lets the front pass, and not the one behind it
    kept_front : (front back : List X) (x : X) → ((y : X) → Has front y → p y ≡ true) → p x ≡ false
        → filter p (front ++ x ∷ back) ≡ front ++ filter p back
    kept_front front back x passes out =
        filter-append p front (x ∷ back) ∙ ap (λ ys. ys ++ filter p (x ∷ back)) (kept_all front passes) ∙ ap (λ ys. front ++ ys) (cond-false _ _ _ out)

    kept_short : (xs : List X) → length (filter p xs) ≤ length xs
    kept_short xs = omega (arith, length-filter_both p (λ x. not (p x)) (λ _. refl) xs)

-- a request has its own name, and those of its name are stale where it is
named_itself : (x : Request) → named (name_of x) x ≡ true
named_itself x = and_from _ _ (eq-eqb x.vehicle x.vehicle refl) (eq-eqb x.number x.number refl)

found_itself : (front back : List Request) (x : Request) → is_some (found (name_of x) (front ++ x ∷ back)) ≡ true
found_itself [] back x = ap is_some (cond-true _ _ _ (named_itself x))
found_itself (y ∷ front) back x =
    cond_both (named (name_of x) y) _ _ (λ o. is_some o ≡ true) (λ _. refl) (λ _. found_itself front back x)

module _ (v : ℕ) (base : Option ℕ) where
  stale_named : (x y : Request) → Stale v base x → named (name_of x) y ≡ true → Stale v base y
  stale_named x y stale e =
      let same = and_parts (eqb y.vehicle x.vehicle) (eqb y.number x.number) e in
      (eqb-true _ _ same.0 ∙ stale.0, λ is. stale.1 (is ∙ ap Some (eqb-true _ _ same.1)))

  unnamed : (x y : Request) → Stale v base x → (Stale v base y → ⊥) → not (named (name_of x) y) ≡ true
  unnamed x y stale fresh = elim (cases_Bool (named (name_of x) y)) [
    | inl e ↦ absurd (fresh (stale_named x y stale e))
    | inr e ↦ not_from_false _ e
  ]

module _ {P : Type 0} (c : Conduct P) (v : ℕ) (base : Option ℕ) where
  -- from p the loop has come to q and to place i: none in front of that place is stale, and a clearing from here on
  -- completes one from the start
  pub record Clearing (p q : P) (i : ℕ) : Type 0 where
    pub front : List Request
    pub back : List Request
    pub split : (c.view q).ledger ≡ front ++ back
    pub place : i ≡ suc (length front)
    pub none : (x : Request) → Has front x → Stale v base x → ⊥
    pub completes : (end : P) → Cleared c v base q end → Cleared c v base p end

  pub begins : (p : P) → Clearing p p 1
  begins p = record {
    front = [];
    back = (c.view p).ledger;
    split = refl;
    place = refl;
    none = λ x h _. let lt : h.0 < 0 = h.1 in omega arith;
    completes = λ end done. done;
  }

  module _ (p q : P) (i : ℕ) (so_far : Clearing p q i) where
    at_place : numbered (c.view q).ledger i ≡ slice_get so_far.back 0
    at_place =
        ap (λ xs. numbered xs i) so_far.split
        ∙ ap (numbered (so_far.front ++ so_far.back)) so_far.place
        ∙ nth_behind so_far.front so_far.back

    module _ (x : Request) (here : numbered (c.view q).ledger i ≡ Some x) where
      -- what stands behind it
      abbrev tail : List Request
      tail = (behind so_far.back x (sym at_place ∙ here)).0

      standing : (c.view q).ledger ≡ so_far.front ++ x ∷ tail
      standing = so_far.split ∙ ap (λ ys. so_far.front ++ ys) (behind so_far.back x (sym at_place ∙ here)).1

      -- the place lies within the ledger
      pub within : i ≤ length (c.view q).ledger
      within =
          let all = ap length standing in
          let parts = length-append so_far.front (x ∷ tail) in
          let at = so_far.place in
          omega arith

      -- one that is not stale stays in front
      pub passes : (Stale v base x → ⊥) → Clearing p q (i + 1)
      passes fresh = record {
        front = so_far.front ++ x ∷ [];
        back = tail;
        split = standing ∙ simp append_assoc;
        place = (let at = so_far.place in simp length-append (omega arith));
        none = λ y h stale. elim (has_push_cases so_far.front x y h) [
          | inl before ↦ so_far.none y before stale
          | inr same ↦ fresh (subst (Stale v base) (sym same) stale)
        ];
        completes = so_far.completes;
      }

      -- it is stale, and is released
      module _ (stale : Stale v base x) (n : Name) (is : n ≡ name_of x) (a : Bool) (q' : P) (out : c.releases q n a q')
          (finds : a ≡ is_some (found n (c.view q).ledger)) (removes : c.view q' ≡ released (c.view q) n) where
        stood : a ≡ true
        stood =
            finds ∙ ap (λ m. is_some (found m (c.view q).ledger)) is ∙ ap (λ xs. is_some (found (name_of x) xs)) standing
            ∙ found_itself so_far.front tail x

        left : (c.view q').ledger ≡ so_far.front ++ filter (λ y. not (named (name_of x) y)) tail
        left =
            ap (λ w. w.ledger) (removes ∙ ap (released (c.view q)) is)
            ∙ ap (filter (λ y. not (named (name_of x) y))) standing
            ∙ kept_front (λ y. not (named (name_of x) y)) so_far.front _ x
            (λ y h. unnamed v base x y stale (so_far.none y h)) (not_from_true _ (named_itself x))

        -- a stale one goes out, and the next one is at its place
        pub releases_one : Clearing p q' i
        releases_one = record {
          front = so_far.front;
          back = filter (λ y. not (named (name_of x) y)) tail;
          split = left;
          place = so_far.place;
          none = so_far.none;
          completes = λ end done. so_far.completes end (more q q' end x (record {
            before = so_far.front;
            after = tail;
            split = standing;
            here = stale;
            none = so_far.none;
          }) (subst (λ m. c.releases q m true q') is (subst (λ b. c.releases q n b q') stood out)) done);
        }

        pub shorter : length (c.view q').ledger < length (c.view q).ledger
        shorter =
            let few = kept_short (λ y. not (named (name_of x) y)) tail in
            let now = ap length left ∙ length-append so_far.front (filter (λ y. not (named (name_of x) y)) tail) in
            let was = ap length standing ∙ length-append so_far.front (x ∷ tail) in
            omega arith

    -- where nothing is left to look at, all is cleared
    pub ends : numbered (c.view q).ledger i ≡ None → Cleared c v base p q
    ends nothing =
        let whole : (c.view q).ledger ≡ so_far.front =
        so_far.split ∙ ap (λ ys. so_far.front ++ ys) (nothing_behind so_far.back (sym at_place ∙ nothing)) ∙ append-nil so_far.front in
        so_far.completes q (over q (λ x h. so_far.none x (subst (λ ys. Has ys x) whole h)))

-- no request is taken out by the release of another name
other_found : (n m : Name) → ((x : Request) → named m x ≡ true → named n x ≡ false) → (xs : List Request)
    → found n (filter (λ y. not (named m y)) xs) ≡ found n xs
other_found n m apart [] = refl
other_found n m apart (x ∷ xs) =
    let ys = filter (λ y. not (named m y)) xs in
    let tail = other_found n m apart xs in
    elim (cases_Bool (named m x)) [
      | inl e ↦ ap (found n) (cond-false _ (x ∷ ys) ys (not_from_true _ e)) ∙ tail ∙ sym (cond-false _ (Some x.entry) (found n xs) (apart x e))
      | inr e ↦ ap (found n) (cond-true _ (x ∷ ys) ys (not_from_false _ e)) ∙ ap (cond (named n x) (Some x.entry)) tail
    ]

-- a clearing leaves the base as it is
module _ {P : Type 0} (c : Conduct P) (removes : (p : P) (n : Name) (a : Bool) (p' : P) → c.releases p n a p' → c.view p' ≡ released (c.view p) n) where
  pub base_stays : (v b : ℕ) (p p' : P) → Cleared c v (Some b) p p' → found (name v b) (c.view p').ledger ≡ found (name v b) (c.view p).ledger
  base_stays v b p p' (over _ none) = refl
  base_stays v b p p' (more _ between _ x first out rest) =
      base_stays v b between p' rest
      ∙ ap (λ w. found (name v b) w.ledger) (removes p (name_of x) true between out)
      ∙ other_found (name v b) (name_of x) (λ y e. elim (cases_Bool (named (name v b) y)) [
        | inl same ↦ (let stale = stale_named v (Some b) x y first.here e in
            let is = and_parts (eqb y.vehicle v) (eqb y.number b) same in
            absurd (stale.1 (ap Some (sym (eqb-true _ _ is.1)))))
        | inr other ↦ other
      ]) (c.view p).ledger

  pub still_based : (v : ℕ) (base : Option ℕ) (p p' : P) → Cleared c v base p p' → Based (c.view p) v base → Based (c.view p') v base
  still_based v None p p' done based = tt
  still_based v (Some b) p p' done based = λ gone. based (sym (base_stays v b p p' done) ∙ gone)
