-- Which cells the chosen requests cover. Assumes nothing.
use Rattle.std.proofs.Common.{◌≡◌, ℕ, ◌+◌, ◌<◌, ◌≤◌, Bool, true, false, cond, ◌&&◌, ◌||◌, List, [], ◌∷◌, length, get_or, drop, sym, refl, ap, ◌∙◌, ⊎_elim}
use Rattle.std.specs.List.{ContainsAt as Has, AllByRecursion as All}
use Rattle.std.proofs.lemmas.List.{at_drop_more, at_drop_all}
use Rattle.std.proofs.lemmas.Bool.{and_from, and_parts, both_ways, or_cases, or_parts}
use Rattle.std.proofs.ByRecursion.{all-has}
use Rattle.grid.specs.declared.junction.Junction.{Junction}
use Rattle.reservation.specs.declared.request.Request.{Request}
use Rattle.reservation.specs.Cells.{has}
use Rattle.reservation.specs.Requests.{in_range}
use Rattle.ledger.specs.declared.standing.Standing.{Standing}
use Rattle.ledger.specs.Standings.{requests}
use Rattle.tile_table.specs.Painting.{covers, takes}
use Rattle.tile_table.proofs.Givens.{has_head, has_tail}

-- a cell that is painted twice in one colour
over : (one rest : Bool) (v m : ℕ) → cond rest v (cond one v m) ≡ cond (one || rest) v m
over true true v m = refl
over true false v m = refl
over false true v m = refl
over false false v m = refl

module _ (chosen : Request → Bool) (j : Junction) (tile t : ℕ) where
  abbrev covers_one : Request → Bool
  covers_one r = chosen r && takes j r tile t

  -- a turn of the pass over all, at a request that is chosen and at one that is not, and its end
  covers_more : (xs : List Standing) (i : ℕ) (d : Standing) (v m n : ℕ) → i < length xs → n ≡ cond (covers_one (get_or xs i d).request) v m
      → cond (covers chosen j (requests (drop (i + 1) xs)) tile t) v n ≡ cond (covers chosen j (requests (drop i xs)) tile t) v m
  covers_more xs i d v m n below is =
      ap (cond (covers chosen j (requests (drop (i + 1) xs)) tile t) v) is
      ∙ over (covers_one (get_or xs i d).request) (covers chosen j (requests (drop (i + 1) xs)) tile t) v m
      ∙ ap (λ b. cond b v m) (sym (at_drop_more (λ l. covers chosen j (requests l) tile t) xs i d below))

  module _ (xs : List Standing) (i : ℕ) (d : Standing) (v m n : ℕ) (below : i < length xs) where
    abbrev here : Request
    here = (get_or xs i d).request

    pub covers_chosen : chosen here ≡ true → n ≡ cond (takes j here tile t) v m
        → cond (covers chosen j (requests (drop (i + 1) xs)) tile t) v n ≡ cond (covers chosen j (requests (drop i xs)) tile t) v m
    covers_chosen picked is = covers_more xs i d v m n below (is ∙ ap (λ b. cond (b && takes j here tile t) v m) (sym picked))

    pub covers_passed : chosen here ≡ false → n ≡ m
        → cond (covers chosen j (requests (drop (i + 1) xs)) tile t) v n ≡ cond (covers chosen j (requests (drop i xs)) tile t) v m
    covers_passed passed is = covers_more xs i d v m n below (is ∙ ap (λ b. cond (b && takes j here tile t) v m) (sym passed))

  pub covers_end : (xs : List Standing) (i : ℕ) (v m : ℕ) → length xs ≤ i → cond (covers chosen j (requests (drop i xs)) tile t) v m ≡ m
  covers_end xs i v m past = ap (λ b. cond b v m) (at_drop_all (λ l. covers chosen j (requests l) tile t) xs i past)

  -- who covers a covered cell
  pub record Coverer (rs : List Request) : Type 0 where
    pub one : Request
    pub inside : Has rs one
    pub picked : chosen one ≡ true
    pub holds : has j one tile t ≡ true

  pub covers_found : (rs : List Request) → covers chosen j rs tile t ≡ true → Coverer rs
  covers_found [] e = absurd (both_ways false refl e)
  covers_found (r ∷ rs) e = ⊎_elim
      (λ (here : covers_one r ≡ true).
      let parts = and_parts (chosen r) (takes j r tile t) here in
      record { one = r; inside = has_head r rs; picked = parts.0; holds = (and_parts (in_range j r) (has j r tile t) parts.1).1 })
      (λ (rest : covers chosen j rs tile t ≡ true).
      let w = covers_found rs rest in
      record { one = w.one; inside = has_tail w.one r rs w.inside; picked = w.picked; holds = w.holds })
      (or_cases (covers_one r) (covers chosen j rs tile t) e)

  -- where a cell is not covered, no chosen request in range has it
  uncovered : (rs : List Request) → covers chosen j rs tile t ≡ false → All (λ r. covers_one r ≡ false) rs
  uncovered [] e = tt
  uncovered (r ∷ rs) e =
      let parts = or_parts (covers_one r) (covers chosen j rs tile t) e in
      (parts.0, uncovered rs parts.1)

  pub covers_not : (rs : List Request) → covers chosen j rs tile t ≡ false → (r : Request) → Has rs r → chosen r ≡ true → in_range j r ≡ true → has j r tile t ≡ true → ⊥
  covers_not rs e r inside picked ranged holds =
      both_ways _ (all-has (λ x. covers_one x ≡ false) rs r (uncovered rs e) inside) (and_from _ _ picked (and_from _ _ ranged holds))
