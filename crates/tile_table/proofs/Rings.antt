-- The ring of ticks, and what a write to it leaves. Assumes nothing.
use Rattle.std.proofs.Common.{◌≡◌, ℕ, ◌+◌, ◌%◌, ◌<◌, ◌≤◌, Bool, true, false, cond, ◌&&◌, ltb, sym, ap, ◌∙◌, subst, ⊎_elim, arith}
use Rattle.std.proofs.lemmas.Bool.{and_left, and_right, cases_eq, cases_lt, cond-false, lt-ltb, le-ltb}
use Rattle.std.proofs.lemmas.Bool.Decides.{nat_tests}
use Rattle.marks.specs.declared.marks.Marks.{Marks}
use Rattle.marks.specs.Marked.{mark}
use Rattle.tile_table.specs.Painting.{Painted}

-- two ticks of the 128 from the clock on have places of their own
pub ring_apart : (clock t u : ℕ) → clock ≤ t → t < clock + 128 → clock ≤ u → u < clock + 128 → (u ≡ t → ⊥) → u % 128 ≡ t % 128 → ⊥
ring_apart clock t u a b c d ne e = ne (omega arith)

-- the cells that pass the test, before a tick
abbrev pub before : (ℕ → ℕ → Bool) → ℕ → ℕ → ℕ → Bool
before f end tile t = ltb t end && f tile t

-- where no cell before the tick passes, none is painted yet
pub paint_first : (clock tick vehicle : ℕ) (f : ℕ → ℕ → Bool) (old : Marks) → ((tile t : ℕ) → clock ≤ t → t < tick → f tile t ≡ false)
    → Painted clock (before f tick) vehicle old old
paint_first clock tick vehicle f old none tile t w = ⊎_elim
    (λ (lt : t < tick). sym (cond-false (before f tick tile t) vehicle (mark old tile t) (and_right (ltb t tick) (f tile t) (none tile t w.1 lt))))
    (λ (le : tick ≤ t). sym (cond-false (before f tick tile t) vehicle (mark old tile t) (and_left (ltb t tick) (f tile t) (le-ltb t tick le))))
    (cases_lt t tick)

-- where no cell from the tick on passes, all are painted
pub paint_last : (clock tick vehicle : ℕ) (f : ℕ → ℕ → Bool) (old new : Marks) → ((tile t : ℕ) → tick ≤ t → t < clock + 128 → f tile t ≡ false)
    → Painted clock (before f tick) vehicle old new → Painted clock f vehicle old new
paint_last clock tick vehicle f old new none so tile t w = so tile t w ∙ ap (λ b. cond b vehicle (mark old tile t)) (⊎_elim
    (λ (lt : t < tick). ap (λ b. b && f tile t) (lt-ltb t tick lt))
    (λ (le : tick ≤ t). and_left (ltb t tick) (f tile t) (le-ltb t tick le) ∙ sym (none tile t le w.2))
    (cases_lt t tick))

-- once the cells before the tick are painted, so are those at the tick
module _ (clock tick vehicle : ℕ) (f : ℕ → ℕ → Bool) (old mid new : Marks) where
  here_more : (g : Bool) (n m o : ℕ) (t : ℕ) → t ≡ tick → n ≡ cond g vehicle m → m ≡ cond (ltb t tick && g) vehicle o → n ≡ cond (ltb t (tick + 1) && g) vehicle o
  here_more true n m o t at a b = grind (arith, nat_tests)
  here_more false n m o t at a b = grind (arith, nat_tests)

  other_more : (g : Bool) (n m o : ℕ) (t : ℕ) → (t ≡ tick → ⊥) → n ≡ m → m ≡ cond (ltb t tick && g) vehicle o → n ≡ cond (ltb t (tick + 1) && g) vehicle o
  other_more true n m o t ne a b = grind (arith, nat_tests)
  other_more false n m o t ne a b = grind (arith, nat_tests)

  pub paint_more : clock ≤ tick → tick < clock + 128
      → ((tile : ℕ) → tile < 64 → mark new tile tick ≡ cond (f tile tick) vehicle (mark mid tile tick))
      → ((tile u : ℕ) → tile < 64 → (u % 128 ≡ tick % 128 → ⊥) → mark new tile u ≡ mark mid tile u)
      → Painted clock (before f tick) vehicle old mid
      → Painted clock (before f (tick + 1)) vehicle old new
  paint_more from to here others so tile t w = ⊎_elim
      (λ (e : t ≡ tick).
      here_more (f tile t) (mark new tile t) (mark mid tile t) (mark old tile t) t e
      (subst (λ u. mark new tile u ≡ cond (f tile u) vehicle (mark mid tile u)) (sym e) (here tile w.0))
      (so tile t w))
      (λ (ne : t ≡ tick → ⊥).
      other_more (f tile t) (mark new tile t) (mark mid tile t) (mark old tile t) t ne
      (others tile t w.0 (ring_apart clock tick t from to w.1 w.2 ne))
      (so tile t w))
      (cases_eq t tick)
