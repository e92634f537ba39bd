-- Words joined from point to point, and when a join of some is told by two. Assumes nothing.
--
-- Where each digit of the words w 0, w 1, .. is 1 at consecutive places only, the digits of the words from a to b are
-- those that occur up to b and that occur from a on.
use Rattle.std.proofs.Common.{◌≡◌, ℕ, zero, suc, ◌+◌, ◌-◌, ◌<◌, ◌≤◌, Bool, true, false, ◌&&◌, eqb, leb, List, [], ◌∷◌, length, get_or, sym, refl, ap, ◌∙◌, ap₂, ⊎_elim, arith}
use lib.Bits.{bit_or, bit_and}
use Rattle.std.proofs.lemmas.Bool.{and_from, and_parts, both_ways, cases_eq, cases_lt, eqb-true, le-leb, leb-true, or_cases, or_left, or_right}
use Rattle.grid.specs.Some.{some}
use Rattle.grid.specs.Sets.{bit}
use Rattle.grid.specs.Tables.{joined_up, joined_down}
use Rattle.grid.proofs.Digits.{bit_zero, bit-or, bit-and}
use Rattle.grid.proofs.Somes.{same_tests, some_at, some_found}

-- the words w i, w (i + 1), .., of which there are m
abbrev pub listed : (ℕ → ℕ) → ℕ → ℕ → List ℕ
listed w i zero = []
listed w i (suc m) = w i ∷ listed w (suc i) m

-- the join of the words below i
abbrev pub join_below : (ℕ → ℕ) → ℕ → ℕ
join_below w zero = 0
join_below w (suc i) = bit_or (join_below w i) (w i)

-- the join of m words from i on
abbrev pub join_from : (ℕ → ℕ) → ℕ → ℕ → ℕ
join_from w i zero = 0
join_from w i (suc m) = bit_or (join_from w (suc i) m) (w i)

-- what is in the words before a place and in those after it is in the word there
abbrev pub unbroken : List ℕ → List ℕ → List ℕ → Bool
unbroken [] us ds = true
unbroken (w ∷ ws) [] ds = false
unbroken (w ∷ ws) (u ∷ us) [] = false
unbroken (w ∷ ws) (u ∷ us) (d ∷ ds) = eqb (bit_and u d) w && unbroken ws us ds

pub unbroken_at : (ws us ds : List ℕ) (k : ℕ) → unbroken ws us ds ≡ true → k < length ws → bit_and (get_or us k 0) (get_or ds k 0) ≡ get_or ws k 0
unbroken_at [] us ds k e h = absurd (omega arith)
unbroken_at (w ∷ ws) [] ds k e h = absurd (both_ways false refl e)
unbroken_at (w ∷ ws) (u ∷ us) [] k e h = absurd (both_ways false refl e)
unbroken_at (w ∷ ws) (u ∷ us) (d ∷ ds) zero e h = eqb-true (bit_and u d) w (and_parts _ _ e).0
unbroken_at (w ∷ ws) (u ∷ us) (d ∷ ds) (suc k) e h = unbroken_at ws us ds k (and_parts _ _ e).1 (omega arith)

module _ (w : ℕ → ℕ) where
  pub length-listed : (m i : ℕ) → length (listed w i m) ≡ m
  length-listed zero i = refl
  length-listed (suc m) i = ap suc (length-listed m (suc i))

  pub length_up : (m i before : ℕ) → length (joined_up before (listed w i m)) ≡ m
  length_up zero i before = refl
  length_up (suc m) i before = ap suc (length_up m (suc i) (bit_or before (w i)))

  pub length-down : (m i : ℕ) → length (joined_down (listed w i m)) ≡ m
  length-down zero i = refl
  length-down (suc m) i = ap suc (length-down m (suc i))

  pub listed_at : (m i k : ℕ) → k < m → get_or (listed w i m) k 0 ≡ w (i + k)
  listed_at zero i k h = absurd (omega arith)
  listed_at (suc m) i zero h = let e : i ≡ i + 0 = omega arith in ap w e
  listed_at (suc m) i (suc k) h = let e : suc i + k ≡ i + suc k = omega arith in listed_at m (suc i) k (omega arith) ∙ ap w e

  pub up_at : (m i k : ℕ) → k < m → get_or (joined_up (join_below w i) (listed w i m)) k 0 ≡ join_below w (suc (i + k))
  up_at zero i k h = absurd (omega arith)
  up_at (suc m) i zero h = let e : suc i ≡ suc (i + 0) = omega arith in ap (join_below w) e
  up_at (suc m) i (suc k) h =
      let e : suc (suc i + k) ≡ suc (i + suc k) = omega arith in
      up_at m (suc i) k (omega arith) ∙ ap (join_below w) e

  down_first : (m i : ℕ) → get_or (joined_down (listed w i m)) 0 0 ≡ join_from w i m
  down_first zero i = refl
  down_first (suc m) i = ap (λ x. bit_or x (w i)) (down_first m (suc i))

  pub down_at : (m i k : ℕ) → k < m → get_or (joined_down (listed w i m)) k 0 ≡ join_from w (i + k) (m - k)
  down_at zero i k h = absurd (omega arith)
  down_at (suc m) i zero h =
      let e : i ≡ i + 0 = omega arith in
      let f : suc m ≡ suc m - 0 = omega arith in
      down_first (suc m) i ∙ ap₂ (join_from w) e f
  down_at (suc m) i (suc k) h =
      let e : suc i + k ≡ i + suc k = omega arith in
      let f : m - k ≡ suc m - suc k = omega arith in
      down_at m (suc i) k (omega arith) ∙ ap₂ (join_from w) e f

  module _ (t : ℕ) where
    below_found : (i : ℕ) → bit (join_below w i) t ≡ true → (x : ℕ) × (x < i) × (bit (w x) t ≡ true)
    below_found zero e = absurd (both_ways _ (bit_zero t) e)
    below_found (suc i) e = ⊎_elim
        (λ h. let f = below_found i h in (f.0, omega (arith, f.1), f.2))
        (λ h. (i, omega arith, h))
        (or_cases _ _ (sym (bit-or (join_below w i) (w i) t) ∙ e))

    below_at : (i x : ℕ) → x < i → bit (w x) t ≡ true → bit (join_below w i) t ≡ true
    below_at zero x h e = absurd (omega arith)
    below_at (suc i) x h e = bit-or (join_below w i) (w i) t ∙ ⊎_elim
        (λ (same : x ≡ i). or_right _ _ (ap (λ y. bit (w y) t) (sym same) ∙ e))
        (λ (other : x ≡ i → ⊥). or_left _ _ (below_at i x (⊎_elim (λ lt. lt) (λ ge. absurd (other (omega arith))) (cases_lt x i)) e))
        (cases_eq x i)

    from_at : (m i x : ℕ) → i ≤ x → x < i + m → bit (w x) t ≡ true → bit (join_from w i m) t ≡ true
    from_at zero i x lo hi e = absurd (omega arith)
    from_at (suc m) i x lo hi e = bit-or (join_from w (suc i) m) (w i) t ∙ ⊎_elim
        (λ (same : x ≡ i). or_right _ _ (ap (λ y. bit (w y) t) (sym same) ∙ e))
        (λ (other : x ≡ i → ⊥). or_left _ _ (from_at m (suc i) x (⊎_elim (λ lt. lt) (λ ge. absurd (other (omega arith))) (cases_lt i x)) (omega arith) e))
        (cases_eq x i)

    pub between : (m a b : ℕ) → bit_and (join_below w (suc a)) (join_from w a (m - a)) ≡ w a → a ≤ b → b < m
        → bit (bit_and (join_below w (suc b)) (join_from w a (m - a))) t ≡ some (suc b) (λ i. leb a i && bit (w i) t)
    between m a b gapless order within =
        let up = join_below w (suc b) in
        let down = join_from w a (m - a) in
        let inner : ℕ → Bool = λ i. leb a i && bit (w i) t in
        same_tests (bit (bit_and up down) t) (some (suc b) inner)
        (λ e.
        let parts = and_parts _ _ (sym (bit-and up down t) ∙ e) in
        let x = below_found (suc b) parts.0 in
        ⊎_elim
        (λ (before : x.0 < a).
        let here : bit (w a) t ≡ true =
        ap (λ v. bit v t) (sym gapless) ∙ bit-and _ _ t ∙ and_from _ _ (below_at (suc a) x.0 (omega arith) x.2) parts.1 in
        some_at (suc b) inner a (omega arith) (and_from _ _ (le-leb a a (omega arith)) here))
        (λ (after : a ≤ x.0). some_at (suc b) inner x.0 x.1 (and_from _ _ (le-leb _ _ after) x.2))
        (cases_lt x.0 a))
        (λ e.
        let f = some_found (suc b) inner e in
        let parts = and_parts _ _ f.2 in
        let lo = leb-true _ _ parts.0 in
        bit-and up down t ∙ and_from _ _ (below_at (suc b) f.0 f.1 parts.1) (from_at (m - a) a f.0 lo (omega (arith, f.1)) parts.1))
