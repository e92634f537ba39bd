-- The binary digits of a number. Assumes nothing.
use Rattle.std.proofs.Common.{◌≡◌, ℕ, zero, suc, ◌+◌, ◌-◌, ◌/◌, ◌%◌, ◌^◌, ◌<◌, ◌≤◌, min, max, Bool, true, false, cond, not, ◌&&◌, ◌||◌, eqb, ltb, sym, ap, ◌∙◌, subst, ⊎_elim, pow-suc, arith}
use native.Mathlib.Nat.{div-eq_of_lt, mul-mod_left}
use lib.Bits.{bit_or, bit_and, or_step, and_step, or_shr, and_shr}
use Rattle.std.proofs.lemmas.Nat.{and_le_l, and_mask, pow_pos, pow_below, pow-add, div_below, le-div, shl-shr}
use Rattle.std.proofs.lemmas.Bool.{cases_Bool, cases_lt, cases_order, eq-eqb, ne_eqb, cond-true, cond-false, and_left, both_ways, le-ltb, not_from_false}
use Rattle.std.proofs.lemmas.Bool.Decides.{nat_tests}
use Rattle.grid.specs.Sets.{bit}
use Rattle.grid.specs.Some.{some}
use Rattle.grid.specs.Tables.{word}
use Rattle.grid.proofs.Somes.{same_tests, some_at, some_found}

-- a number below 2 to the k has no digit at k or beyond
pub bit_beyond : (m k j : ℕ) → m < 2 ^ k → k ≤ j → bit m j ≡ false
unfolding bit
bit_beyond m k j h le = ap (λ q. eqb (q % 2) 1) (div-eq_of_lt (⊎_elim (λ (e : k ≡ j). subst (λ x. m < 2 ^ x) e h) (⊎_elim (λ (lt : k < j). let p = pow_below k j lt in omega arith) (λ (gt : j < k). absurd (omega arith))) (cases_order k j)))

pub bit_zero : (k : ℕ) → bit 0 k ≡ false
unfolding bit
bit_zero k = ap (λ q. eqb (q % 2) 1) (div-eq_of_lt (pow_pos k))

-- the lowest digit after a shift
pub bit_shift : (m k : ℕ) → eqb (bit_and (m / 2 ^ k) 1) 1 ≡ bit m k
unfolding bit
bit_shift m k = ap (λ q. eqb q 1) (and_mask (m / 2 ^ k) 1)

or_two : (x y : ℕ) → x < 2 → y < 2 → eqb (max x y) 1 ≡ (eqb x 1 || eqb y 1)
or_two x y p q = grind (arith, nat_tests)

and_two : (x y : ℕ) → x < 2 → y < 2 → eqb (min x y) 1 ≡ (eqb x 1 && eqb y 1)
and_two x y p q = grind (arith, nat_tests)

or_low : (a b : ℕ) → bit_or a b % 2 ≡ max (a % 2) (b % 2)
or_low a b = omega (arith, or_step a b)

and_low : (a b : ℕ) → bit_and a b % 2 ≡ min (a % 2) (b % 2)
and_low a b = omega (arith, and_step a b)

pub bit-or : (a b k : ℕ) → bit (bit_or a b) k ≡ (bit a k || bit b k)
unfolding bit
bit-or a b k =
    ap (λ q. eqb (q % 2) 1) (or_shr a b k) ∙ ap (λ q. eqb q 1) (or_low (a / 2 ^ k) (b / 2 ^ k))
    ∙ or_two (a / 2 ^ k % 2) (b / 2 ^ k % 2) (omega arith) (omega arith)

pub bit-and : (a b k : ℕ) → bit (bit_and a b) k ≡ (bit a k && bit b k)
unfolding bit
bit-and a b k =
    ap (λ q. eqb (q % 2) 1) (and_shr a b k) ∙ ap (λ q. eqb q 1) (and_low (a / 2 ^ k) (b / 2 ^ k))
    ∙ and_two (a / 2 ^ k % 2) (b / 2 ^ k % 2) (omega arith) (omega arith)

-- a number above 0 has a digit 1
pub bit_some : (k m : ℕ) → m < 2 ^ k → 0 < m → (j : ℕ) × (j < k) × (bit m j ≡ true)
unfolding bit
bit_some zero m h p = absurd (omega arith)
bit_some (suc k) m h p = ⊎_elim
    (λ (low : m < 2 ^ k). let w = bit_some k m low p in (w.0, omega (arith, w.1), w.2))
    (λ (high : 2 ^ k ≤ m).
    let twice = pow-suc 2 k in
    let top : m / 2 ^ k < 2 = div_below m (2 ^ k) 2 (pow_pos k) (omega arith) in
    let one : 1 ≤ m / 2 ^ k = le-div 1 m (2 ^ k) (pow_pos k) (omega arith) in
    let odd : m / 2 ^ k % 2 ≡ 1 = omega arith in
    (k, omega arith, ap (λ q. eqb q 1) odd))
    (cases_lt m (2 ^ k))

power : (j d k : ℕ) → j ≡ d + k → 2 ^ j / 2 ^ k ≡ 2 ^ d
power j d k e = ap (λ x. 2 ^ x / 2 ^ k) e ∙ ap (λ q. q / 2 ^ k) (pow-add 2 d k) ∙ shl-shr (2 ^ d) k

-- a power of two has one digit
bit_one : (j k : ℕ) → bit (2 ^ j) k ≡ eqb k j
unfolding bit
bit_one j k = ⊎_elim
    (λ (e : k ≡ j). ap (λ q. eqb (q % 2) 1) (power j 0 k (omega arith)) ∙ sym (eq-eqb k j e))
    (⊎_elim
    (λ (lt : k < j).
    let d : ℕ = j - k - 1 in
    let low : 2 ^ j / 2 ^ k % 2 ≡ 0 = ap (λ q. q % 2) (power j (suc d) k (omega arith) ∙ pow-suc 2 d) ∙ mul-mod_left (2 ^ d) 2 in
    ap (λ q. eqb q 1) low ∙ sym (ne_eqb k j (λ e. omega arith)))
    (λ (gt : j < k). ap (λ q. eqb (q % 2) 1) (div-eq_of_lt (pow_below j k gt)) ∙ sym (ne_eqb k j (λ e. omega arith))))
    (cases_order k j)

added : (f : ℕ → Bool) (i k : ℕ) → f i ≡ true → (eqb k i || (ltb k i && f k)) ≡ (ltb k (suc i) && f k)
added f i k e = ⊎_elim
    (λ (same : k ≡ i). let fk : f k ≡ true = ap f same ∙ e in grind (arith, nat_tests))
    (⊎_elim (λ lt. grind (arith, nat_tests)) (λ gt. grind (arith, nat_tests)))
    (cases_order k i)

passed : (f : ℕ → Bool) (i k : ℕ) → f i ≡ false → (ltb k i && f k) ≡ (ltb k (suc i) && f k)
passed f i k e = ⊎_elim
    (λ (same : k ≡ i). let fk : f k ≡ false = ap f same ∙ e in grind (arith, nat_tests))
    (⊎_elim (λ lt. grind (arith, nat_tests)) (λ gt. grind (arith, nat_tests)))
    (cases_order k i)

-- the digits of a word are those that pass its test
pub bit_word : (k : ℕ) (f : ℕ → Bool) (j : ℕ) → bit (word k f) j ≡ (ltb j k && f j)
bit_word zero f j = bit_zero j ∙ sym (and_left _ _ (le-ltb j 0 (omega arith)))
bit_word (suc k) f j =
    bit-or (cond (f k) (2 ^ k) 0) (word k f) j ∙ ap (λ x. bit (cond (f k) (2 ^ k) 0) j || x) (bit_word k f j)
    ∙ ⊎_elim
    (λ (e : f k ≡ true). ap (λ x. bit x j || (ltb j k && f j)) (cond-true (f k) (2 ^ k) 0 e) ∙ ap (λ x. x || (ltb j k && f j)) (bit_one k j) ∙ added f k j e)
    (λ (e : f k ≡ false). ap (λ x. bit x j || (ltb j k && f j)) (cond-false (f k) (2 ^ k) 0 e) ∙ ap (λ x. x || (ltb j k && f j)) (bit_zero j) ∙ passed f k j e)
    (cases_Bool (f k))

-- two numbers have a digit in common exactly where their conjunction is not 0
meet_found : (a b : ℕ) → bit_and a b < 2 ^ 64 → 0 < bit_and a b → some 64 (λ k. bit a k && bit b k) ≡ true
meet_found a b small above =
    let w = bit_some 64 (bit_and a b) small above in
    some_at 64 (λ k. bit a k && bit b k) w.0 w.1 (sym (bit-and a b w.0) ∙ w.2)

meet_above : (a b k : ℕ) → (bit a k && bit b k) ≡ true → bit_and a b ≡ 0 → ⊥
meet_above a b k on none = both_ways (bit (bit_and a b) k) (ap (λ x. bit x k) none ∙ bit_zero k) (bit-and a b k ∙ on)

pub meets : (a b : ℕ) → a < 2 ^ 64 → not (eqb (bit_and a b) 0) ≡ some 64 (λ k. bit a k && bit b k)
meets a b fits = same_tests (not (eqb (bit_and a b) 0)) (some 64 (λ k. bit a k && bit b k))
    (λ e. meet_found a b (omega (arith, and_le_l a b)) (grind (arith, nat_tests)))
    (λ e.
    let w = some_found 64 (λ k. bit a k && bit b k) e in
    not_from_false _ (ne_eqb (bit_and a b) 0 (meet_above a b w.0 w.2)))

-- a word of 64 bits has none beyond
pub no_bit : (w k : ℕ) → w < 2 ^ 64 → 64 ≤ k → ltb k 64 ≡ bit w k
no_bit w k fits beyond = le-ltb _ _ beyond ∙ sym (bit_beyond w 64 k fits beyond)
