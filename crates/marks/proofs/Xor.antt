-- The binary digits of a number after some are turned. Assumes nothing.
use Rattle.std.proofs.Common.{◌≡◌, ℕ, zero, suc, ◌+◌, ◌-◌, ◌/◌, ◌%◌, ◌^◌, ◌<◌, ◌≤◌, Bool, true, false, cond, not, ◌&&◌, ◌||◌, eqb, sym, refl, ap, ◌∙◌, ⊎_elim, mod-eq_of_lt, pow-suc, arith}
use native.Mathlib.Nat.{div-eq_of_lt, mul-mod_left}
use lib.Bits.{bit_and, bit_xor, differ, xor_step, xor_shr, xor_add_and}
use Rattle.std.proofs.lemmas.Nat.{and_mask, pow_pos, pow_below, pow-add, shl-shr}
use Rattle.std.proofs.lemmas.Bool.{and_from, and_parts, both_ways, cases_lt, cases_order, eq-eqb, ne_eqb}
use Rattle.std.proofs.lemmas.Bool.Decides.{nat_tests}
use Rattle.grid.specs.Sets.{bit}
use Rattle.grid.proofs.Digits.{bit-and, bit_beyond}

-- whether exactly one of the two holds
abbrev pub either : Bool → Bool → Bool
either a b = cond b (not a) a

xor_two : (x y : ℕ) → x < 2 → y < 2 → eqb (differ x y) 1 ≡ either (eqb x 1) (eqb y 1)
xor_two zero zero p q = refl
xor_two zero (suc zero) p q = refl
xor_two zero (suc (suc y)) p q = absurd (omega arith)
xor_two (suc zero) zero p q = refl
xor_two (suc zero) (suc zero) p q = refl
xor_two (suc zero) (suc (suc y)) p q = absurd (omega arith)
xor_two (suc (suc x)) y p q = absurd (omega arith)

differ_two : (x y : ℕ) → x < 2 → y < 2 → differ x y < 2
differ_two zero y p q = q
differ_two (suc x) zero p q = p
differ_two (suc zero) (suc zero) p q = omega arith
differ_two (suc zero) (suc (suc y)) p q = absurd (omega arith)
differ_two (suc (suc x)) (suc y) p q = absurd (omega arith)

xor_low : (a b : ℕ) → bit_xor a b % 2 ≡ differ (a % 2) (b % 2)
xor_low a b = omega (arith, xor_step a b, differ_two (a % 2) (b % 2) (omega arith) (omega arith))

pub bit-xor : (a b k : ℕ) → bit (bit_xor a b) k ≡ either (bit a k) (bit b k)
unfolding bit
bit-xor a b k =
    ap (λ q. eqb (q % 2) 1) (xor_shr a b k) ∙ ap (λ q. eqb q 1) (xor_low (a / 2 ^ k) (b / 2 ^ k))
    ∙ xor_two (a / 2 ^ k % 2) (b / 2 ^ k % 2) (omega arith) (omega arith)

power : (j d k : ℕ) → j ≡ d + k → 2 ^ j / 2 ^ k ≡ 2 ^ d
power j d k e = ap (λ x. 2 ^ x / 2 ^ k) e ∙ ap (λ q. q / 2 ^ k) (pow-add 2 d k) ∙ shl-shr (2 ^ d) k

-- a power of two has one digit
pub bit_one : (j k : ℕ) → bit (2 ^ j) k ≡ eqb k j
unfolding bit
bit_one j k = ⊎_elim
    (λ (e : k ≡ j). ap (λ q. eqb (q % 2) 1) (power j 0 k (omega arith)) ∙ sym (eq-eqb k j e))
    (⊎_elim
    (λ (lt : k < j).
    let d : ℕ = j - k - 1 in
    let low : 2 ^ j / 2 ^ k % 2 ≡ 0 = ap (λ q. q % 2) (power j (suc d) k (omega arith) ∙ pow-suc 2 d) ∙ mul-mod_left (2 ^ d) 2 in
    ap (λ q. eqb q 1) low ∙ sym (ne_eqb k j (λ e. omega arith)))
    (λ (gt : j < k). ap (λ q. eqb (q % 2) 1) (div-eq_of_lt (pow_below j k gt)) ∙ sym (ne_eqb k j (λ e. omega arith))))
    (cases_order k j)

-- a number with digit k is at least 2 to the k
pub bit_above : (m k : ℕ) → bit m k ≡ true → 2 ^ k ≤ m
bit_above m k on = ⊎_elim
    (λ (lt : m < 2 ^ k). absurd (both_ways (bit m k) (bit_beyond m k k lt (omega arith)) on))
    (λ (le : 2 ^ k ≤ m). le)
    (cases_lt m (2 ^ k))

either_off : (a : Bool) (j k : ℕ) → (j ≡ k → a ≡ true) → either a (eqb j k) ≡ (a && not (eqb j k))
either_off a j k on = grind (arith, nat_tests)

-- the digit k, which is 1, turned to 0
pub bit_off : (m k : ℕ) → bit m k ≡ true → (j : ℕ) → bit (bit_xor m (2 ^ k)) j ≡ (bit m j && not (eqb j k))
bit_off m k on j =
    bit-xor m (2 ^ k) j ∙ ap (λ b. either (bit m j) b) (bit_one k j) ∙ either_off (bit m j) j k (λ e. ap (bit m) e ∙ on)

pub off_falls : (m k : ℕ) → bit m k ≡ true → bit_xor m (2 ^ k) < m
off_falls m k on =
    let own : bit (2 ^ k) k ≡ true = bit_one k k ∙ eq-eqb k k refl in
    let both = bit_above (bit_and m (2 ^ k)) k (bit-and m (2 ^ k) k ∙ and_from (bit m k) (bit (2 ^ k) k) on own) in
    omega (arith, xor_add_and m (2 ^ k), pow_pos k)

-- what a mark of 0, and another, make of a digit
pub unmarked : (a b : Bool) (mark : ℕ) → mark ≡ 0 → either a (a && b) ≡ cond b (not (eqb mark 0)) a
unmarked true true mark e = ap not (sym (eq-eqb mark 0 e))
unmarked true false mark e = refl
unmarked false true mark e = ap not (sym (eq-eqb mark 0 e))
unmarked false false mark e = refl

pub marked : (a b : Bool) (mark : ℕ) → (mark ≡ 0 → ⊥) → (a || b) ≡ cond b (not (eqb mark 0)) a
marked true true mark ne = ap not (sym (ne_eqb mark 0 ne))
marked true false mark ne = refl
marked false true mark ne = ap not (sym (ne_eqb mark 0 ne))
marked false false mark ne = refl

-- a word of ones has each of its digits
pub bit_ones : (k j : ℕ) → j < k → bit (2 ^ k - 1) j ≡ true
bit_ones k j below =
    let own : bit (2 ^ j) j ≡ true = bit_one j j ∙ eq-eqb j j refl in
    let same : bit_and (2 ^ j) (2 ^ k - 1) ≡ 2 ^ j = and_mask (2 ^ j) k ∙ mod-eq_of_lt (pow_below j k below) in
    (and_parts (bit (2 ^ j) j) (bit (2 ^ k - 1) j) (sym (bit-and (2 ^ j) (2 ^ k - 1) j) ∙ ap (λ x. bit x j) same ∙ own)).1
