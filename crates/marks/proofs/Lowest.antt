-- The lowest digit of a number that is 1. Assumes nothing.
use Rattle.std.proofs.Common.{◌≡◌, ℕ, zero, suc, ◌-◌, ◌/◌, ◌%◌, ◌^◌, ◌<◌, Bool, true, false, not, ◌&&◌, eqb, sym, refl, ap, ap₂, ◌∙◌, pow-suc, one-add, arith}
use lib.Bits.{bit_and}
use lib.Count.{count_trailing_zeros, under}
use Rattle.std.proofs.lemmas.Nat.{div_below, shr-shr}
use Rattle.std.proofs.lemmas.Bool.{ne_eqb}
use Rattle.std.proofs.lemmas.Bool.Decides.{nat_tests}
use Rattle.grid.specs.Sets.{bit}
use Rattle.grid.proofs.Digits.{bit-and}

-- digit k of half a number is digit k + 1 of the number
bit_half : (n k : ℕ) → bit (n / 2) k ≡ bit n (suc k)
unfolding bit
bit_half n k = ap (λ q. eqb (q % 2) 1) (shr-shr n 1 k ∙ ap (λ x. n / 2 ^ x) (one-add k))

bit_odd : (n : ℕ) → n % 2 ≡ 1 → bit n 0 ≡ true
unfolding bit
bit_odd n odd = let low : n / 2 ^ 0 % 2 ≡ 1 = omega arith in ap (λ q. eqb q 1) low

-- the zeros below the lowest digit 1 of a number are fewer than its digits, and the digit above them is 1
abbrev pub Lowest : ℕ → ℕ → ℕ → Type 0
Lowest k n t = (t < k) × (bit n t ≡ true)

step : (k n d : ℕ) → n % 2 ≡ d → (d ≡ 0 → Lowest k (n / 2) (count_trailing_zeros k (n / 2))) → Lowest (suc k) n (under d (count_trailing_zeros k (n / 2)))
step k n zero e rest =
    let low = rest refl in
    (omega (arith, low.0), sym (bit_half n (count_trailing_zeros k (n / 2))) ∙ low.1)
step k n (suc d) e rest = (omega arith, bit_odd n (omega arith))

pub lowest_on : (k n : ℕ) → n < 2 ^ k → 0 < n → Lowest k n (count_trailing_zeros k n)
unfolding count_trailing_zeros
lowest_on zero n h p = absurd (omega arith)
lowest_on (suc k) n h p =
    let twice = pow-suc 2 k in
    step k n (n % 2) refl (λ even. lowest_on k (n / 2) (div_below n 2 (2 ^ k) (omega arith) (omega arith)) (omega arith))

bit_even : (n : ℕ) → n % 2 ≡ 0 → bit n 0 ≡ false
unfolding bit
bit_even n even = let low : n / 2 ^ 0 % 2 ≡ 0 = omega arith in ap (λ q. eqb q 1) low

and_same : (b q : Bool) → q ≡ false → (b && b) ≡ (b && not q)
and_same true q e = ap not (sym e)
and_same false q e = refl

eqb_more : (i t : ℕ) → eqb i t ≡ eqb (suc i) (suc t)
eqb_more i t = grind (arith, nat_tests)

-- the digits that a number has in common with the one before it are all but its lowest 1
abbrev Common : ℕ → ℕ → ℕ → Type 0
Common n t j = (bit n j && bit (n - 1) j) ≡ (bit n j && not (eqb j t))

common_step : (n d t : ℕ) → n % 2 ≡ d → 0 < n → (d ≡ 0 → (i : ℕ) → Common (n / 2) t i) → (j : ℕ) → Common n (under d t) j
common_step n zero t e p rest zero = let even = bit_even n e in ap (λ b. b && bit (n - 1) 0) even ∙ sym (ap (λ b. b && not (eqb 0 (suc t))) even)
common_step n zero t e p rest (suc i) =
    let half : (n - 1) / 2 ≡ n / 2 - 1 = omega arith in
    ap₂ ◌&&◌ (sym (bit_half n i)) (sym (bit_half (n - 1) i) ∙ ap (λ x. bit x i) half) ∙ rest refl i ∙ ap₂ (λ b q. b && not q) (bit_half n i) (eqb_more i t)
common_step n (suc d) t e p rest zero = let even : (n - 1) % 2 ≡ 0 = omega arith in ap (λ b. bit n 0 && b) (bit_even (n - 1) even)
common_step n (suc d) t e p rest (suc i) =
    let half : (n - 1) / 2 ≡ n / 2 = omega arith in
    ap (λ b. bit n (suc i) && b) (sym (bit_half (n - 1) i) ∙ ap (λ x. bit x i) half ∙ bit_half n i) ∙ and_same (bit n (suc i)) (eqb (suc i) 0) (ne_eqb (suc i) 0 (λ e. omega arith))

common : (k n : ℕ) → n < 2 ^ k → 0 < n → (j : ℕ) → Common n (count_trailing_zeros k n) j
unfolding count_trailing_zeros
common zero n h p j = absurd (omega arith)
common (suc k) n h p j =
    let twice = pow-suc 2 k in
    common_step n (n % 2) (count_trailing_zeros k (n / 2)) refl p (λ even. common k (n / 2) (div_below n 2 (2 ^ k) (omega arith) (omega arith)) (omega arith)) j

-- a number without its lowest 1
pub without_lowest : (k n : ℕ) → n < 2 ^ k → 0 < n → (j : ℕ) → bit (bit_and n (n - 1)) j ≡ (bit n j && not (eqb j (count_trailing_zeros k n)))
without_lowest k n h p j = bit-and n (n - 1) j ∙ common k n h p j
