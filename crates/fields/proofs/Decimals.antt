-- A number in base ten, and what a field that is none lacks. Assumes nothing.
use Rattle.std.proofs.Common.{◌≡◌, ℕ, ◌^◌, ◌<◌, ◌≤◌, List, length, get_or, take, decimal, sym, ap, ◌∙◌, subst, ⊎_elim, arith}
use Rattle.std.specs.Str.Parse.{digits_value, AllDigits}
use Rattle.std.specs.Int.{IsInRange}
use Rattle.std.proofs.lemmas.Fmt.{decimal_is_IsNumeral, decimal_nonempty, length-decimal-le, first_decimal, decimal-digits_value, decimal_digit}
use Rattle.std.proofs.lemmas.List.{length-take, take_all}
use Rattle.std.proofs.lemmas.Str.Parse.{IsNumeralModel, numerals_by_value, tells_digits, digit_at, digits_value_short}
use Rattle.std.proofs.lemmas.Bool.{cases_lt}

own : IsNumeralModel (AllDigits 10) (digits_value 10)
own = numerals_by_value (AllDigits 10) tells_digits

-- a field that writes a number of 32 bits
module _ (f : List ℕ) (n : ℕ) (small : n < 2 ^ 32) (is : f ≡ decimal n) where
  pub field_some : 0 < length f
  field_some = omega (arith, decimal_nonempty n (omega arith), ap length is)

  pub field_short : length f ≤ 10
  field_short = omega (arith, length-decimal-le 10 n (omega arith) (omega arith) (omega arith), ap length is)

  pub field_value : digits_value 10 f ≡ n
  field_value = ap (digits_value 10) is ∙ (decimal_is_IsNumeral n (omega arith)).1

  pub field_digit : (i : ℕ) → i < length f → IsInRange 48 57 (get_or f i 0)
  field_digit i h = digit_at f i (subst (AllDigits 10) (sym is) (decimal_is_IsNumeral n (omega arith)).0.1) h

  pub field_head : get_or f 0 0 ≡ 48 → length f ≤ 1
  field_head e =
      ⊎_elim
      (λ pos. absurd (omega (arith, first_decimal n pos (omega arith), ap (λ l. get_or l 0 0) is)))
      (λ none. omega (arith, ap length is, ap length (decimal_digit n (omega arith))))
      (cases_lt 0 n)

-- a loop has read the first i bytes of the field, and they write n
module _ (f : List ℕ) (i n : ℕ) (short : length f ≤ 10) (is : n ≡ digits_value 10 (take i f)) (ds : AllDigits 10 (take i f)) where
  pub front_small : n < 10 ^ 10
  front_small =
      let front : length (take i f) ≤ 10 = simp length-take (omega arith) in
      omega (arith, digits_value_short own (take i f) 10 ds front)

  module _ (over : length f ≤ i) where
    pub all_value : n ≡ digits_value 10 f
    all_value = is ∙ ap (digits_value 10) (take_all i f over)

    -- the first byte is no leading zero
    pub all_decimal : 0 < length f → (get_or f 0 0 ≡ 48 → length f ≡ 1) → f ≡ decimal n
    all_decimal some head =
        let small = front_small in
        let v = all_value in
        sym (ap decimal v ∙ decimal-digits_value own f (subst (AllDigits 10) (take_all i f over) ds) some head (omega arith))
