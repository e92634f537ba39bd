-- Memory after a write: a counted part, and what is left of the old. Assumes nothing.
use Rattle.std.proofs.Common.{◌≡◌, ℕ, suc, ◌+◌, ◌-◌, ◌<◌, ◌≤◌, List, [], ◌∷◌, ◌++◌, length, take, drop, set, sym, ap, ◌∙◌, add-one, arith}
use Rattle.std.specs.List.{copy_within, remove}
use Rattle.std.proofs.lemmas.List.{append_assoc, take-take, drop-take, take-append-drop, length-take-le, length-set, length_push, set-append_left, set_split}

module _ {X : Type 0} where
  -- counted: the first n of xs
  pub kept_part : (xs : List X) (n : ℕ) → n ≤ length xs → xs ≡ take n xs ++ drop (length (take n xs)) xs
  kept_part xs n h = sym (take-append-drop n xs) ∙ ap (λ k. take n xs ++ drop k xs) (sym (length-take-le n xs h))

  pub put_part : (xs : List X) (n i : ℕ) (x : X) → i < n → n ≤ length xs → set xs i x ≡ set (take n xs) i x ++ drop (length (set (take n xs) i x)) xs
  put_part xs n i x lt h =
      let len = length-take-le n xs h in
      ap (λ ys. set ys i x) (sym (take-append-drop n xs)) ∙ set-append_left (take n xs) (drop n xs) i x (omega (arith, len, lt))
      ∙ ap (λ k. set (take n xs) i x ++ drop k xs) (sym (length-set (take n xs) i x ∙ len))

  pub push_part : (xs : List X) (n : ℕ) (x : X) → n < length xs → set xs n x ≡ (take n xs ++ x ∷ []) ++ drop (length (take n xs ++ x ∷ [])) xs
  push_part xs n x lt =
      let len : length (take n xs ++ x ∷ []) ≡ suc n = length_push (take n xs) x ∙ ap (λ k. k + 1) (length-take-le n xs (omega (arith, lt))) ∙ add-one n in
      set_split xs n x lt ∙ sym (append_assoc (take n xs) (x ∷ []) (drop (suc n) xs)) ∙ ap (λ k. (take n xs ++ x ∷ []) ++ drop k xs) (sym len)

  -- the later ones of the first n move up over the i-th
  pub gap_closed : (xs : List X) (n i : ℕ) → i < n → copy_within xs (i + 1) n i ≡ remove (take n xs) i ++ drop (n - 1) xs
  gap_closed xs n i lt =
      let m = n - (i + 1) in
      let all : suc i + m ≡ n = omega (arith, lt) in
      let back : i + m ≡ n - 1 = omega (arith, lt) in
      sym (ap (λ ys. (ys ++ drop (suc i) (take n xs)) ++ drop (n - 1) xs) (take-take i n xs (omega (arith, lt)))
      ∙ ap (λ k. (take i xs ++ drop (suc i) (take k xs)) ++ drop (n - 1) xs) (sym all)
      ∙ ap (λ ys. (take i xs ++ ys) ++ drop (n - 1) xs) (drop-take (suc i) m xs)
      ∙ ap (λ k. (take i xs ++ take m (drop k xs)) ++ drop (n - 1) xs) (sym (add-one i))
      ∙ ap (λ k. (take i xs ++ take m (drop (i + 1) xs)) ++ drop k xs) (sym back))
