-- A text as its keyword, and a comma and a number for each field. Assumes nothing.
use Rattle.std.proofs.Common.{◌≡◌, ℕ, ◌+◌, ◌<◌, ◌≤◌, true, false, ⊎_elim, List, [], ◌∷◌, ◌++◌, length, get_or, drop, map, decimal, sym, ap, ◌∙◌, arith}
use Rattle.fields.specs.Texts.{join}
use Rattle.std.proofs.lemmas.Bool.{cases_lt, true≢false}
use Rattle.std.proofs.lemmas.List.{append-nil, append_assoc, drop_more, length-append}

-- what does not fit is longer than the room
pub too_long : (n : ℕ) → (n ≤ 64 → false ≡ true) → 64 < n
too_long n h = ⊎_elim (λ l. l) (λ m. absurd (true≢false (sym (h (omega arith))))) (cases_lt 64 n)

-- each number behind a comma
abbrev pub commaed : List ℕ → List ℕ
commaed [] = []
commaed (n ∷ ns) = (44 ∷ decimal n) ++ commaed ns

pub spelled : (w ns : List ℕ) → w ++ commaed ns ≡ join (w ∷ map decimal ns)
spelled w [] = append-nil w
spelled w (n ∷ ns) = ap (λ l. w ++ (44 ∷ l)) (spelled (decimal n) ns)

-- `text` has been written of the line, and the numbers from the i-th on are left
module _ (line text ns : List ℕ) (i : ℕ) (so : text ++ commaed (drop i ns) ≡ line) (inside : i < length ns) where
  next_left : text ++ ((44 ∷ decimal (get_or ns i 0)) ++ commaed (drop (i + 1) ns)) ≡ line
  next_left = ap (λ l. text ++ commaed l) (sym (drop_more ns i 0 inside)) ∙ so

  -- a comma and the number more
  pub written_more : (text ++ (44 ∷ [])) ++ decimal (get_or ns i 0) ++ commaed (drop (i + 1) ns) ≡ line
  written_more = append_assoc (text ++ (44 ∷ [])) (decimal (get_or ns i 0)) (commaed (drop (i + 1) ns)) ∙ append_assoc text (44 ∷ []) (decimal (get_or ns i 0) ++ commaed (drop (i + 1) ns)) ∙ next_left

  -- with what comes next the text is at most the line
  pub comma_within : length text + 1 ≤ length line
  comma_within = omega (arith, ap length written_more, length-append ((text ++ (44 ∷ [])) ++ decimal (get_or ns i 0)) (commaed (drop (i + 1) ns)), length-append (text ++ (44 ∷ [])) (decimal (get_or ns i 0)), length-append text (44 ∷ []))

  pub number_within : length (text ++ (44 ∷ [])) + length (decimal (get_or ns i 0)) ≤ length line
  number_within = omega (arith, ap length written_more, length-append ((text ++ (44 ∷ [])) ++ decimal (get_or ns i 0)) (commaed (drop (i + 1) ns)), length-append (text ++ (44 ∷ [])) (decimal (get_or ns i 0)))
