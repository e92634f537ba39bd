-- What reading answers, from what its parts found. Assumes nothing.
use Rattle.std.proofs.Common.{◌≡◌, ℕ, ◌+◌, ◌<◌, false, List, [], ◌∷◌, map, length, get_or, take, drop, decimal, sym, refl, ap, ◌∙◌, subst, arith}
use Rattle.refusal.specs.declared.kinds.LineFault.TheVariants as what
use Rattle.fields.specs.Texts.{begins, first_length, join, split}
use Rattle.fields.proofs.Cuts.{first_is, join_split}
use Rattle.message.specs.Fields.{AllTake, fields_of}
use Rattle.message.specs.Rows.{kind_of, numbers_of_row}
use Rattle.message.specs.declared.kinds.Kind.{Kind}
use Rattle.message.specs.declared.kinds.Kind.TheVariants.{Reject}
use Rattle.message.specs.declared.row.MessageRow.{MessageRow}
use Rattle.lines.specs.Heads.{Opened}
use Rattle.lines.specs.Lines.{keyword, line_of, text_of}
use Rattle.lines.specs.Good.{pair_ok}
use Rattle.lines.specs.Parts.{BadField, field_fault}
use Rattle.lines.specs.Places.{fault_at, in_line}
use Rattle.lines.specs.Readings.{Faults, Sized, word, count, field, pair}
use Rattle.lines.specs.declared.faults.FieldFault.{FieldFault}
use Rattle.lines.proofs.Steps.{arity}

-- the first field of the text ends before byte `end`
module _ (bs : List ℕ) (end : ℕ) (cut : end ≡ first_length bs) (sized : Sized bs) where
  front : take end bs ≡ get_or (split bs) 0 []
  front = ap (λ n. take n bs) cut ∙ sym (first_is bs)

  pub no_word : ((k : Kind) → take end bs ≡ keyword k → ⊥) → Faults bs (fault_at what.Keyword 1 0)
  no_word h = word sized (λ k e. h k (front ∙ e)) refl

  module _ (k : Kind) (is : take end bs ≡ keyword k) (n m : ℕ) (found : n ≡ length (split bs)) (wanted : m ≡ length (fields_of k)) where
    pub wrong_count : (n ≡ m + 1 → ⊥) → Faults bs (fault_at what.Count n (length bs))
    wrong_count h = count sized k (sym front ∙ is) (λ s. h (omega arith)) (ap (λ x. fault_at what.Count x (length bs)) found)

    pub opens : n ≡ m + 1 → Opened bs k
    opens e = record { sized = sized; keyword = sym front ∙ is; counted = omega arith }

first_and_rest : (ts : List (List ℕ)) → 0 < length ts → ts ≡ get_or ts 0 [] ∷ drop 1 ts
first_and_rest [] h = absurd (omega arith)
first_and_rest (t ∷ ts) h = refl

five : (ns : List ℕ) → length ns ≡ 5 → ns ≡ get_or ns 0 0 ∷ get_or ns 1 0 ∷ get_or ns 2 0 ∷ get_or ns 3 0 ∷ get_or ns 4 0 ∷ []
five [] h = absurd (omega arith)
five (a ∷ []) h = absurd (omega arith)
five (a ∷ b ∷ []) h = absurd (omega arith)
five (a ∷ b ∷ c ∷ []) h = absurd (omega arith)
five (a ∷ b ∷ c ∷ d ∷ []) h = absurd (omega arith)
five (a ∷ b ∷ c ∷ d ∷ e ∷ []) h = refl
five (a ∷ b ∷ c ∷ d ∷ e ∷ f ∷ more) h = absurd (omega arith)

module _ (bs : List ℕ) (k : Kind) (o : Opened bs k) where
  pub bad_field : (f : FieldFault) → BadField (fields_of k) bs f → Faults bs (in_line f)
  bad_field f b =
      let here : b.place + 1 + 1 ≡ b.place + 2 = omega arith in
      field o.sized k o.keyword o.counted b.place b.bad (ap in_line b.told ∙ ap (λ j. fault_at what.Field j (begins (split bs) (b.place + 1))) here)

  -- the fields behind the keyword write numbers, each in its range
  module _ (ns : List ℕ) (texts : drop 1 (split bs) ≡ map decimal ns) (a : AllTake (fields_of k) ns) where
    pub spelt : bs ≡ text_of k ns
    spelt =
        let some : 0 < length (split bs) = omega (arith, o.counted) in
        sym (join_split bs) ∙ ap join (first_and_rest (split bs) some) ∙ ap (λ t. join (t ∷ drop 1 (split bs))) o.keyword ∙ ap (λ ts. join (keyword k ∷ ts)) texts

    pub is_line : (row : MessageRow) → kind_of row ≡ k → numbers_of_row row ≡ ns → bs ≡ line_of row
    is_line row e d = spelt ∙ ap (λ j. text_of j ns) (sym e) ∙ ap (text_of (kind_of row)) (sym d)

    pub wrong_pair : k ≡ Reject → pair_ok (get_or ns 2 0) (get_or ns 3 0) (get_or ns 4 0) ≡ false → Faults bs (in_line (field_fault bs 4))
    wrong_pair e h =
        let long : length ns ≡ 5 = arity (fields_of k) ns a ∙ ap (λ j. length (fields_of j)) e in
        pair o.sized (get_or ns 0 0) (get_or ns 1 0) (get_or ns 2 0) (get_or ns 3 0) (get_or ns 4 0)
        (spelt ∙ ap (λ j. text_of j ns) e ∙ ap (text_of Reject) (five ns long))
        (subst (AllTake (fields_of Reject)) (five ns long) (subst (λ j. AllTake (fields_of j) ns) e a))
        h refl
