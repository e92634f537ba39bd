-- A text reads as one thing only: the line of one message, or one fault. Assumes nothing.
use Rattle.std.proofs.Common.{◌≡◌, ℕ, ◌+◌, ◌*◌, ◌<◌, ◌≤◌, true, false, cond, eqb, List, [], ◌∷◌, map, length, get_or, drop, Ok, Err, decimal, Result, sym, refl, ap, ◌∙◌, subst, ⊎_elim, arith}
use Rattle.std.specs.List.{AllByRecursion}
use Rattle.std.specs.Str.Parse.{AllDigits}
use Rattle.std.proofs.lemmas.Fmt.{decimal_is_IsNumeral, length-decimal-le, decimal_injective}
use Rattle.std.proofs.lemmas.List.{length-append, length-map}
use Rattle.std.proofs.lemmas.Str.Parse.{digit_from_value}
use Rattle.std.proofs.lemmas.Bool.{and_parts, and_from, ne_eqb, not_from_false, leb-true, lt-ltb, true≢false, cases_lt}
use Rattle.refusal.specs.declared.kinds.Denial.TheVariants.{Because, Clash}
use Rattle.refusal.specs.declared.kinds.LineFault.TheVariants as what
use Rattle.refusal.specs.declared.kinds.WriteFault.{WriteFault}
use Rattle.refusal.specs.declared.kinds.WriteFault.TheVariants.{Room}
use Rattle.fields.specs.Texts.{begins, join, split}
use Rattle.fields.proofs.Cuts.{Whole, split_join}
use Rattle.message.specs.Fields.{AllTake, fields_of}
use Rattle.message.specs.Rows.{good_denial, good_row, is_number, fits_vehicle, kind_of, numbers_of_row}
use Rattle.message.specs.declared.kinds.Field.{Field}
use Rattle.message.specs.declared.kinds.Kind.{Kind}
use Rattle.message.specs.declared.kinds.Kind.TheVariants.{Request, Change, Cancel, Done, Confirm, Reject}
use Rattle.message.specs.declared.message.Message.{Message}
use Rattle.message.specs.declared.row.MessageRow.{MessageRow}
use Rattle.message.specs.declared.row.MessageRow.TheVariants as row
use Rattle.message.proofs.Rows.{good_takes, reason_told, rows_same, takes_small}
use Rattle.lines.specs.Lines.{keyword, line_of, text_of}
use Rattle.lines.specs.Good.{FirstBad, pair_ok}
use Rattle.lines.specs.Places.{fault_at}
use Rattle.lines.specs.Readings.{Begins, Counted, Faults, Only, Reads, Sized, size, word, count, field, pair}
use Rattle.lines.specs.Writings.{Counts}
use Rattle.lines.specs.declared.faults.LineError.{LineError}
use Rattle.lines.proofs.Steps.{arity, few_fields, good_at}

-- a keyword has no comma, and one to seven bytes
whole_keyword : (k : Kind) → Whole (keyword k)
whole_keyword Request = refl
whole_keyword Change = refl
whole_keyword Cancel = refl
whole_keyword Done = refl
whole_keyword Confirm = refl
whole_keyword Reject = refl

keyword_size : (k : Kind) → (0 < length (keyword k)) × (length (keyword k) ≤ 7)
keyword_size Request = (omega arith, omega arith)
keyword_size Change = (omega arith, omega arith)
keyword_size Cancel = (omega arith, omega arith)
keyword_size Done = (omega arith, omega arith)
keyword_size Confirm = (omega arith, omega arith)
keyword_size Reject = (omega arith, omega arith)

-- a keyword tells its kind: its length and its third byte do
abbrev tag : List ℕ → ℕ
tag w = 256 * length w + get_or w 2 0

abbrev kind_by : ℕ → Kind
kind_by t =
    cond (eqb t 1873) Request (cond (eqb t 1601) Change (cond (eqb t 1614) Cancel (cond (eqb t 1102) Done (cond (eqb t 1870) Confirm Reject))))

tagged : (k : Kind) → kind_by (tag (keyword k)) ≡ k
tagged Request = refl
tagged Change = refl
tagged Cancel = refl
tagged Done = refl
tagged Confirm = refl
tagged Reject = refl

keyword_same : (k j : Kind) → keyword k ≡ keyword j → k ≡ j
keyword_same k j e = sym (tagged k) ∙ ap (λ w. kind_by (tag w)) e ∙ tagged j

-- no digit is a comma
whole_digits : (ds : List ℕ) → AllDigits 10 ds → Whole ds
whole_digits [] d = refl
whole_digits (c ∷ ds) d =
    let i = digit_from_value c d.0 in
    and_from _ _ (not_from_false _ (ne_eqb c 44 (λ e. omega arith))) (whole_digits ds d.1)

-- numbers that their fields may have
whole_numbers : (fs : List Field) (ns : List ℕ) → AllTake fs ns → AllByRecursion Whole (map decimal ns)
whole_numbers [] [] a = tt
whole_numbers [] (n ∷ ns) a = absurd a
whole_numbers (f ∷ fs) [] a = absurd a
whole_numbers (f ∷ fs) (n ∷ ns) a =
    let small = takes_small f n a.0 in
    (whole_digits (decimal n) (decimal_is_IsNumeral n (omega arith)).0.1, whole_numbers fs ns a.1)

decimals_same : (fs gs : List Field) (ns ms : List ℕ) → AllTake fs ns → AllTake gs ms → map decimal ns ≡ map decimal ms → ns ≡ ms
decimals_same fs gs [] [] a b e = refl
decimals_same fs gs [] (m ∷ ms) a b e = absurd (omega (arith, ap length e))
decimals_same fs gs (n ∷ ns) [] a b e = absurd (omega (arith, ap length e))
decimals_same [] gs (n ∷ ns) (m ∷ ms) a b e = absurd a
decimals_same (f ∷ fs) [] (n ∷ ns) (m ∷ ms) a b e = absurd b
decimals_same (f ∷ fs) (g ∷ gs) (n ∷ ns) (m ∷ ms) a b e =
    let small = takes_small f n a.0 in
    let small' = takes_small g m b.0 in
    let one : decimal n ≡ decimal m = cc in
    let more : map decimal ns ≡ map decimal ms = cc in
    let here = decimal_injective n m (omega arith) (omega arith) one in
    let rest = decimals_same fs gs ns ms a.1 b.1 more in
    cc

-- each has at most seven digits, and a comma in front
join_size : (w : List ℕ) (fs : List Field) (ns : List ℕ) → AllTake fs ns → (length w ≤ length (join (w ∷ map decimal ns))) × (length (join (w ∷ map decimal ns)) ≤ length w + 8 * length ns)
join_size w [] [] a = (omega arith, omega arith)
join_size w [] (n ∷ ns) a = absurd a
join_size w (f ∷ fs) [] a = absurd a
join_size w (f ∷ fs) (n ∷ ns) a =
    let small = takes_small f n a.0 in
    let j = length-append w (44 ∷ join (decimal n ∷ map decimal ns)) in
    let d = length-decimal-le 7 n (omega arith) small (omega arith) in
    let r = join_size (decimal n) fs ns a.1 in
    (omega arith, omega arith)

-- a text of a keyword and numbers that its fields may have
module _ (k : Kind) (ns : List ℕ) (a : AllTake (fields_of k) ns) where
  pub split_text : split (text_of k ns) ≡ keyword k ∷ map decimal ns
  split_text = split_join (keyword k ∷ map decimal ns) (omega arith) (whole_keyword k, whole_numbers (fields_of k) ns a)

  pub text_sized : Sized (text_of k ns)
  text_sized =
      let s = join_size (keyword k) (fields_of k) ns a in
      let w = keyword_size k in
      let five = few_fields k in
      let n = arity (fields_of k) ns a in
      (omega arith, omega arith)

  text_begins : Begins k (text_of k ns)
  text_begins = ap (λ fs. get_or fs 0 []) split_text

  text_counted : Counted k (text_of k ns)
  text_counted = omega (arith, ap length split_text, length-map ns decimal, arity (fields_of k) ns a)

  pub texts_same : (j : Kind) (ms : List ℕ) → AllTake (fields_of j) ms → text_of k ns ≡ text_of j ms → (k ≡ j) × (ns ≡ ms)
  texts_same j ms b e =
      let s = sym split_text ∙ ap split e ∙ split_join (keyword j ∷ map decimal ms) (omega arith) (whole_keyword j, whole_numbers (fields_of j) ms b) in
      let w : keyword k ≡ keyword j = cc in
      let d : map decimal ns ≡ map decimal ms = cc in
      (keyword_same k j w, decimals_same (fields_of k) (fields_of j) ns ms a b d)

  -- it has no fault but a pair that breaks its rule
  pub text_fault : (bs : List ℕ) → bs ≡ text_of k ns → (e : LineError) → Faults bs e → (k ≡ Reject) × (pair_ok (get_or ns 2 0) (get_or ns 3 0) (get_or ns 4 0) ≡ false) × (e ≡ fault_at what.Field 5 (begins (split bs) 4))
  text_fault bs is e (size h _) = absurd (h (subst Sized (sym is) text_sized))
  text_fault bs is e (word s h _) = absurd (h k (subst (Begins k) (sym is) text_begins))
  text_fault bs is e (count s j key h _) =
      let same = keyword_same k j (sym (subst (Begins k) (sym is) text_begins) ∙ key) in
      absurd (h (subst (λ i. Counted i bs) same (subst (Counted k) (sym is) text_counted)))
  text_fault bs is e (field s j key n i b _) =
      let same = keyword_same k j (sym (subst (Begins k) (sym is) text_begins) ∙ key) in
      let bad = subst (λ x. FirstBad (fields_of x) (drop 1 (split bs)) i) (sym same) b in
      let bad' = subst (λ fs. FirstBad (fields_of k) fs i) (ap (λ x. drop 1 (split x)) is ∙ ap (drop 1) split_text) bad in
      absurd (bad'.bad (good_at (fields_of k) ns a i bad'.inside))
  text_fault bs is e (pair s v q reason ov oq other b h f) =
      let both = texts_same Reject (v ∷ q ∷ reason ∷ ov ∷ oq ∷ []) b (sym is ∙ other) in
      (both.0, ap (λ l. pair_ok (get_or l 2 0) (get_or l 3 0) (get_or l 4 0)) both.1 ∙ h, f)

-- a good rejection keeps the rule of the pair
pair_right : (m : MessageRow) → good_row m ≡ true → kind_of m ≡ Reject → pair_ok (get_or (numbers_of_row m) 2 0) (get_or (numbers_of_row m) 3 0) (get_or (numbers_of_row m) 4 0) ≡ true
pair_right (row.Request v q e d) g k = absurd (let z : ◌≡◌ {A = ℕ} 0 1 = cc in omega arith)
pair_right (row.Change v q b e d) g k = absurd (let z : ◌≡◌ {A = ℕ} 0 1 = cc in omega arith)
pair_right (row.Cancel v q) g k = absurd (let z : ◌≡◌ {A = ℕ} 0 1 = cc in omega arith)
pair_right (row.Done v) g k = absurd (let z : ◌≡◌ {A = ℕ} 0 1 = cc in omega arith)
pair_right (row.Confirm v q e) g k = absurd (let z : ◌≡◌ {A = ℕ} 0 1 = cc in omega arith)
pair_right (row.Reject v q (Because r)) g k = rw (reason_told r).1 refl
pair_right (row.Reject v q (Clash n)) g k =
    let c = and_parts (fits_vehicle n.vehicle) (is_number n.number) (and_parts _ (good_denial (Clash n)) g).1 in
    let a = leb-true 1 n.vehicle (and_parts _ _ c.0).0 in
    let b = leb-true 1 n.number (and_parts _ _ c.1).0 in
    and_from _ _ (lt-ltb 0 n.vehicle (omega arith)) (lt-ltb 0 n.number (omega arith))

-- the line of a message has no fault
no_fault : (bs : List ℕ) (m : MessageRow) → good_row m ≡ true → bs ≡ line_of m → (e : LineError) → Faults bs e → ⊥
no_fault bs m g is e f =
    let t = text_fault (kind_of m) (numbers_of_row m) (good_takes m g) bs is e f in
    true≢false (sym (pair_right m g t.0) ∙ t.1)

-- no two places are the first bad one
first_one : (fs : List Field) (ts : List (List ℕ)) (i j : ℕ) → FirstBad fs ts i → FirstBad fs ts j → i ≡ j
first_one fs ts i j a b =
    ⊎_elim
    (λ l. absurd (a.bad (b.before i l)))
    (λ l. ⊎_elim (λ m. absurd (b.bad (a.before j m))) (λ m. omega arith) (cases_lt j i))
    (cases_lt i j)

-- a text has one fault at most
one_fault : (bs : List ℕ) (e f : LineError) → Faults bs e → Faults bs f → e ≡ f
one_fault bs e f (size h i) (size h' i') = i ∙ sym i'
one_fault bs e f (size h i) (word s h' i') = absurd (h s)
one_fault bs e f (size h i) (count s k key h' i') = absurd (h s)
one_fault bs e f (size h i) (field s k key n j b i') = absurd (h s)
one_fault bs e f (size h i) (pair s v q n ov oq is a h' i') = absurd (h s)
one_fault bs e f (word s h i) (size h' i') = absurd (h' s)
one_fault bs e f (word s h i) (word s' h' i') = i ∙ sym i'
one_fault bs e f (word s h i) (count s' k key h' i') = absurd (h k key)
one_fault bs e f (word s h i) (field s' k key n j b i') = absurd (h k key)
one_fault bs e f (word s h i) (pair s' v q n ov oq is a h' i') =
    (text_fault Reject (v ∷ q ∷ n ∷ ov ∷ oq ∷ []) a bs is e (word s h i)).2 ∙ sym i'
one_fault bs e f (count s k key h i) (size h' i') = absurd (h' s)
one_fault bs e f (count s k key h i) (word s' h' i') = absurd (h' k key)
one_fault bs e f (count s k key h i) (count s' k' key' h' i') = i ∙ sym i'
one_fault bs e f (count s k key h i) (field s' k' key' n j b i') =
    absurd (h (subst (λ x. Counted x bs) (keyword_same k' k (sym key' ∙ key)) n))
one_fault bs e f (count s k key h i) (pair s' v q n ov oq is a h' i') =
    (text_fault Reject (v ∷ q ∷ n ∷ ov ∷ oq ∷ []) a bs is e (count s k key h i)).2 ∙ sym i'
one_fault bs e f (field s k key n j b i) (size h' i') = absurd (h' s)
one_fault bs e f (field s k key n j b i) (word s' h' i') = absurd (h' k key)
one_fault bs e f (field s k key n j b i) (count s' k' key' h' i') =
    absurd (h' (subst (λ x. Counted x bs) (keyword_same k k' (sym key ∙ key')) n))
one_fault bs e f (field s k key n j b i) (field s' k' key' n' j' b' i') =
    let same = keyword_same k' k (sym key' ∙ key) in
    let here = first_one (fields_of k) (drop 1 (split bs)) j j' b (subst (λ x. FirstBad (fields_of x) (drop 1 (split bs)) j') same b') in
    i ∙ ap (λ x. fault_at what.Field (x + 2) (begins (split bs) (x + 1))) here ∙ sym i'
one_fault bs e f (field s k key n j b i) (pair s' v q m ov oq is a h' i') =
    (text_fault Reject (v ∷ q ∷ m ∷ ov ∷ oq ∷ []) a bs is e (field s k key n j b i)).2 ∙ sym i'
one_fault bs e f (pair s v q n ov oq is a h i) y = i ∙ sym (text_fault Reject (v ∷ q ∷ n ∷ ov ∷ oq ∷ []) a bs is f y).2

-- the line of a message reads as that message only, and a fault is the only one
pub only_one : (bs : List ℕ) (r : Result Message LineError) → Reads bs r → Only bs r
only_one bs (Ok m) is (Ok n) is' =
    let both = texts_same (kind_of n.row) (numbers_of_row n.row) (good_takes n.row n.ok) (kind_of m.row) (numbers_of_row m.row) (good_takes m.row m.ok) (sym is' ∙ is) in
    rows_same n.row m.row both.0 both.1
only_one bs (Ok m) is (Err f) g = no_fault bs m.row m.ok is f g
only_one bs (Err e) g (Ok n) is = no_fault bs n.row n.ok is e g
only_one bs (Err e) g (Err f) g' = one_fault bs f e g' g

-- the line of a message fits 64 bytes, so that such a memory is never too short
pub line_sized : (m : MessageRow) → good_row m ≡ true → Sized (line_of m)
line_sized m g = text_sized (kind_of m) (numbers_of_row m) (good_takes m g)

pub some_room : (m : MessageRow) → good_row m ≡ true → (old : List ℕ) → length old ≡ 64 → (f : WriteFault) → Counts (line_of m) old (Err f) → ⊥
some_room m g old n Room short = omega (arith, (line_sized m g).1)
