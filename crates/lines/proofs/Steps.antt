-- A loop over fields and their texts, which reads a number of each. Assumes nothing.
use Rattle.std.proofs.Common.{◌≡◌, ℕ, zero, suc, ◌<◌, ◌≤◌, Bool, false, List, [], ◌∷◌, ◌++◌, map, length, get_or, take, drop, Some, None, Option, decimal, Bor, Iter, sym, refl, ap, ◌∙◌, subst, arith}
use Rattle.std.specs.Iterator.{Yields}
use Rattle.std.specs.List.{zip}
use Rattle.std.specs.Fn.{CalledAt}
use Rattle.std.specs.Iterator.Adapters.{skip_count, skip_source, skip_steps, zip_first, zip_second}
use Rattle.std.specs.Slice.Iter.{iter_rest, split_callee, split_done, split_rest, split_steps}
use Rattle.std.specs.declared.iter.Skip.{Skip}
use Rattle.std.specs.declared.iter.Zip.{Zip}
use Rattle.std.specs.declared.slice.Split.{Split}
use Rattle.std.proofs.iter.Yields.{fronts}
use denote.Param.Members.{Mut}
use Rattle.std.proofs.lemmas.Iterator.{YieldsList, YieldsList-from_slice, YieldsList-from_zip, zips}
use Rattle.std.proofs.lemmas.Iterator.Adapters.{YieldsList-from_skip}
use Rattle.std.proofs.lemmas.Iterator.Splits.{YieldsList-from_slice_split}
use Rattle.std.proofs.lemmas.Iterator.Consumers.{YieldsList-end, YieldsList-so_far, YieldsList-turn}
use Rattle.std.proofs.lemmas.List.{get_or-take, get_or_default, length-drop, length-map, map-append, take-map, take_all}
use Rattle.std.proofs.lemmas.Simd.{map-map}
use Rattle.std.proofs.lemmas.Slice.Zip.{firsts-zip, get_or-zip, length-zip, seconds-zip}
use Rattle.fields.specs.Texts.{comma, split}
use Rattle.message.specs.Fields.{AllTake, Takes, fields_of}
use Rattle.message.specs.declared.kinds.Field.{Field}
use Rattle.message.specs.declared.kinds.Field.TheVariants.{Vehicle}
use Rattle.message.specs.declared.kinds.Kind.{Kind}
use Rattle.message.specs.declared.kinds.Kind.TheVariants.{Request, Change, Cancel, Done, Confirm, Reject}
use Rattle.lines.specs.Good.{FirstBad, Good, ReadAs}
use Rattle.lines.specs.Readings.{Counted}

-- a line has a number, and at most five
pub some_fields : (k : Kind) → (0 < length (fields_of k)) × (length (fields_of k) ≤ 5)
some_fields Request = (omega arith, omega arith)
some_fields Change = (omega arith, omega arith)
some_fields Cancel = (omega arith, omega arith)
some_fields Done = (omega arith, omega arith)
some_fields Confirm = (omega arith, omega arith)
some_fields Reject = (omega arith, omega arith)

pub few_fields : (k : Kind) → length (fields_of k) ≤ 5
few_fields k = (some_fields k).1

-- as many numbers as fields
pub arity : (fs : List Field) (ns : List ℕ) → AllTake fs ns → length ns ≡ length fs
arity [] [] a = refl
arity [] (n ∷ ns) a = absurd a
arity (f ∷ fs) [] a = absurd a
arity (f ∷ fs) (n ∷ ns) a = ap suc (arity fs ns a.1)

-- a field and its number more
take_more : (fs : List Field) (ns : List ℕ) (f : Field) (n : ℕ) → AllTake fs ns → Takes f n → AllTake (fs ++ f ∷ []) (ns ++ n ∷ [])
take_more [] [] f n a t = (t, tt)
take_more [] (m ∷ ns) f n a t = absurd a
take_more (g ∷ fs) [] f n a t = absurd a
take_more (g ∷ fs) (m ∷ ns) f n a t = (a.0, take_more fs ns f n a.1 t)

pub good_at : (fs : List Field) (ns : List ℕ) → AllTake fs ns → (i : ℕ) → i < length fs → Good (get_or fs i Vehicle) (get_or (map decimal ns) i [])
good_at [] ns a i l = absurd (omega arith)
good_at (f ∷ fs) [] a i l = absurd a
good_at (f ∷ fs) (n ∷ ns) a zero l = (n, (a.0, refl))
good_at (f ∷ fs) (n ∷ ns) a (suc i) l = good_at fs ns a.1 i (omega arith)

abbrev Turn : Type 0
Turn = Bor Field × Bor (List ℕ)

abbrev pub field_of : Turn → Field
field_of p = p.0.now

abbrev pub text_of : Turn → List ℕ
text_of p = p.1.now

abbrev pub pair_of : Turn → Field × List ℕ
pair_of p = (p.0.now, p.1.now)

-- numbers are read of the texts so far, each one that its field may have
abbrev pub ReadSoFar : List Turn → List ℕ → Type 0
ReadSoFar xs ns = (map text_of xs ≡ map decimal ns) × AllTake (map field_of xs) ns

pub one_more : (xs : List Turn) (ns : List ℕ) (x : Turn) (n : ℕ) → ReadSoFar xs ns → ReadAs (field_of x) (text_of x) n → ReadSoFar (xs ++ x ∷ []) (ns ++ n ∷ [])
one_more xs ns x n so r = (
  map-append text_of xs (x ∷ []) ∙ ap (λ l. l ++ text_of x ∷ []) so.0 ∙ ap (λ t. map decimal ns ++ t ∷ []) r.1 ∙ sym (map-append decimal ns (n ∷ [])),
  subst (λ fs. AllTake fs (ns ++ n ∷ [])) (sym (map-append field_of xs (x ∷ []))) (take_more (map field_of xs) ns (field_of x) n so.1 r.0),
)

-- a loop over the pairs of fields and texts has taken the turns xs
module _ {S : Type 0} {steps : S → Option Turn → S → Type 0} {s : S} (fs : List Field) (ts : List (List ℕ)) (fits : length ts ≡ length fs) (e : YieldsList steps pair_of s (zip fs ts)) (xs : List Turn) (t : S) (y : Yields steps s xs t) where
  fields_are : map field_of xs ≡ take (length xs) fs
  fields_are =
      sym (map-map (λ (q : Field × List ℕ). q.0) pair_of xs) ∙ ap (map (λ (q : Field × List ℕ). q.0)) (YieldsList-so_far e xs t y)
      ∙ sym (take-map (λ (q : Field × List ℕ). q.0) (length xs) (zip fs ts)) ∙ ap (take (length xs)) (firsts-zip fs ts fits)

  texts_are : map text_of xs ≡ take (length xs) ts
  texts_are =
      sym (map-map (λ (q : Field × List ℕ). q.1) pair_of xs) ∙ ap (map (λ (q : Field × List ℕ). q.1)) (YieldsList-so_far e xs t y)
      ∙ sym (take-map (λ (q : Field × List ℕ). q.1) (length xs) (zip fs ts)) ∙ ap (take (length xs)) (seconds-zip fs ts fits)

  module _ (ns : List ℕ) (so : ReadSoFar xs ns) where
    count : length ns ≡ length xs
    count = arity (map field_of xs) ns so.1 ∙ length-map xs field_of

    -- all are read
    pub all_read : (r : Option Turn) (u : S) → r ≡ None → steps t r u → (ts ≡ map decimal ns) × AllTake fs ns
    all_read r u is step =
        let ended = YieldsList-end e xs t y r u is step in
        let long = length-zip fs ts in
        let all_fields : take (length xs) fs ≡ fs = take_all (length xs) fs (omega (arith, ended.1)) in
        let all_texts : take (length xs) ts ≡ ts = take_all (length xs) ts (omega (arith, ended.1)) in
        (sym (texts_are ∙ all_texts) ∙ so.0, subst (λ l. AllTake l ns) (fields_are ∙ all_fields) so.1)

    module _ (r : Option Turn) (u : S) (x : Turn) (is : r ≡ Some x) (step : steps t r u) where
      turn : (length xs < length (zip fs ts)) × (pair_of x ≡ get_or (zip fs ts) (length xs) (pair_of x))
      turn = YieldsList-turn e xs t y r u x is step

      pub inside : length ns < length fs
      inside = omega (arith, turn.0, length-zip fs ts, count)

      -- the text of this turn is bad, and the first
      pub first_bad : (Good (field_of x) (text_of x) → ⊥) → FirstBad fs ts (length ns)
      first_bad bad =
          let first = inside in
          let long = length-zip fs ts in
          let here : pair_of x ≡ (get_or fs (length ns) Vehicle, get_or ts (length ns) []) =
          turn.1 ∙ ap (λ i. get_or (zip fs ts) i (pair_of x)) (sym count)
          ∙ get_or_default (zip fs ts) (length ns) (pair_of x) (Vehicle, []) (omega arith)
          ∙ get_or-zip fs ts (length ns) (Vehicle, []) (omega arith) (omega arith) in
          record {
            inside = first;
            bad = λ g. bad (subst (λ (q : Field × List ℕ). Good q.0 q.1) (sym here) g);
            before =
                λ i l.
                let g = good_at (map field_of xs) ns so.1 i (omega (arith, length-map xs field_of, count)) in
                let f : get_or (map field_of xs) i Vehicle ≡ get_or fs i Vehicle =
                ap (λ m. get_or m i Vehicle) fields_are ∙ get_or-take (length xs) fs i Vehicle (omega (arith, count)) in
                let q : get_or (map decimal ns) i [] ≡ get_or ts i [] =
                ap (λ m. get_or m i []) (sym so.0 ∙ texts_are) ∙ get_or-take (length xs) ts i [] (omega (arith, count)) in
                rw (f, q) at g;
          }

-- as many texts as fields behind the keyword
pub behind : (k : Kind) (bs : List ℕ) → Counted k bs → length (drop 1 (split bs)) ≡ length (fields_of k)
behind k bs counted = omega (arith, length-drop 1 (split bs), counted)

-- the loop goes over the fields and the texts behind the first comma
pub pieces : {F : Type 0} {s : Zip (Iter Field) (Skip (Split ℕ F))} (g : Mut F (Bor ℕ × Unit {0}) Bool) {f : F} (fs : List Field) (bs : List ℕ) → iter_rest (zip_first s) ≡ fs → skip_count (zip_second s) ≡ 1 → split_rest (skip_source (zip_second s)) ≡ bs → split_done (skip_source (zip_second s)) ≡ false → split_callee (skip_source (zip_second s)) ≡ f → ((x : ℕ) (b : Bool) (q : F) → CalledAt g f x b q → (q ≡ f) × (b ≡ comma x)) → YieldsList (zips fronts (skip_steps (split_steps g))) pair_of s (zip fs (drop 1 (split bs)))
pieces g fs bs first one rest done callee calls =
    YieldsList-from_zip (YieldsList-from_slice fs first) (YieldsList-from_skip 1 (YieldsList-from_slice_split g comma bs rest done callee calls) one)
