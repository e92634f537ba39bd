-- Cutting a text at its commas. Assumes nothing.
use Rattle.std.proofs.Common.{◌≡◌, ℕ, zero, suc, ◌+◌, ◌<◌, ◌≤◌, true, false, cond, not, List, [], ◌∷◌, ◌++◌, length, get_or, take, drop, refl, ap, ◌∙◌, one-add, arith}
use Rattle.std.specs.List.{All, AllByRecursion, count_by, list_all, onto_first, sum_by}
use Rattle.std.proofs.lemmas.List.{drop-drop, length-append, length-drop}
use Rattle.std.proofs.lemmas.Bool.{not-true}
use Rattle.std.proofs.lemmas.List.Sums.{AllPass-from_list_all, sum_by-cons, sum_by-take-le}
use Rattle.std.proofs.lemmas.List.Splits.{join_with_byte-slice_split, length-slice_split, slice_split_at, slice_split_none}
use Rattle.fields.specs.Texts.{begins, comma, first_length, join, split}

pub length-on_first : (b : ℕ) (fs : List (List ℕ)) → 0 < length fs → length (onto_first b fs) ≡ length fs
length-on_first b [] h = absurd (omega arith)
length-on_first b (f ∷ fs) h = refl

-- there is one more field than commas
pub fields_counted : (bs : List ℕ) → length (split bs) ≡ count_by comma bs + 1
fields_counted bs = length-slice_split comma bs

-- what follows the first field
abbrev pub after : List ℕ → List (List ℕ)
after [] = []
after (b ∷ bs) = split bs

pub split_cut : (bs : List ℕ) → split bs ≡ take (first_length bs) bs ∷ after (drop (first_length bs) bs)
split_cut [] = refl
split_cut (b ∷ bs) =
    elim (comma b) as (λ t. cond t ([] ∷ split bs) (onto_first b (split bs)) ≡ take (cond (not t) (1 + first_length bs) 0) (b ∷ bs) ∷ after (drop (cond (not t) (1 + first_length bs) 0) (b ∷ bs))) [
      | true ↦ refl
      | false ↦ rw one-add (ap (onto_first b) (split_cut bs))
    ]

pub join_cons : (f : List ℕ) (fs : List (List ℕ)) → 0 < length fs → join (f ∷ fs) ≡ f ++ (44 ∷ join fs)
join_cons f [] h = absurd (omega arith)
join_cons f (g ∷ fs) h = refl

pub join-on_first : (b : ℕ) (fs : List (List ℕ)) → 0 < length fs → join (onto_first b fs) ≡ b ∷ join fs
join-on_first b [] h = absurd (omega arith)
join-on_first b (f ∷ []) h = refl
join-on_first b (f ∷ g ∷ fs) h = refl

-- the fields of a text make it again
pub join_split : (bs : List ℕ) → join (split bs) ≡ bs
join_split bs = join_with_byte-slice_split 44 bs

-- a field: no byte of it is a comma
abbrev pub Whole : List ℕ → Type 0
Whole f = list_all (λ b. not (comma b)) f ≡ true

no_comma : (f : List ℕ) → Whole f → All (λ b. comma b ≡ false) f
no_comma f w = let passes = AllPass-from_list_all (λ b. not (comma b)) f w in λ k d h. not-true _ (passes k d h)

-- a text that is made of fields is cut into them
pub split_join : (fs : List (List ℕ)) → 0 < length fs → AllByRecursion Whole fs → split (join fs) ≡ fs
split_join [] h w = absurd (omega arith)
split_join (f ∷ []) h w = slice_split_none comma f (no_comma f w.0)
split_join (f ∷ g ∷ fs) h w =
    slice_split_at comma f 44 (join (g ∷ fs)) (no_comma f w.0) refl ∙ ap (λ l. f ∷ l) (split_join (g ∷ fs) (omega arith) w.1)

-- the bytes before the first comma are the first field
pub first_is : (bs : List ℕ) → get_or (split bs) 0 [] ≡ take (first_length bs) bs
first_is bs = ap (λ fs. get_or fs 0 []) (split_cut bs)

pub after_some : (xs : List ℕ) → 0 < length (after xs) → (0 < length xs) × (after xs ≡ split (drop 1 xs))
after_some [] h = absurd (omega arith)
after_some (x ∷ xs) h = (omega arith, refl)

-- a text with more than one field has a comma after the first
pub open_text : (bs : List ℕ) → 1 < length (split bs) → (first_length bs + 1 ≤ length bs) × (split bs ≡ take (first_length bs) bs ∷ split (drop (first_length bs + 1) bs))
open_text bs more =
    let cut = split_cut bs in
    let some : 0 < length (after (drop (first_length bs) bs)) = omega (arith, ap length cut) in
    let a = after_some (drop (first_length bs) bs) some in (
      omega (arith, a.0, length-drop (first_length bs) bs),
      cut ∙ ap (λ l. take (first_length bs) bs ∷ l) (a.1 ∙ ap split (drop-drop 1 (first_length bs) bs)),
    )

-- with its comma
abbrev with_comma : List ℕ → ℕ
with_comma f = length f + 1

-- where field j begins, as a sum over the fields before it
pub begins_sum : (fs : List (List ℕ)) (j : ℕ) → begins fs j ≡ sum_by (λ f. length f + 1) (take j fs)
begins_sum fs zero = refl
begins_sum [] (suc j) = refl
begins_sum (f ∷ fs) (suc j) = omega (arith, begins_sum fs j, sum_by-cons with_comma f (take j fs))

all_within : (fs : List (List ℕ)) → sum_by with_comma fs ≤ length (join fs) + 1
all_within [] = omega arith
all_within (f ∷ []) = omega arith
all_within (f ∷ g ∷ fs) =
    omega (arith, all_within (g ∷ fs), sum_by-cons with_comma f (g ∷ fs), length-append f (44 ∷ join (g ∷ fs)))

-- the fields of a text are no longer than the text
pub fields_within : (bs : List ℕ) (j : ℕ) → sum_by (λ f. length f + 1) (take j (split bs)) ≤ length bs + 1
fields_within bs j = omega (arith, sum_by-take-le with_comma (split bs) j, all_within (split bs), ap length (join_split bs))
