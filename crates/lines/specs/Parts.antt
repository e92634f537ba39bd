-- The parts of a reading: fields as numbers, and numbers as a row. Assumes nothing.
use Rattle.std.specs.Prelude.{◌≡◌, ℕ, ◌+◌, true, false, List, [], ◌∷◌, drop, map, decimal, Some, None, Ok, Err, Option, Result, slice_index}
use Rattle.arrayvec.specs.ArrayVec.{ArrayVec}
use Rattle.refusal.specs.declared.kinds.Denial.{Denial}
use Rattle.fields.specs.Texts.{begins, split}
use Rattle.message.specs.Fields.{AllTake}
use Rattle.message.specs.Rows.{numbers_of_denial, good_row, kind_of, numbers_of_row}
use Rattle.message.specs.declared.kinds.Field.{Field}
use Rattle.message.specs.declared.kinds.Kind.{Kind}
use Rattle.message.specs.declared.kinds.Kind.TheVariants.{Reject}
use Rattle.message.specs.declared.row.MessageRow.{MessageRow}
use Rattle.lines.specs.Good.{FirstBad, Good, ReadAs, pair_ok}
use Rattle.lines.specs.declared.faults.FieldFault.{FieldFault}

abbrev pub TakenIn : Field → List ℕ → Option ℕ → Type 0
TakenIn f bs (Some n) = ReadAs f bs n
TakenIn f bs None = Good f bs → ⊥

-- the fault in field j of the line, from 0: the keyword is told as field 1
abbrev pub field_fault : List ℕ → ℕ → FieldFault
field_fault bs j = record { field = j + 1; byte = begins (split bs) j }

-- the first field behind the keyword that is not good
pub record BadField (fs : List Field) (bs : List ℕ) (f : FieldFault) : Type 0 where
  pub place : ℕ
  pub bad : FirstBad fs (drop 1 (split bs)) place
  pub told : f ≡ field_fault bs (place + 1)

-- the fields behind the keyword write the numbers, each one that its field may have; or one is bad
abbrev pub NumbersIn : List Field → List ℕ → Result (ArrayVec ℕ) FieldFault → Type 0
NumbersIn fs bs (Ok ns) = (drop 1 (split bs) ≡ map decimal ns.items) × AllTake fs ns.items
NumbersIn fs bs (Err f) = BadField fs bs f

abbrev pub DenialIn : ℕ → ℕ → ℕ → Option Denial → Type 0
DenialIn reason ov oq (Some why) = (numbers_of_denial why ≡ reason ∷ ov ∷ oq ∷ []) × (pair_ok reason ov oq ≡ true)
DenialIn reason ov oq None = pair_ok reason ov oq ≡ false

-- a row of that kind and of those numbers; or a pair that breaks its rule, and there is none
abbrev pub RowIn : Kind → List ℕ → Option MessageRow → Type 0
RowIn k ns (Some row) = (kind_of row ≡ k) × (numbers_of_row row ≡ ns) × (good_row row ≡ true)
RowIn k ns None = (k ≡ Reject) × (pair_ok (slice_index ns 2) (slice_index ns 3) (slice_index ns 4) ≡ false)
