-- What a text reads as: a message, or one fault. Assumes nothing.
use Rattle.std.specs.Prelude.{◌≡◌, ℕ, ◌+◌, ◌<◌, ◌≤◌, false, List, [], ◌∷◌, length, drop, Ok, Err, Result, slice_index_or}
use Rattle.refusal.specs.declared.kinds.LineFault.TheVariants as what
use Rattle.fields.specs.Texts.{begins, split}
use Rattle.message.specs.Fields.{AllTake, fields_of}
use Rattle.message.specs.declared.kinds.Kind.{Kind}
use Rattle.message.specs.declared.kinds.Kind.TheVariants.{Reject}
use Rattle.message.specs.declared.message.Message.{Message}
use Rattle.lines.specs.Lines.{keyword, line_of, text_of}
use Rattle.lines.specs.Good.{FirstBad, pair_ok}
use Rattle.lines.specs.Places.{fault_at, in_line}
use Rattle.lines.specs.declared.faults.FieldFault.{FieldFault}
use Rattle.lines.specs.declared.faults.LineError.{LineError}

abbrev pub Sized : List ℕ → Type 0
Sized bs = (0 < length bs) × (length bs ≤ 64)

-- the text's first field is the keyword of the kind
abbrev pub Begins : Kind → List ℕ → Type 0
Begins k bs = slice_index_or (split bs) 0 [] ≡ keyword k

-- as many fields as a message of the kind has, the keyword among them
abbrev pub Counted : Kind → List ℕ → Type 0
Counted k bs = length (split bs) ≡ length (fields_of k) + 1

-- what is wrong with a text that is no line, each case with all that was right before it
pub data Faults (bs : List ℕ) (e : LineError) : Type 0 where
  size : (Sized bs → ⊥) → e ≡ fault_at what.Length 0 0 → Faults bs e
  word : Sized bs → ((k : Kind) → Begins k bs → ⊥) → e ≡ fault_at what.Keyword 1 0 → Faults bs e
  count : Sized bs → (k : Kind) → Begins k bs → (Counted k bs → ⊥) → e ≡ fault_at what.Count (length (split bs)) (length bs) → Faults bs e
  field : Sized bs → (k : Kind) → Begins k bs → Counted k bs → (j : ℕ) → FirstBad (fields_of k) (drop 1 (split bs)) j → e ≡ fault_at what.Field (j + 2) (begins (split bs) (j + 1)) → Faults bs e
  pair : Sized bs → (v q reason ov oq : ℕ) → bs ≡ text_of Reject (v ∷ q ∷ reason ∷ ov ∷ oq ∷ []) → AllTake (fields_of Reject) (v ∷ q ∷ reason ∷ ov ∷ oq ∷ []) → pair_ok reason ov oq ≡ false → e ≡ fault_at what.Field 5 (begins (split bs) 4) → Faults bs e

-- the text is the line of the message, or a field of it has the fault
abbrev pub MessageIn : List ℕ → Result Message FieldFault → Type 0
MessageIn bs (Ok m) = bs ≡ line_of m.row
MessageIn bs (Err f) = Faults bs (in_line f)

-- the text is the line of the message, or has the fault
abbrev pub Reads : List ℕ → Result Message LineError → Type 0
Reads bs (Ok m) = bs ≡ line_of m.row
Reads bs (Err e) = Faults bs e

abbrev pub Alike : Result Message LineError → Result Message LineError → Type 0
Alike (Ok m) (Ok n) = m.row ≡ n.row
Alike (Ok m) (Err f) = ⊥
Alike (Err e) (Ok n) = ⊥
Alike (Err e) (Err f) = e ≡ f

-- a text reads as nothing else: it is the line of one message or has one fault, and never both
abbrev pub Only : List ℕ → Result Message LineError → Type 0
Only bs r = (s : Result Message LineError) → Reads bs s → Alike s r
