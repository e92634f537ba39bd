-- What the line of a message is. Assumes nothing.
use Rattle.std.specs.Prelude.{◌≡◌, ℕ, List, ◌∷◌, map, Some, None, codes, decimal, Option, ◌≢◌}
use Rattle.fields.specs.Texts.{join}
use Rattle.message.specs.Rows.{kind_of, numbers_of_row}
use Rattle.message.specs.declared.kinds.Kind.{Kind}
use Rattle.message.specs.declared.kinds.Kind.TheVariants.{Request, Change, Cancel, Done, Confirm, Reject}
use Rattle.message.specs.declared.row.MessageRow.{MessageRow}

abbrev pub keyword : Kind → List ℕ
keyword Request = codes "REQUEST"
keyword Change = codes "CHANGE"
keyword Cancel = codes "CANCEL"
keyword Done = codes "DONE"
keyword Confirm = codes "CONFIRM"
keyword Reject = codes "REJECT"

-- some kind whose keyword the word is, or that it is none's
abbrev pub Recognised : List ℕ → Option Kind → Type 0
Recognised w (Some k) = w ≡ keyword k
Recognised w None = (k : Kind) → w ≢ keyword k

-- a keyword and numbers in base ten, parted by commas
abbrev pub text_of : Kind → List ℕ → List ℕ
text_of k ns = join (keyword k ∷ map decimal ns)

abbrev pub line_of : MessageRow → List ℕ
line_of row = text_of (kind_of row) (numbers_of_row row)
