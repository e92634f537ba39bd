-- Which rows make a message. Assumes nothing.
use Rattle.std.specs.Prelude.{◌≡◌, false, Some, None, Option}
use Rattle.message.specs.Rows.{good_row}
use Rattle.message.specs.declared.row.MessageRow.{MessageRow}
use Rattle.message.specs.declared.message.Message.{Message}

-- a row whose numbers are all in their ranges makes a message, its own, and no other row makes one
abbrev pub MessageOf : MessageRow → Option Message → Type 0
MessageOf row None = good_row row ≡ false
MessageOf row (Some m) = m.row ≡ row
