-- What becomes of mail in lent memory. Assumes nothing.
use Rattle.std.specs.Prelude.{◌≡◌, ℕ, ◌+◌, ◌<◌, ◌≤◌, List, ◌++◌, length, take, drop, Option, Result, slice_set}
use Rattle.refusal.specs.declared.kinds.CallFault.{CallFault}
use Rattle.refusal.specs.declared.kinds.CallFault.TheVariants as fault
use Rattle.message.specs.declared.row.MessageRow.{MessageRow}
use Rattle.run.specs.Manager.{replied}
use Rattle.run.specs.Tables.{Ruled, end, row}

-- message i, from 1, is one of the first n of the memory
abbrev pub Among : List MessageRow → ℕ → ℕ → Type 0
Among ms n i = (1 ≤ i) × (i ≤ n) × (n ≤ length ms)

-- of the first n messages the i-th made way for the reply, if there is one: so many are there now, and the memory behind
-- them is as it was
pub record Settled (ms : List MessageRow) (n i : ℕ) (reply : Option MessageRow) (count : ℕ) (ms' : List MessageRow) : Type 0 where
  pub counted : count ≡ length (replied (take n ms) i reply)
  pub memory : ms' ≡ replied (take n ms) i reply ++ drop count ms

-- the message comes in behind the first n, if there is room, and so many are there then; else nothing is altered
abbrev pub Posts : List MessageRow → ℕ → MessageRow → List MessageRow → Result ℕ CallFault → Type 0
Posts ms n m ms' = Ruled (row fault.MailFull (n < length ms) end) (λ k. (k ≡ n + 1) × (ms' ≡ slice_set ms n m)) (ms' ≡ ms)
