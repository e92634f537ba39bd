-- What a vehicle makes of a message that is delivered to it. Assumes nothing.
use Rattle.std.specs.Prelude.{◌≡◌, ℕ, ◌+◌, ◌<◌, true, ◌⊎◌, IfSome, Some, None, Option}
use Rattle.grid.specs.declared.junction.Junction.{Junction}
use Rattle.message.specs.Rows as message
use Rattle.message.specs.declared.row.MessageRow.{MessageRow}
use Rattle.message.specs.declared.row.MessageRow.TheVariants.{Request, Change, Cancel, Done, Confirm, Reject}
use Rattle.vehicle.specs.declared.rows.Claim.{Claim}
use Rattle.vehicle.specs.declared.rows.State.{State}
use Rattle.vehicle.specs.declared.rows.State.TheVariants.{Idle, Holding}
use Rattle.vehicle.specs.Rows.{good_state}
use Rattle.vehicle.specs.States.{awaited_of, held_of}

-- a message answers the request of a number, or none
pub data Reply : Type 0 where
  grants : ℕ → Reply
  refuses : ℕ → Reply
  nothing : Reply

abbrev pub reply_of : MessageRow → Reply
reply_of (Request v q e d) = nothing
reply_of (Change v q b e d) = nothing
reply_of (Cancel v q) = nothing
reply_of (Done v) = nothing
reply_of (Confirm v q e) = grants q
reply_of (Reject v q why) = refuses q

-- the claim's entry, less the buffer, is above the clock
abbrev pub InTime : Junction → ℕ → Claim → Type 0
InTime j clock c = clock + j.buffer < c.entry

-- the message ends the wait for the claim without a grant: a late CONFIRM, or a REJECT
abbrev pub Ends : Junction → ℕ → MessageRow → Claim → Type 0
Ends j clock m c = ((reply_of m ≡ grants c.number) × (InTime j clock c → ⊥)) ⊎ (reply_of m ≡ refuses c.number)

-- the state of a vehicle that holds this, or nothing, and awaits no answer
abbrev pub settled : Option Claim → State
settled None = Idle
settled (Some held) = Holding held

-- CANCEL of what vehicle v held until now
abbrev pub farewell : ℕ → Option Claim → Option MessageRow
farewell v None = None
farewell v (Some held) = Some (Cancel v held.number)

-- in the state s, vehicle v is told m: the state after, and what the vehicle sends
pub data Told (j : Junction) (clock v : ℕ) (s : State) (m : MessageRow) (r : State × Option MessageRow) : Type 0 where
  -- a CONFIRM of the awaited number, in time: it holds what it awaited, and cancels what it held
  granted : (c : Claim) → awaited_of s ≡ Some c → reply_of m ≡ grants c.number → InTime j clock c
      → r ≡ (Holding c, farewell v (held_of s)) → Told j clock v s m r
  -- a late one, or a REJECT: it holds what it held
  ended : (c : Claim) → awaited_of s ≡ Some c → Ends j clock m c → r ≡ (settled (held_of s), None) → Told j clock v s m r
  -- any other message, or none awaited: all stays
  other : ((c : Claim) → awaited_of s ≡ Some c → (reply_of m ≡ grants c.number) ⊎ (reply_of m ≡ refuses c.number) → ⊥)
      → r ≡ (s, None) → Told j clock v s m r

-- what the vehicle makes of the message
pub record Hears (j : Junction) (clock v : ℕ) (s : State) (m : MessageRow) (r : State × Option MessageRow) : Type 0 where
  pub told : Told j clock v s m r
  -- nothing else fits
  pub only : (x : State × Option MessageRow) → Told j clock v s m x → x ≡ r
  -- a good state stays good, and what is sent is good
  pub good : (message.fits_vehicle v ≡ true) × (good_state j.buffer s ≡ true)
      → (good_state j.buffer r.0 ≡ true) × IfSome r.1 (λ m. message.good_row m ≡ true)
