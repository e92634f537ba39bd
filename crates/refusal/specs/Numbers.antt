-- The number of every refusal. Assumes nothing.
use Rattle.std.specs.Prelude.{◌≡◌, ℕ, Ok, Err, Result, ◌≢◌}
use Rattle.refusal.specs.declared.kinds.JunctionFault.TheVariants as making
use Rattle.refusal.specs.declared.kinds.CallFault.TheVariants as call
use Rattle.refusal.specs.declared.kinds.NoReason.{NoReason}
use Rattle.refusal.specs.declared.kinds.Reason.{Reason}
use Rattle.refusal.specs.declared.kinds.Reason.TheVariants as reason
use Rattle.refusal.specs.declared.kinds.Denial.TheVariants as denial
use Rattle.refusal.specs.declared.kinds.LineFault.TheVariants as line
use Rattle.refusal.specs.declared.kinds.WriteFault.TheVariants as write
use Rattle.refusal.specs.declared.kinds.Refusal.{Refusal}
use Rattle.refusal.specs.declared.kinds.Refusal.TheVariants as refusal

-- what REJECT may carry, but for the clash
abbrev pub reason_number : Reason → ℕ
reason_number reason.NameStands = 29
reason_number reason.Free30 = 30
reason_number reason.StopLine = 31
reason_number reason.Free32 = 32
reason_number reason.Limit = 33
reason_number reason.LedgerFull = 35
reason_number reason.Range = 36
reason_number reason.BaseGone = 37
reason_number reason.Answered = 38
reason_number reason.Time = 39

abbrev pub number_of : Refusal → ℕ
number_of (refusal.Making making.Lanes) = 1
number_of (refusal.Making making.Buffer) = 2
number_of (refusal.Call call.Policy) = 4
number_of (refusal.Call call.Memory) = 5
number_of (refusal.Call call.Arrival) = 6
number_of (refusal.Call call.VehiclesFull) = 7
number_of (refusal.Call call.TooClose) = 8
number_of (refusal.Call call.NoVehicle) = 9
number_of (refusal.Call call.State) = 10
number_of (refusal.Call call.NotLead) = 11
number_of (refusal.Call call.TooEarly) = 12
number_of (refusal.Call call.TooLate) = 13
number_of (refusal.Call call.NumbersUsed) = 14
number_of (refusal.Call call.MailFull) = 15
number_of (refusal.Call call.NoMessage) = 16
number_of (refusal.Call call.Nudge) = 17
number_of (refusal.Call call.Lag) = 18
number_of (refusal.Call call.ClockEnd) = 19
number_of (refusal.Denied (denial.Because r)) = reason_number r
number_of (refusal.Denied (denial.Clash n)) = 34
number_of (refusal.Reading line.Length) = 40
number_of (refusal.Reading line.Keyword) = 41
number_of (refusal.Reading line.Count) = 42
number_of (refusal.Reading line.Field) = 43
number_of (refusal.Writing write.Room) = 44

-- the reason of that number, or that no reason has it
abbrev pub ReasonOf : ℕ → Result Reason NoReason → Type 0
ReasonOf n (Ok r) = reason_number r ≡ n
ReasonOf n (Err e) = (e.0 ≡ n) × ((r : Reason) → reason_number r ≢ n)
