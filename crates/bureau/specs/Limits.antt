-- The gate of a limit on length, and how it counts whom it turns away. Assumes nothing.
use Rattle.std.specs.Prelude.{◌+◌, ◌-◌, ◌^◌, min, cond, Some, None, Option, ◌==◌, nat_lt}
use Rattle.refusal.specs.declared.kinds.Reason.{Reason}
use Rattle.refusal.specs.declared.kinds.Reason.TheVariants.{Free30}
use Rattle.refusal.specs.Numbers.{reason_number}
use Rattle.reservation.specs.declared.request.Request.{Request}
use Rattle.bureau.specs.declared.length_limit.Limit.{Limit}

-- who is longer than the longest that may ask is refused with 30
abbrev pub length_gate : Limit → Request → Option Reason
length_gate m r = cond (nat_lt m.longest r.body.length) (Some Free30) None

-- the limit after the layer has refused so: one refusal more where it is its own, up to the largest number
abbrev pub counted : Limit → Reason → Limit
counted m g = record { longest = m.longest; refused = cond (reason_number g == 30) (min (m.refused + 1) (2 ^ 32 - 1)) m.refused }
