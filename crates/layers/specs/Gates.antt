-- The gates of the layers, and what becomes of a lane's limit. Assumes nothing.
use Rattle.std.specs.Prelude.{ℕ, min, Bool, true, cond, ◌&&◌, List, replicate, Some, None, Ok, Err, Option, Result, ◌==◌, nat_le, nat_lt, slice_index, slice_set}
use Rattle.grid.specs.Bodies.{lane_number_of}
use Rattle.refusal.specs.declared.kinds.Denial.{Denial}
use Rattle.refusal.specs.declared.kinds.Denial.TheVariants.{Because, Clash}
use Rattle.refusal.specs.declared.kinds.Reason.{Reason}
use Rattle.refusal.specs.declared.kinds.Reason.TheVariants.{Limit, StopLine}
use Rattle.refusal.specs.Numbers.{reason_number}
use Rattle.reservation.specs.declared.request.Request.{Request}

-- Stop line refuses whoever is not at the line
abbrev pub stop_gate : Request → Option Reason
stop_gate r = cond (r.distance == 0) None (Some StopLine)

-- the limit of the request's lane; no lane has a number above 7
abbrev pub limit_for : List ℕ → Request → ℕ
limit_for limits r = slice_index limits (lane_number_of r.body)

-- Distance refuses whoever asks from beyond the limit of its lane
abbrev pub distance_gate : List ℕ → Request → Option Reason
distance_gate limits r = cond (nat_lt (limit_for limits r) r.distance) (Some Limit) None

-- at first, and after a grant
abbrev pub farthest : ℕ
farthest = 2000

abbrev pub first_limits : List ℕ
first_limits = replicate 8 farthest

-- a refusal with a number from 31 to 35, the clash's 34 among them
abbrev pub lowers : Denial → Bool
lowers (Because g) = nat_le 31 (reason_number g) && nat_le (reason_number g) 35
lowers (Clash n) = true

-- the limits after an answer from below
abbrev pub limits_after : List ℕ → Request → Result (Unit {0}) Denial → List ℕ
limits_after limits r (Ok _) = slice_set limits (lane_number_of r.body) farthest
limits_after limits r (Err d) = cond (lowers d) (slice_set limits (lane_number_of r.body) (min (limit_for limits r) r.distance)) limits
