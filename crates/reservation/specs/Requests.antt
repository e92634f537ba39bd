-- A request: its name, the ranges of its numbers, and its span. Assumes nothing.
use Rattle.std.specs.Prelude.{ℕ, ◌+◌, ◌-◌, Bool, ◌&&◌, nat_le}
use Rattle.grid.specs.declared.junction.Junction.{Junction}
use Rattle.grid.specs.Bodies.{fits}
use Rattle.grid.specs.Steps.{duration_of}
use Rattle.refusal.specs.declared.kinds.Name.{Name}
use Rattle.reservation.specs.declared.request.Request.{Request}

abbrev pub name_of : Request → Name
name_of r = record { vehicle = r.vehicle; number = r.number }

-- the numbers beside the body are in their ranges
unfoldable pub numbers_in_range : Request → Bool
numbers_in_range r =
    nat_le 1 r.vehicle && nat_le r.vehicle 1024
    && nat_le 1 r.number && nat_le r.number 1000
    && nat_le r.distance 2000 && nat_le r.entry 1000127

-- all numbers of the request are in their ranges, and its lane suits its movement
abbrev pub in_range : Junction → Request → Bool
in_range j r = numbers_in_range r && fits j.lanes r.body

-- the tick after the last one of an entry's span
abbrev pub span_end : Junction → Request → ℕ
span_end j r = r.entry + duration_of j.lanes r.body + j.buffer

-- the span of a request, from the buffer before its entry to the buffer after its last step; no tick is below 0
abbrev pub first_tick_of : Junction → Request → ℕ
first_tick_of j r = r.entry - j.buffer

abbrev pub last_tick_of : Junction → Request → ℕ
last_tick_of j r = span_end j r - 1
