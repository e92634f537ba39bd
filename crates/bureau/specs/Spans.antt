-- When two requests clash at a junction that lets one vehicle through at a time. Assumes nothing.
use Rattle.std.specs.Prelude.{◌≤◌}
use Rattle.grid.specs.declared.junction.Junction.{Junction}
use Rattle.reservation.specs.declared.request.Request.{Request}
use Rattle.reservation.specs.Requests.{first_tick_of, last_tick_of}

-- their spans, first to last tick, overlap, whichever paths they take
abbrev pub SpanClash : Junction → Request → Request → Type 0
SpanClash j x y = (first_tick_of j x ≤ last_tick_of j y) × (first_tick_of j y ≤ last_tick_of j x)
