-- Which requests have a path and a footprint. Assumes nothing.
use Rattle.std.specs.Prelude.{◌≡◌, true, false, Some, None, Option}
use Rattle.grid.specs.declared.junction.Junction.{Junction}
use Rattle.grid.specs.declared.path.Path.{Path}
use Rattle.reservation.specs.declared.footprint.Footprint.{Footprint}
use Rattle.reservation.specs.declared.request.Request.{Request}
use Rattle.reservation.specs.Requests.{in_range}

-- a request in range has a path, that of its body, and no other request has one
abbrev pub RequestPath : Junction → Request → Option Path → Type 0
RequestPath j r None = in_range j r ≡ false
RequestPath j r (Some p) = (in_range j r ≡ true) × (p.junction ≡ j) × (p.body ≡ r.body)

-- a request in range has its footprint, and no other request has one
abbrev pub FootprintOf : Junction → Request → Option Footprint → Type 0
FootprintOf j r None = in_range j r ≡ false
FootprintOf j r (Some f) = (f.junction ≡ j) × (f.request ≡ r)
