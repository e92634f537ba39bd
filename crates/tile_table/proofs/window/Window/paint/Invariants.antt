use Rattle.reservation.specs.Cells.{has}
use Rattle.tile_table.specs.Painting.{Painted}
use Rattle.tile_table.proofs.Rings.{before}
use Rattle.tile_table.proofs.window.Window.paint.Given as goal

-- the cells before the tick are painted
abbrev pub invariant-loop-tick : goal.invariant-loop-tick
invariant-loop-tick l = Painted l.self.clock (before (has l.footprint.junction l.footprint.request) l.tick) l.vehicle l.initial.marks l.marks
