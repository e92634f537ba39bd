use Rattle.std.proofs.Common.{◌≡◌, ℕ, Bool, cond, drop}
use Rattle.marks.specs.Marked.{mark}
use Rattle.reservation.specs.declared.request.Request.{Request}
use Rattle.ledger.specs.Standings.{requests}
use Rattle.tile_table.specs.Holding.{InWindow}
use Rattle.tile_table.specs.Painting.{covers}
use Rattle.tile_table.proofs.window.Window.paint_chosen.Given as goal

-- once the cells of the rest are painted, those of all are
abbrev pub invariant-loop-one : goal.invariant-loop-one
invariant-loop-one g l =
    (chosen : Request → Bool) → ((one : _) (b : Bool) → goal.F-post g l.is_chosen one b → b ≡ chosen one.now)
    → (tile t : ℕ) → InWindow l.self.clock tile t
    → cond (covers chosen l.self.junction (requests (drop l.one-index l.standing)) tile t) l.vehicle (mark l.marks tile t)
    ≡ cond (covers chosen l.self.junction (requests l.standing) tile t) l.vehicle (mark l.initial.marks tile t)
