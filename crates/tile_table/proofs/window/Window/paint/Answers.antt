use Rattle.std.proofs.Common.{◌+◌, ◌<◌, ◌≤◌, cond, ap, ◌∙◌, arith}
use Rattle.reservation.specs.Cells.{has}
use Rattle.marks.specs.Marked.{mark}
use Rattle.tile_table.proofs.Rings.{paint_first, paint_last, paint_more}
use Rattle.tile_table.proofs.Spans.{after_last, before_first}
use Rattle.tile_table.proofs.window.Window.paint.Goals as goal

pub loop-tick-init : goal.loop-tick-init
loop-tick-init c =
    let f = c.args.footprint.now in
    paint_first c.args.self.now.clock c.first-tick.result c.args.vehicle (has f.junction f.request) c.args.marks.now
    (λ tile t from to. before_first f.junction f.request tile t (omega arith))

pub loop-tick-preserved : goal.loop-tick-preserved
loop-tick-preserved c =
    let f = c.args.footprint.now in
    let tick = c.loop-tick.tick in
    let from : c.args.self.now.clock ≤ tick = omega arith in
    let to : tick < c.args.self.now.clock + 128 = omega arith in
    paint_more c.args.self.now.clock tick c.args.vehicle (has f.junction f.request) c.args.marks.now c.loop-tick.marks c.put.new.self
    from to
    (λ tile below. c.put.ensures.here tile below ∙ ap (λ b. cond b c.args.vehicle (mark c.loop-tick.marks tile tick)) (c.tiles_at.ensures.cells tile))
    c.put.ensures.others
    c.loop-tick.invariant

pub returns : goal.returns
returns c =
    let f = c.args.footprint.now in
    paint_last c.args.self.now.clock c.loop-tick.tick c.args.vehicle (has f.junction f.request) c.args.marks.now c.loop-tick.marks
    (λ tile t from to. after_last f.junction f.request tile t (omega arith))
    c.loop-tick.invariant
