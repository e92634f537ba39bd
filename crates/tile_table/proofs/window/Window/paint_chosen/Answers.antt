use Rattle.std.proofs.Common.{sym, refl, ◌∙◌}
use Rattle.marks.specs.Marked.{mark}
use Rattle.tile_table.proofs.Covers.{covers_chosen, covers_end, covers_passed}
use Rattle.tile_table.proofs.window.Window.paint_chosen.Goals as goal
use Rattle.tile_table.proofs.window.Window.paint_chosen.Goals.{then-is_chosen, else-is_chosen}

pub loop-one-preserved : goal.loop-one-preserved
loop-one-preserved g c chosen computes tile t w =
    let j = c.args.self.now.junction in
    let xs = c.args.standing.now in
    let v = c.args.vehicle in
    let m = mark c.loop-one.marks tile t in
    let is = computes _ c.is_chosen.result c.is_chosen.ensures in
    elim c.if-is_chosen.branch [
      | then-is_chosen b ↦
          rw b.marks-is (covers_chosen chosen j tile t xs c.loop-one.one-index _ v m (mark b.paint_request.new.marks tile t) c.loop-one-test.true
          (sym is ∙ b.if-is_chosen.true) (b.paint_request.ensures tile t w))
      | else-is_chosen b ↦
          rw b.marks-is (covers_passed chosen j tile t xs c.loop-one.one-index _ v m m c.loop-one-test.true (sym is ∙ b.if-is_chosen.false) refl)
    ]
    ∙ c.loop-one.invariant chosen computes tile t w

pub returns : goal.returns
returns g c chosen computes tile t w =
    sym (covers_end chosen c.args.self.now.junction tile t c.args.standing.now c.loop-one.one-index c.args.vehicle (mark c.loop-one.marks tile t) c.loop-one-test.false)
    ∙ c.loop-one.invariant chosen computes tile t w
