use Rattle.std.proofs.Common.{◌∙◌}
use Rattle.reservation.specs.Cells.{locks, paths_meet, spans_overlap}
use Rattle.reservation.proofs.Laws.{one_junction}
use Rattle.reservation.proofs.Meet.{failed, locking, passages_meet, passed, spans_told}
use Rattle.reservation.proofs.passage.Passage.locks.Goals as goal

pub returns-then-meets : goal.returns-then-meets
unfolding locks
returns-then-meets c =
    let p = c.args.self.now in
    let q = c.args.other.now in
    let one = one_junction p.junction q.junction c.requires in
    locking p.junction p.request q.request _
    (passed (paths_meet p.junction p.request q.request) (spans_overlap p.junction p.request q.request) _
    (c.if-meets.ensures.answer ∙ passages_meet p q one) (c.overlaps.ensures ∙ spans_told p q one))

pub returns-else-meets : goal.returns-else-meets
unfolding locks
returns-else-meets c =
    let p = c.args.self.now in
    let q = c.args.other.now in
    let one = one_junction p.junction q.junction c.requires in
    locking p.junction p.request q.request _
    (failed (paths_meet p.junction p.request q.request) (spans_overlap p.junction p.request q.request) _
    (c.if-meets.ensures.answer ∙ passages_meet p q one) (c.meets.ensures.answer ∙ passages_meet p q one))
