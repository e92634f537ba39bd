use Rattle.std.proofs.Common.{◌≡◌, ◌+◌, ◌<◌, length, arith}
use Rattle.std.proofs.lemmas.List.{get_or_default}
use Rattle.ticking.proofs.Course.{course_all, course_more, course_none}
use Rattle.ticking.proofs.turning.turn_all.Goals as goal
use Rattle.ticking.proofs.turning.turn_all.Goals.{then-pass, else-pass}

pub loop-i-init : goal.loop-i-init
loop-i-init c = λ fit. course_none c.args.now.junction c.args.now.clock c.args.vehicles.now c.args.mail.now c.args.sent fit c.new-lanes.result.behind c.new-lanes.ensures

pub loop-i-preserved : goal.loop-i-preserved
loop-i-preserved c = λ fit.
    let so_far = c.loop-i.invariant fit in
    let within : c.loop-i.i < length c.loop-i.vehicles = omega arith in
    let here = get_or_default c.loop-i.vehicles c.loop-i.i _ _ within in
    course_more c.args.now.junction c.args.now.clock c.args.vehicles.now c.args.mail.now c.args.sent fit c.loop-i.vehicles c.loop-i.mail c.loop-i.lanes.behind c.loop-i.count c.loop-i.i so_far
    within c.loop-i.auto.vehicles c.loop-i.lanes.full _ c.pass.new.row here c.pass.new.lanes.behind c.pass.result c.pass.ensures
    c.loop-i.auto.mail c.if-pass.mail c.if-pass.count
    (elim c.if-pass.branch [
      | then-pass w ↦ (
          let number : w.unwrap_or-number.result ≡ c.loop-i.i + 1 = grind (arith, w.try_from.ensures, fit.few) in
          simp (w.if-pass.true, w.mail-is, w.count-is) (rw number at w.post_done-count.ensures))
      | else-pass w ↦ simp w.if-pass.false (w.mail-is, w.count-is)
    ])

pub returns : goal.returns
returns c = record { answer = λ fit. course_all c.args.now.junction c.args.now.clock c.args.vehicles.now c.args.mail.now c.args.sent fit c.loop-i.vehicles c.loop-i.mail c.loop-i.lanes.behind c.loop-i.count c.loop-i.i (c.loop-i.invariant fit) c.loop-i.auto.vehicles (omega arith) }
