use Rattle.manager.proofs.Judging.{change_denied, change_judged, request_judged}
use Rattle.manager.proofs.act.decide.Goals as goal

pub returns-in-Request-3 : goal.returns-in-Request-3
returns-in-Request-3 g c =
    let arm = c.in-Request-3 in
    request_judged _ g.met.P.Policy.removes _ _ c.args.message _ arm.vehicle arm.number arm.entry arm.distance (cc) _ c.request_of-request.ensures c.judge.ensures

pub returns-in-Change : goal.returns-in-Change
returns-in-Change g c =
    let arm = c.in-Change in
    change_denied _ g.met.P.Policy.removes _ _ c.args.message _ arm.vehicle arm.number arm.entry arm.distance arm.base (cc) c.deny.ensures

pub returns-in-Change-2 : goal.returns-in-Change-2
returns-in-Change-2 g c =
    let arm = c.in-Change-2 in
    change_judged _ g.met.P.Policy.removes _ _ c.args.message _ arm.vehicle arm.number arm.entry arm.distance arm.base (cc) _ c.request_of-request-in-Change-2.ensures c.judge-in-Change-2.ensures
