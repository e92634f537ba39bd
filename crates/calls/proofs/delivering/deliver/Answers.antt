use Rattle.std.proofs.Common.{◌≤◌, arith}
use Rattle.std.proofs.lemmas.Bool.{both_ways}
use Rattle.message.specs.Rows.{vehicle_of}
use Rattle.run.specs.Manager.{outcome}
use Rattle.run.specs.Worlds.{conduct, stage}
use Rattle.lent.proofs.Later.{row_read}
use Rattle.calls.proofs.Delivery.{brought, none_there}
use Rattle.calls.proofs.delivering.deliver.Goals as goal

pub returns-then-not-has_arrived : goal.returns-then-not-has_arrived
returns-then-not-has_arrived g c =
    let m = g.P.Policy in
    let k = conduct m.view m.asks m.releases m.advances in
    let s = stage c.args.run.now c.args.vehicles.now c.args.mail.now c.args.policy.now in
    let r = c.in_ok-sent.ensures.answer in
    let x = c.in_ok-sent.sent.row in
    let rest = c.take_out.ensures.rest in
    let none : 1 ≤ vehicle_of x → vehicle_of x ≤ s.run.vehicles → ⊥ = λ lo hi.
    both_ways _ c.if-not-has_arrived.true
    (c.has_arrived.ensures.answer.1 (omega (arith, c.vehicle-vehicle.ensures.answer, lo), omega (arith, c.vehicle-vehicle.ensures.answer, hi))) in
    record {
      answer = none_there k s c.args.message _ r _ rest.junction rest.clock rest.vehicles _ none c.take_out.ensures.mail;
    }

pub returns : goal.returns
returns g c =
    let m = g.P.Policy in
    let k = conduct m.view m.asks m.releases m.advances in
    let s = stage c.args.run.now c.args.vehicles.now c.args.mail.now c.args.policy.now in
    let r = c.in_ok-sent.ensures.answer in
    let at = c.has_arrived.ensures.answer.0 c.if-not-has_arrived.false in
    let rest = c.take_out-2.ensures.rest in
    let o = outcome c.act-reply.result.row c.act-reply.new.policy c.act-reply.result.reply in
    record {
      answer = brought k s c.args.message _ r _ rest.junction rest.clock rest.vehicles _
          g.met.P.Policy.records g.met.P.Policy.removes o c.take_out-2.ensures.mail
          c.vehicle-vehicle.result c.vehicle-vehicle.ensures.answer at.0 at.1 _ (row_read s r.by.0 _ _ at.0 at.1) c.act-reply.ensures.answer;
    }
