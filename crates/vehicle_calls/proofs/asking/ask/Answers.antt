use Rattle.std.proofs.Common.{◌≤◌, refl, rules}
use Rattle.vehicle.proofs.Parts.{good_parts}
use Rattle.run.specs.Worlds.{conduct, stage}
use Rattle.vehicle_calls.proofs.Vehicles.{asks_done}
use Rattle.vehicle_calls.proofs.asking.ask.Goals as goal

pub overflow_add-number : goal.overflow_add-number
overflow_add-number g c =
    let used : c.in_ok-asking.asking.row.used ≤ 1000 = (good_parts _ _ c.in_ok-asking.asking.ok).used in
    search rules

pub returns : goal.returns
returns g c =
    let m = g.P.Policy in
    let k = conduct m.view m.asks m.releases m.advances in
    let s = stage c.args.run.now c.args.vehicles.now c.args.mail.now c.args.policy.now in
    let may = c.may_ask.ensures.0 c.if-not-may_ask.false in
    let lead = c.is_lead.ensures.0 c.if-not-is_lead.false in
    record {
      answer = asks_done k s c.args.vehicle _ c.in_ok-asking.ensures.answer _ refl refl refl c.in_ok-run.ensures.by.1.1.1.1.0 _ c.args.entry c.in_ok-run.ensures may lead;
    }
