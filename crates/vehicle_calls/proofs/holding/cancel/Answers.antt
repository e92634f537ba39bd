use Rattle.std.proofs.Common.{sym, refl, ◌∙◌}
use Rattle.run.specs.Worlds.{conduct, stage}
use Rattle.vehicle_calls.proofs.Vehicles.{cancels_done}
use Rattle.vehicle_calls.proofs.holding.cancel.Goals as goal

pub returns : goal.returns
returns g c =
    let m = g.P.Policy in
    let k = conduct m.view m.asks m.releases m.advances in
    let s = stage c.args.run.now c.args.vehicles.now c.args.mail.now c.args.policy.now in
    let sent = c.in_ok-run.ensures.answer.by in
    record {
      answer = cancels_done k s c.args.vehicle _ c.in_ok-row.ensures.answer _ refl refl refl sent.1.0 _ c.in_ok-held.held (sym c.in_ok-held.ensures.ok_part ∙ c.kept_claim.ensures) sent.0 sent.1.1;
    }
