use Rattle.std.proofs.Common.{◌≤◌, sym, refl, ◌∙◌, rules}
use Rattle.vehicle.proofs.Parts.{good_parts}
use Rattle.run.specs.Worlds.{conduct, stage}
use Rattle.vehicle_calls.proofs.Vehicles.{changes_done}
use Rattle.vehicle_calls.proofs.holding.change.Goals as goal

pub overflow_add-number : goal.overflow_add-number
overflow_add-number g c =
    let used : c.in_ok-changing.changing.row.used ≤ 1000 = (good_parts _ _ c.in_ok-changing.changing.ok).used in
    search rules

pub returns : goal.returns
returns g c =
    let m = g.P.Policy in
    let k = conduct m.view m.asks m.releases m.advances in
    let s = stage c.args.run.now c.args.vehicles.now c.args.mail.now c.args.policy.now in
    record {
      answer = changes_done k s c.args.vehicle _ c.in_ok-changing.ensures.answer _ refl refl refl c.in_ok-run.ensures.by.1.1.1.1.0 _ c.args.entry _ c.in_ok-run.ensures (sym c.in_ok-held.ensures.ok_part ∙ c.kept_claim.ensures);
    }
