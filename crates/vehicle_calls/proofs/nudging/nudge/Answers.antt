use Rattle.std.proofs.Common.{◌≡◌, Err, sym, ap, ◌∙◌, subst, arith, w32, SFits, rules}
use Rattle.std.proofs.lemmas.Int.{to_z-of_z}
use Rattle.std.proofs.lemmas.Result.{err_from_is_err_and}
use Rattle.refusal.specs.declared.kinds.CallFault.TheVariants as fault
use Rattle.run.specs.Calls.{Nudges}
use Rattle.run.specs.Worlds.{conduct, stage}
use Rattle.vehicle_calls.proofs.Vehicles.{nudges_done, nudges_late}
use Rattle.vehicle_calls.proofs.nudging.nudge.Goals as goal

pub returns-in_err-lag : goal.returns-in_err-lag
returns-in_err-lag g c =
    let m = g.P.Policy in
    let k = conduct m.view m.asks m.releases m.advances in
    let s = stage c.args.run.now c.args.vehicles.now c.args.mail.now c.args.policy.now in
    let by : SFits w32 c.args.by = search rules in
    let lag : SFits w32 c.in-Crossing.lag = search rules in
    let one = simp to_z-of_z at (c.is_one_tick.ensures.0 c.if-not-is_one_tick.false) in
    let p = err_from_is_err_and c.from_residual-in_err-lag.result c.from_residual-in_err-lag.ensures.1 in
    let value = rw c.in_err-lag.ensures.ok_part at c.in_err-lag.ensures.value in
    let late : c.in_err-lag.field-0.0 ≡ fault.Lag = cc in
    let beyond = rw c.in_err-lag.ensures.ok_part at c.moved_lag.ensures in
    record {
      answer = subst (Nudges k s s c.args.vehicle c.args.by) (sym (p.1 ∙ ap Err (p.2 ∙ late)))
          (nudges_late k s c.args.vehicle _ c.in_ok-row.ensures.answer c.args.by _ _ _ c.in-Crossing.is one (λ same. omega (arith, same))
          (simp to_z-of_z at beyond));
    }

pub returns : goal.returns
returns g c =
    let m = g.P.Policy in
    let k = conduct m.view m.asks m.releases m.advances in
    let s = stage c.args.run.now c.args.vehicles.now c.args.mail.now c.args.policy.now in
    let by : SFits w32 c.args.by = search rules in
    let lag : SFits w32 c.in-Crossing.lag = search rules in
    let one = simp to_z-of_z at (c.is_one_tick.ensures.0 c.if-not-is_one_tick.false) in
    let new : SFits w32 c.in_ok-lag.lag = search rules in
    let told = rw c.in_ok-lag.ensures.ok_part at c.moved_lag.ensures in
    let moved = simp to_z-of_z at told in
    record {
      answer = nudges_done k s c.args.vehicle _ c.in_ok-row.ensures.answer c.args.by _ _ _ c.in-Crossing.is one (λ same. omega (arith, same))
          _ (to_z-of_z w32 _ new ∙ moved.0) moved.1;
    }
