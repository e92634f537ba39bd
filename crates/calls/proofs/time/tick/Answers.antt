use Rattle.std.proofs.Common.{Err, sym, refl, ap, ◌∙◌, subst}
use Rattle.std.proofs.lemmas.Result.{err_from_is_err_and}
use Rattle.run.specs.Calls.{Ticks}
use Rattle.run.specs.Worlds.{conduct, stage}
use Rattle.calls.proofs.Passing.{ended, passed}
use Rattle.calls.proofs.time.tick.Goals as goal

pub returns-in_err-go_on : goal.returns-in_err-go_on
returns-in_err-go_on g c =
    let m = g.P.Policy in
    let k = conduct m.view m.asks m.releases m.advances in
    let s = stage c.args.run.now c.args.vehicles.now c.args.mail.now c.args.policy.now in
    let r = c.in_ok-ready.ensures.answer.by in
    let t = c.go_on.new.policy in
    let p = err_from_is_err_and c.from_residual-in_err-go_on.result c.from_residual-in_err-go_on.ensures.1 in
    let e = c.in_err-go_on.ensures in
    record {
      answer = subst (Ticks k s (stage c.go_on.new.run s.vehicles s.mail t)) (sym (p.1 ∙ ap Err p.2))
          (ended k s r.0 r.1.0 g.met.P.Policy.passes _ t e.policy (g.met.P.Policy.ends s.policy _ t e.policy) _ e.run);
    }

pub returns : goal.returns
returns g c =
    let m = g.P.Policy in
    let k = conduct m.view m.asks m.releases m.advances in
    let s = stage c.args.run.now c.args.vehicles.now c.args.mail.now c.args.policy.now in
    let r = c.in_ok-ready.ensures.answer.by in
    let t = c.go_on.new.policy in
    let e = c.in_ok-go_on.ensures in
    record {
      answer = passed k s r.0 r.1.0 g.met.P.Policy.passes t e.policy c.go_on.new.run _ e.run
          (record { junction = refl; clock = refl; vehicles = refl }) c.turn_all-run.new.vehicles _ _ c.turn_all-run.ensures.answer refl;
    }
