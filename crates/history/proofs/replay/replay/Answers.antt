use Rattle.std.proofs.Common.{◌++◌, sym, ap, ◌∙◌, subst}
use Rattle.run.specs.Worlds.{conduct, stage}
use Rattle.invariant.specs.Promises.{Ran}
use Rattle.history.proofs.Playing.{laws_shown, opened_sound, stays_sound}
use Rattle.history.proofs.replay.replay.Goals as goal

pub returns-clause-answer : goal.returns-clause-answer
returns-clause-answer g c =
    let m = g.P.Policy in
    let (given, is, ran) = c.make_all.ensures.ran in
    record {
      run = c.in_ok-run.run';
      opens = c.in_ok-run.ensures.answer;
      ran = subst (λ answers. Ran (conduct m.view m.asks m.releases m.advances)
          (stage c.in_ok-run.run' c.args.vehicles.now c.args.mail.now c.args.policy.now) c.args.calls.now answers
          (stage c.make_all.new.run c.make_all.new.vehicles c.make_all.new.mail c.make_all.new.policy))
          (sym (is ∙ ap (λ none. none ++ given) c.in_ok-answers.ensures.items)) ran;
    }

pub returns-clause-sound : goal.returns-clause-sound
returns-clause-sound g c =
    let laws = g.met.P.Policy in
    opened_sound _ _ _ _ _ _ _ c.in_ok-run.ensures.answer
    (stays_sound _ _ (laws_shown g.P.Policy.gate laws.symmetric laws.covers laws.answers laws.records laws.removes laws.passes) _ laws.told _ _ _ _ c.make_all.ensures.ran.2)
