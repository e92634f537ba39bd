use Rattle.invariant.specs.Promises.{none}
use Rattle.history.proofs.Playing.{laws_shown, stays_sound}
use Rattle.history.proofs.replay.go_on.Goals as goal

pub returns-in_err-answers-clause-sound : goal.returns-in_err-answers-clause-sound
returns-in_err-answers-clause-sound g c =
    let laws = g.met.P.Policy in
    stays_sound _ _ (laws_shown g.P.Policy.gate laws.symmetric laws.covers laws.answers laws.records laws.removes laws.passes) _ laws.told _ _ _ _ (none _)

pub returns-clause-sound : goal.returns-clause-sound
returns-clause-sound g c =
    let laws = g.met.P.Policy in
    stays_sound _ _ (laws_shown g.P.Policy.gate laws.symmetric laws.covers laws.answers laws.records laws.removes laws.passes) _ laws.told _ _ _ _ c.make_all.ensures.ran.2
