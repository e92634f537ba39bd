use Rattle.ticking.specs.Turning.{Fit}
use Rattle.ticking.proofs.Course.{Course}
use Rattle.ticking.proofs.turning.turn_all.Given as goal

abbrev pub invariant-loop-i : goal.invariant-loop-i
invariant-loop-i l = Fit l.now.junction l.initial.vehicles l.initial.mail l.sent → Course l.now.junction l.now.clock l.initial.vehicles l.vehicles l.initial.mail l.mail l.lanes.behind l.sent l.count l.i
