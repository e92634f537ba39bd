use Rattle.std.proofs.Common.{refl}
use Rattle.run.specs.Ticks.{enters, finishes}
use Rattle.ticking.proofs.states.state_after.Goals as goal

pub returns-in-Some : goal.returns-in-Some
returns-in-Some c = λ f. enters c.in-Some.held c.in-Some.ensures refl

pub returns-then-is_ending : goal.returns-then-is_ending
returns-then-is_ending c = λ f. let e = (c.is_ending.ensures f).0 c.if-is_ending.true in finishes e.0 e.1 e.2 e.3 e.4 refl
