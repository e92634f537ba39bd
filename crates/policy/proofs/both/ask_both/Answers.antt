use Rattle.std.proofs.Common.{rules}
use Rattle.policy.proofs.Once.{one_answer_of_both}
use Rattle.policy.proofs.both.ask_both.Goals as goal

pub returns-clause-alike : goal.returns-clause-alike
returns-clause-alike g c =
    let policy = g.P.Policy in
    let alike = one_answer_of_both policy.view policy.gate policy.clash policy.asks g.met.P.Policy.answers in
    search rules
