use Rattle.manager.proofs.Unique.{Lawful, once, only}
use Rattle.manager.proofs.act.act.Goals as goal

pub returns-clause-only : goal.returns-clause-only
returns-clause-only g c =
    let policy = g.P.Policy in
    let met = g.met.P.Policy in
    let law : Lawful _ policy.gate policy.clash = record { answers = met.answers; records = met.records; finds = met.finds; removes = met.removes } in
    λ steady x fits. only _ policy.gate policy.clash law c.args.policy.now c.args.row c.args.message x _ fits c.decide.ensures steady

pub returns-clause-once : goal.returns-clause-once
returns-clause-once g c =
    let policy = g.P.Policy in
    let met = g.met.P.Policy in
    let law : Lawful _ policy.gate policy.clash = record { answers = met.answers; records = met.records; finds = met.finds; removes = met.removes } in
    λ fixed x fits. once _ policy.gate policy.clash law c.args.policy.now c.args.row c.args.message x _ fits c.decide.ensures fixed
