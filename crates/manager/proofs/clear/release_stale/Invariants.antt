use Rattle.std.proofs.Common.{◌+◌, ◌-◌, length}
use Rattle.run.specs.Worlds.{conduct}
use Rattle.manager.proofs.Turns.{Clearing}
use Rattle.manager.proofs.clear.release_stale.Given as goal

abbrev pub invariant-loop-request : goal.invariant-loop-request
invariant-loop-request g l =
    let policy = g.P.Policy in
    Clearing (conduct policy.view policy.asks policy.releases policy.advances) l.vehicle l.base l.initial.policy l.policy l.i

abbrev pub decreases-loop-request : goal.decreases-loop-request
decreases-loop-request g l = length (g.P.Policy.view l.policy).ledger + 1 - l.i
