-- The calls so far were made, and there is room for the answers of the others. Assumes nothing.
use Rattle.std.proofs.Common.{◌≡◌, ◌+◌, ◌++◌, List, vec_items, vec_len, vec_capacity}
use Rattle.run.specs.Calls.{Answer}
use Rattle.run.specs.Worlds.{conduct, stage}
use Rattle.history.proofs.Playing.{Playing}
use Rattle.history.proofs.replay.make_all.Given as goal

abbrev pub invariant-loop-call : goal.invariant-loop-call
invariant-loop-call g l =
    let m = g.P.Policy in
    (vec_len l.answers ≡ vec_len l.initial.answers + l.call-index) × (vec_capacity l.answers ≡ vec_capacity l.initial.answers)
    × ((given : List Answer) × (vec_items l.answers ≡ vec_items l.initial.answers ++ given)
    × Playing (conduct m.view m.asks m.releases m.advances)
    (stage l.initial.run l.initial.vehicles l.initial.mail l.initial.policy) l.calls l.call-index given
    (stage l.run l.vehicles l.mail l.policy))
