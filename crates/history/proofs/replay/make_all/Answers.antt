use Rattle.std.proofs.Common.{◌++◌, ◌∷◌, [], refl, ◌∙◌, sym, append-nil, append_assoc, arith}
use Rattle.history.proofs.Playing.{playing_none, playing_more}
use Rattle.history.proofs.replay.make_all.Goals as goal

pub loop-call-init : goal.loop-call-init
loop-call-init g c = (omega arith, refl, ([], sym (append-nil _), playing_none _ _ _))

pub loop-call-preserved : goal.loop-call-preserved
loop-call-preserved g c =
    let given = c.loop-call.invariant.2.0 in (
      omega (arith, c.push_reserved.ensures.len, c.loop-call.invariant.0),
      c.push_reserved.ensures.capacity ∙ c.loop-call.invariant.1,
      (
        given ++ c.apply.result ∷ [],
        grind (arith, append_assoc, c.push_reserved.ensures.items, c.loop-call.invariant.2.1),
        playing_more _ _ _ c.loop-call.call-index given _ _ _ _ c.loop-call-test.true c.loop-call.invariant.2.2 c.apply.ensures.made,
      ),
    )
