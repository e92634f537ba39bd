use Rattle.std.proofs.Common.{sym, refl, ◌∙◌, arith, rules}
use Rattle.std.proofs.lemmas.Bool.{false≢true}
use Rattle.manager.proofs.Turns.{begins, ends, passes, releases_one, shorter, within}
use Rattle.manager.proofs.clear.release_stale.Goals as goal

-- the place at which a turn looks lies within the ledger, which has at most 64 requests
pub overflow_add-i : goal.overflow_add-i
overflow_add-i g c =
    let p = c.loop-request.policy in
    let in' = within _ _ _ c.args.policy.now p c.loop-request.i c.loop-request.invariant c.in-Some.request (sym c.at.ensures ∙ c.in-Some.is) in
    let few = g.met.P.Policy.few p in
    search rules

pub loop-request-init : goal.loop-request-init
loop-request-init g c = begins _ _ _ c.args.policy.now

pub loop-request-smaller : goal.loop-request-smaller
loop-request-smaller g c =
    let p = c.loop-request.policy in
    let in' = within _ _ _ c.args.policy.now p c.loop-request.i c.loop-request.invariant c.in-Some.request (sym c.at.ensures ∙ c.in-Some.is) in
    omega arith

pub loop-request-preserved : goal.loop-request-preserved
loop-request-preserved g c =
    passes _ _ _ c.args.policy.now c.loop-request.policy c.loop-request.i c.loop-request.invariant c.in-Some.request (sym c.at.ensures ∙ c.in-Some.is)
    (λ stale. false≢true (c.if-is_stale.ensures.1 stale))

pub loop-request-smaller-then-is_stale : goal.loop-request-smaller-then-is_stale
loop-request-smaller-then-is_stale g c =
    let p = c.loop-request.policy in
    let here = sym c.at.ensures ∙ c.in-Some.is in
    let law = g.met.P.Policy in
    let less = shorter _ _ _ c.args.policy.now p c.loop-request.i c.loop-request.invariant c.in-Some.request here (c.if-is_stale.ensures.0 refl)
    c.name.result c.name.ensures.answer c.release.result c.release.new.self c.release.ensures
    (law.finds p c.name.result c.release.result c.release.new.self c.release.ensures)
    (law.removes p c.name.result c.release.result c.release.new.self c.release.ensures) in
    let in' = within _ _ _ c.args.policy.now p c.loop-request.i c.loop-request.invariant c.in-Some.request here in
    omega arith

pub loop-request-preserved-then-is_stale : goal.loop-request-preserved-then-is_stale
loop-request-preserved-then-is_stale g c =
    let p = c.loop-request.policy in
    let law = g.met.P.Policy in
    releases_one _ _ _ c.args.policy.now p c.loop-request.i c.loop-request.invariant c.in-Some.request (sym c.at.ensures ∙ c.in-Some.is) (c.if-is_stale.ensures.0 refl)
    c.name.result c.name.ensures.answer c.release.result c.release.new.self c.release.ensures
    (law.finds p c.name.result c.release.result c.release.new.self c.release.ensures)
    (law.removes p c.name.result c.release.result c.release.new.self c.release.ensures)

pub returns : goal.returns
returns g c =
    ends _ _ _ c.args.policy.now c.loop-request.policy c.loop-request.i c.loop-request.invariant (sym c.at.ensures ∙ c.in_default.is)
