use Rattle.std.proofs.Common.{◌∙◌, ap, subst}
use Rattle.std.proofs.lemmas.Fn.{filter_same}
use Rattle.ledger.specs.Standings.{Sooner}
use Rattle.ledger.proofs.Kept.{has_retained}
use Rattle.ledger.proofs.ledger.Ledger.keep.Goals as goal

pub invariant_of-self-clause-sooner : goal.invariant_of-self-clause-sooner
invariant_of-self-clause-sooner g c s has = c.args.self.now.sooner s (has_retained _ _ _ _ c.retain.ensures.filtered s has)

pub invariant_of-self-2-clause-sooner : goal.invariant_of-self-2-clause-sooner
invariant_of-self-2-clause-sooner g c = subst (Sooner c.soonest_of-self.result) c.as_slice.ensures.entries c.soonest_of-self.ensures

pub returns-clause-kept : goal.returns-clause-kept
returns-clause-kept g c test computes = filter_same _ test _
    (λ x b f' k. (computes k.shown b ((g.met.F.FnMut.1.post_iff _ _ _).1 (f', k.called)) ∙ ap test k.shows, g.met.F.Fn.1.step_stays _ _ _ _ k.called)) _ _ c.retain.ensures.filtered

pub returns-clause-stood : goal.returns-clause-stood
returns-clause-stood g c s has = has_retained _ _ _ _ c.retain.ensures.filtered s has
