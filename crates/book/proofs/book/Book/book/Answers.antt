use Rattle.std.proofs.Common.{◌≡◌, true, ap, ◌∙◌, subst, ⊎_elim}
use Rattle.std.proofs.lemmas.Bool.{cond-true, lt-ltb}
use Rattle.ledger.specs.Entries.{entries}
use Rattle.ledger.specs.Standings.{requests}
use Rattle.ledger.specs.declared.standing.Standing.{Standing}
use Rattle.ledger.proofs.Requests.{requests-append}
use Rattle.reservation.specs.Requests.{in_range, last_tick_of}
use Rattle.book.proofs.book.Book.book.Goals as goal

-- what stands after the push stood before, or is the new one, which its footprint vouches for
pub invariant_of-self : goal.invariant_of-self
invariant_of-self g c =
    let b = c.args.self.now in
    let f = c.args.footprint.now in
    let one : Standing = record { request = f.request; last_tick = c.last_tick.result } in
    let ranged = subst (λ j. in_range j f.request ≡ true) c.requires.one f.ranged in
    let ends = subst (λ j. one.last_tick ≡ last_tick_of j f.request) c.requires.one c.last_tick.ensures.answer in
    record {
      early = b.early;
      ranged = λ s h. ⊎_elim (b.ranged s) (λ (e : one ≡ s). subst (λ s. in_range b.junction s.request ≡ true) e ranged) (c.push.ensures.stood s h);
      ends = λ s h. ⊎_elim (b.ends s) (λ (e : one ≡ s). subst (λ s. s.last_tick ≡ last_tick_of b.junction s.request) e ends) (c.push.ensures.stood s h);
    }

pub returns : goal.returns
returns g c =
    let after = c.push.ensures.after ∙ cond-true _ _ _ (lt-ltb _ _ c.requires.room) in
    let ledger = ap requests after ∙ requests-append (entries c.args.self.now.ledger) _ in
    cc
