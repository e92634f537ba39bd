use Rattle.std.proofs.Common.{is_some, sym, refl, ap, ◌∙◌}
use Rattle.ledger.specs.Entries.{entries}
use Rattle.ledger.specs.Standings.{requests}
use Rattle.ledger.proofs.Firsts.{first_is_found}
use Rattle.ledger.proofs.Requests.{requests-other}
use Rattle.policy.specs.Views.{with_ledger}
use Rattle.book.specs.Booked.{view_of}
use Rattle.book.proofs.Stand.{none_of, same_book}
use Rattle.book.proofs.book.Book.take_out.Goals as goal

pub returns : goal.returns
returns g c =
    let b = c.args.self.now in
    let n = c.args.name in
    let xs = entries b.ledger in
    record {
      answer = c.is_some.ensures ∙ ap is_some c.remove.ensures.answer ∙ first_is_found n xs;
      after = ap (with_ledger (view_of b)) (ap requests c.remove.ensures.after ∙ requests-other n xs);
      spares = λ no. same_book _ b refl refl (c.remove.ensures.spared (none_of c.remove.result (sym c.is_some.ensures ∙ no))) refl;
    }
