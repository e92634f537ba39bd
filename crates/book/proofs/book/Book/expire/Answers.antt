use Rattle.std.proofs.Common.{ap, ◌∙◌}
use Rattle.ledger.specs.Entries.{entries}
use Rattle.ledger.specs.Standings.{requests}
use Rattle.ledger.proofs.Requests.{requests_lasting}
use Rattle.reservation.specs.Requests.{last_tick_of}
use Rattle.book.proofs.book.Book.expire.Goals as goal

pub returns : goal.returns
returns g c =
    let b = c.args.self.now in
    let ledger = ap requests c.expire.ensures.after ∙ requests_lasting (last_tick_of b.junction) c.args.clock (entries b.ledger) b.ends in
    cc
