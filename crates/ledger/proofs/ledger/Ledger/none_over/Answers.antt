use Rattle.ledger.proofs.Soonest.{none_over}
use Rattle.std.proofs.lemmas.Bool.{leb-true}
use Rattle.ledger.specs.Entries.{entries}
use Rattle.ledger.proofs.ledger.Ledger.none_over.Goals as goal

pub returns : goal.returns
returns c e =
    let ledger = c.args.self.now in
    none_over ledger.soonest c.args.clock (entries ledger) ledger.sooner (leb-true _ _ e)
