-- What a ledger holds. Assumes nothing.
use Rattle.std.specs.Prelude.{List, vec_items}
use Rattle.ledger.specs.declared.ledger.Ledger.{Ledger}
use Rattle.ledger.specs.declared.standing.Standing.{Standing}

-- in the order granted
abbrev pub entries : Ledger → List Standing
entries l = vec_items l.standing
