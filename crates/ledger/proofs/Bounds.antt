-- How many may stand. Assumes nothing.
use Rattle.std.proofs.Common.{◌≤◌, length, arith}
use Rattle.ledger.specs.declared.ledger.Ledger.{Ledger}
use Rattle.ledger.specs.Entries.{entries}
use Rattle.ledger.specs.Standings.{requests}
use Rattle.ledger.proofs.Requests.{length-requests}

pub few_entries : (l : Ledger) → length (entries l) ≤ 64
few_entries l = omega (arith, l.few, l.standing.ok.0)

pub few_requests : (l : Ledger) → length (requests (entries l)) ≤ 64
few_requests l = rw length-requests (few_entries l)
