use Rattle.std.proofs.Common.{vec_items, subst}
use Rattle.std.specs.List.{ContainsAt as Has}
use Rattle.std.proofs.ByRecursion.{has_push_cases}
use Rattle.ledger.proofs.Soonest.{sooner_push}
use Rattle.ledger.proofs.scan.append.Goals as goal

pub returns-clause-stood : goal.returns-clause-stood
returns-clause-stood c s has = has_push_cases _ c.args.one s (subst (λ xs. Has xs s) c.push_reserved.ensures.items has)

pub returns-clause-sooner : goal.returns-clause-sooner
returns-clause-sooner c = rw (c.push_reserved.ensures.items, c.min.ensures) (sooner_push c.args.soonest (vec_items c.args.standing.now) c.args.one c.requires.sooner)
