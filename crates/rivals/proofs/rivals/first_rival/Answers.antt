use Rattle.std.proofs.Common.{◌≡◌, subst, sym, rules}
use Rattle.std.specs.Option.{option_map}
use Rattle.std.proofs.lemmas.Iterator.{YieldsList-from_slice, first_from_find}
use Rattle.ledger.specs.Standings.{requests}
use Rattle.reservation.specs.Requests.{name_of}
use Rattle.rivals.specs.Rivals.{Rival, Sought}
use Rattle.rivals.proofs.Search.{Fails, Passes, sought_found}
use Rattle.rivals.proofs.rivals.first_rival.Goals as goal

pub returns : goal.returns
returns g c =
    let P = Rival g.C.Clashes.clash c.args.footprint.now.junction c.args.footprint.now.request in
    let xs = c.args.standing.now in
    let name : c.map.result ≡ option_map (λ s. name_of s.now.request) c.find.result = search rules in
    subst (Sought P (requests xs)) (sym name) (sought_found P xs c.find.result
    (first_from_find _ _ c.find.result (Passes P xs) (Fails P xs) c.find.ensures.ran (YieldsList-from_slice xs cc) (λ x q k. search rules) (λ x q k. search rules)))
