use Rattle.std.proofs.Common.{◌≡◌, List, filter, Some, None, Option, sym, ◌∙◌, rules}
use Rattle.std.specs.Option.{IfNone}
use Rattle.std.proofs.lemmas.Iterator.{YieldsList-from_slice}
use Rattle.std.proofs.lemmas.Iterator.Search.{find_from_yields_List}
use Rattle.refusal.specs.declared.kinds.Name.{Name}
use Rattle.policy.specs.Views.{named}
use Rattle.ledger.specs.declared.standing.Standing.{Standing}
use Rattle.ledger.specs.Standings.{first_of_name, other}
use Rattle.ledger.proofs.Firsts.{none_named}
use Rattle.ledger.proofs.scan.first_named.Goals as goal

absent : (n : Name) (xs : List Standing) (o : Option Standing) → o ≡ first_of_name n xs → IfNone o (filter (other n) xs ≡ xs)
absent n xs None is = none_named n xs (sym is)
absent n xs (Some s) is = tt

pub returns : goal.returns
returns c =
    let first : c.copied.result ≡ first_of_name c.args.name c.args.standing.now =
    c.copied.ensures ∙ find_from_yields_List (λ s. named c.args.name s.request) _ _ c.find.result c.find.ensures.ran (YieldsList-from_slice c.args.standing.now cc) (λ x b q k. search rules) in
    record { first = first; absent = absent c.args.name c.args.standing.now c.copied.result first }
