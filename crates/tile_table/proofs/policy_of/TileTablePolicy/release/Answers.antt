use Rattle.std.proofs.Common.{◌≡◌, false, is_some, sym, refl, ap, ◌∙◌}
use Rattle.policy.specs.Views.{found, with_ledger}
use Rattle.ledger.specs.Entries.{entries}
use Rattle.ledger.proofs.Firsts.{not_found}
use Rattle.tile_table.specs.Tables.{view_of}
use Rattle.tile_table.proofs.policy_of.TileTablePolicy.release.Goals as goal

pub returns-then-is_none : goal.returns-then-is_none
returns-then-is_none c =
    let s = c.args.self.now in
    let absent : is_some (found c.args.name (view_of s).ledger) ≡ false = ap is_some (sym c.find.ensures.found) ∙ c.if-is_none.ensures in
    record { answer = sym absent; after = ap (with_ledger (view_of s)) (sym (not_found c.args.name (entries s.ledger) absent)); spares = λ _. refl }
