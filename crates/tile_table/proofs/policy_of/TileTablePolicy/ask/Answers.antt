use Rattle.std.proofs.Common.{◌≡◌, Err, sym, refl, subst, rules}
use Rattle.policy.specs.Calls.{Asks}
use Rattle.rivals.specs.Rivals.{CellClash}
use Rattle.tile_table.specs.Tables.{view_of}
use Rattle.tile_table.proofs.policy_of.TileTablePolicy.ask.Goals as goal

-- the denial goes up as it is, and nothing has changed
pub returns-in_err-footprint : goal.returns-in_err-footprint
returns-in_err-footprint c =
    let s = c.args.self.now in
    let denied : c.from_residual.result ≡ Err c.in_err-footprint.field-0.0 = search rules in
    subst (λ a. Asks view_of CellClash s c.args.request.now a s) (sym denied)
    record { answer = c.in_err-footprint.ensures; after = refl; spares = λ d e. refl }
