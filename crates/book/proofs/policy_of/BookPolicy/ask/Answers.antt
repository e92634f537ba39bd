use Rattle.std.proofs.Common.{◌≡◌, Err, sym, refl, subst, rules}
use Rattle.policy.specs.Calls.{Asks}
use Rattle.book.specs.Booked.{view_of}
use Rattle.book.proofs.policy_of.BookPolicy.ask.Goals as goal

-- the denial goes up as it is, and nothing has changed
pub returns-in_err-footprint : goal.returns-in_err-footprint
returns-in_err-footprint g c =
    let b = c.args.self.now in
    let denied : c.from_residual.result ≡ Err c.in_err-footprint.field-0.0 = search rules in
    subst (λ a. Asks view_of g.C.Clashes.clash b c.args.request.now a b) (sym denied)
    record { answer = c.in_err-footprint.ensures; after = refl; spares = λ d e. refl }
