use Rattle.std.proofs.Common.{◌≡◌, Err, sym, subst, rules}
use Rattle.refusal.specs.declared.kinds.Denial.TheVariants.{Because}
use Rattle.rivals.specs.Screening.{Screens, told}
use Rattle.rivals.proofs.Screens.{screens_past, screens_stopped}
use Rattle.rivals.proofs.screening.screened.Goals as goal

pub returns-in_err-stop : goal.returns-in_err-stop
returns-in_err-stop c =
    let w = told c.args.junction c.args.clock c.args.ledger.now in
    let r = c.args.request.now in
    let g = c.in_err-stop.field-0.0 in
    let denied : c.from_residual.result ≡ Err (Because g) = search rules in
    record { answer = subst (Screens w r) (sym denied) (screens_stopped w r g c.in_err-stop.ensures) }

pub returns : goal.returns
returns c =
    let w = told c.args.junction c.args.clock c.args.ledger.now in
    let r = c.args.request.now in
    let screens = screens_past w r c.of.result c.in_ok-stop.ensures c.of.ensures.answer in
    record { answer = subst (Screens w r) (sym c.ok_or.ensures.value) screens }
