use Rattle.std.proofs.Common.{Some, None, sym, subst, arith}
use Rattle.std.proofs.lemmas.Bool.{leb-false, leb-true}
use Rattle.ledger.specs.Entries.{entries}
use Rattle.ledger.proofs.Requests.{length-requests}
use Rattle.rivals.proofs.Screens.{screened_footprint}
use Rattle.rivals.proofs.Verdicts.{clash_verdict, full_verdict, grant_verdict}
use Rattle.book.specs.Booked.{RivalOf, view_of}
use Rattle.book.proofs.Stand.{all_ranged}
use Rattle.book.proofs.book.Book.judge.Goals as goal

-- the rows on range, time and name let the request pass; the rest is told by who is in its way and how many stand
pub returns-in-Some : goal.returns-in-Some
returns-in-Some g c =
    let clash = g.C.Clashes.clash in
    let b = c.args.self.now in
    let r = c.args.request.now in
    let n = c.in-Some.rival in
    let (past, one, same) = screened_footprint (view_of b) r c.in_ok-footprint.footprint c.in_ok-footprint.ensures.answer in
    clash_verdict clash (view_of b) r (all_ranged b) past n (subst (λ q. RivalOf clash b q (Some n)) same c.in-Some.ensures)

pub returns-then-is_full : goal.returns-then-is_full
returns-then-is_full g c =
    let clash = g.C.Clashes.clash in
    let b = c.args.self.now in
    let r = c.args.request.now in
    let full = leb-true _ _ (sym c.if-is_full.ensures.full) in
    let (past, one, same) = screened_footprint (view_of b) r c.in_ok-footprint.footprint c.in_ok-footprint.ensures.answer in
    full_verdict clash (view_of b) r (all_ranged b) past (subst (λ q. RivalOf clash b q None) same c.in_default.ensures)
    (omega (arith, length-requests (entries b.ledger)))

pub returns : goal.returns
returns g c =
    let clash = g.C.Clashes.clash in
    let b = c.args.self.now in
    let r = c.args.request.now in
    let room = leb-false _ _ (sym c.if-is_full.ensures.full) in
    let (past, one, same) = screened_footprint (view_of b) r c.in_ok-footprint.footprint c.in_ok-footprint.ensures.answer in (
      grant_verdict clash (view_of b) r (all_ranged b) past (subst (λ q. RivalOf clash b q None) same c.in_default.ensures)
          (omega (arith, length-requests (entries b.ledger))),
      one,
      same,
      room,
    )
