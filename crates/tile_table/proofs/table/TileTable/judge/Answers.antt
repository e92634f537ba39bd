use Rattle.std.proofs.Common.{Some, None, sym, subst, arith}
use Rattle.std.proofs.lemmas.Bool.{leb-false, leb-true}
use Rattle.ledger.specs.Entries.{entries}
use Rattle.ledger.proofs.Requests.{length-requests}
use Rattle.rivals.specs.Rivals.{CellClash}
use Rattle.rivals.proofs.Screens.{screened_footprint}
use Rattle.rivals.proofs.Verdicts.{clash_verdict, full_verdict, grant_verdict}
use Rattle.tile_table.specs.Tables.{RivalOf, view_of}
use Rattle.tile_table.proofs.Sound.{screened_time}
use Rattle.tile_table.proofs.table.TileTable.judge.Goals as goal

pub rival-requires : goal.rival-requires
rival-requires c =
    let s = c.args.self.now in
    let (past, one, same) = screened_footprint (view_of s) c.args.request.now c.in_ok-footprint.footprint c.in_ok-footprint.ensures.answer in
    record { one = one; time = screened_time (view_of s) c.args.request.now c.in_ok-footprint.footprint c.in_ok-footprint.ensures.answer }

pub returns-in-Some : goal.returns-in-Some
returns-in-Some c =
    let s = c.args.self.now in
    let r = c.args.request.now in
    let n = c.in-Some.rival in
    let (past, one, same) = screened_footprint (view_of s) r c.in_ok-footprint.footprint c.in_ok-footprint.ensures.answer in
    clash_verdict CellClash (view_of s) r s.ranged past n (subst (λ x. RivalOf s x (Some n)) same c.in-Some.ensures)

pub returns-then-is_full : goal.returns-then-is_full
returns-then-is_full c =
    let s = c.args.self.now in
    let r = c.args.request.now in
    let full = leb-true _ _ (sym c.if-is_full.ensures.full) in
    let (past, one, same) = screened_footprint (view_of s) r c.in_ok-footprint.footprint c.in_ok-footprint.ensures.answer in
    full_verdict CellClash (view_of s) r s.ranged past (subst (λ x. RivalOf s x None) same c.in_default.ensures)
    (omega (arith, length-requests (entries s.ledger)))

pub returns : goal.returns
returns c =
    let s = c.args.self.now in
    let r = c.args.request.now in
    let f = c.in_ok-footprint.footprint in
    let room = leb-false _ _ (sym c.if-is_full.ensures.full) in
    let (past, one, same) = screened_footprint (view_of s) r f c.in_ok-footprint.ensures.answer in (
      grant_verdict CellClash (view_of s) r s.ranged past (subst (λ x. RivalOf s x None) same c.in_default.ensures)
          (omega (arith, length-requests (entries s.ledger))),
      same,
      record { one = one; room = room; time = screened_time (view_of s) r f c.in_ok-footprint.ensures.answer; alone = c.in_default.ensures },
    )
