-- What follows where every clause holds, and that each call and every list of calls keeps them. Assumes nothing.
use Rattle.std.proofs.Common.{◌≡◌, ℕ, ◌-◌, ◌<◌, ◌≤◌, true, List, ◌∷◌, length, take, drop, ◌+ℤ◌, Ok, Err, Option, sym, ap, ◌∙◌, subst, inl, inr, arith}
use Rattle.std.specs.List.{AllByRecursion as All}
use Rattle.std.proofs.ByRecursion.{has_get_or}
use Rattle.std.proofs.lemmas.List.{length-take-le, take_at}
use Rattle.std.proofs.lemmas.Int.{ints}
use Rattle.grid.specs.declared.junction.Junction.{Junction}
use Rattle.grid.specs.Steps.{step_touches}
use Rattle.refusal.specs.declared.kinds.CallFault.{CallFault}
use Rattle.reservation.specs.declared.request.Request.{Request}
use Rattle.reservation.specs.Cells.{has}
use Rattle.reservation.proofs.Laws.{share_from, step_has}
use Rattle.policy.specs.Views.{Told, View}
use Rattle.message.specs.declared.row.MessageRow.{MessageRow}
use Rattle.vehicle.specs.declared.rows.VehicleRow.{VehicleRow}
use Rattle.vehicle.specs.Records.{Good}
use Rattle.vehicle.specs.Rows.{good_lag}
use Rattle.vehicle.specs.Standing.{OnTile}
use Rattle.vehicle.proofs.Cells.{on_tile_held}
use Rattle.vehicle.proofs.Parts.{lag_parts}
use Rattle.run.specs.declared.call.Call.{Call}
use Rattle.run.specs.declared.call.Call.TheVariants as call
use Rattle.run.specs.declared.run.Run.{Run}
use Rattle.run.specs.Calls.{Agrees, Answer, Makes, Opens, Reopens, Whole}
use Rattle.run.specs.Tables.{ByRows, Ruled, Table, end, row}
use Rattle.run.specs.Worlds.{Conduct, Counts, Later, Stage, World, message_of, no_mail, row_of, stage, world}
use Rattle.invariant.specs.Promises.{AllReserved, NoCommonTile, Ran, Reserved, Sound, next, none}
use Rattle.invariant.proofs.Deliver.{delivered_kept}
use Rattle.invariant.proofs.Inv.{Inv, Lawful, Sits}
use Rattle.invariant.proofs.Steps.{arrives_kept, asks_kept, cancels_kept, changes_kept, inv_new, loses_kept, nudges_kept, repeats_kept}
use Rattle.invariant.proofs.Turns.{ticked_kept}

-- who stands on a tile has its cell, by the reservation that it crosses on
module _ (w : View) (v tile : ℕ) (r : VehicleRow) (s : Sits w v r) (on : OnTile w.junction w.clock r tile) where
  crossed : Reserved w.ledger v on.held r.body
  crossed = s.reserved on.held (on_tile_held w.junction w.clock r tile on)

  cell : has w.junction crossed.by tile w.clock ≡ true
  cell =
      let y = crossed in
      let off = lag_parts w.junction.buffer on.lag (s.lag on.held on.lag on.nudged on.crosses) in
      let at = on.at in
      step_has w.junction y.by tile w.clock on.step (record {
        touched = ap (λ b. step_touches w.junction.lanes b on.step tile) y.shape ∙ on.touched;
        late = omega (arith, ints, off.late, off.early, y.entry);
        early = omega (arith, ints, off.late, off.early, y.entry);
      })

-- every clause holds of the run's world, and the policy has the run's moment
pub record Safe {P : Type 0} (clash : Junction → Request → Request → Type 0) (c : Conduct P) (s : Stage P) : Type 0 where
  pub inv : Inv clash (c.view s.policy) (world s).vehicles (world s).mail
  pub agrees : Agrees s.run (c.view s.policy)

module _ {P : Type 0} (clash : Junction → Request → Request → Type 0) (c : Conduct P) (lawful : Lawful clash c) where
  no_common_tile : (w : View) (vs : List VehicleRow) (ms : List MessageRow) → Inv clash w vs ms → NoCommonTile w vs
  no_common_tile w vs ms inv v u tile av au ne ov ou =
      let sv = inv.own v av in
      let su = inv.own u au in
      let x = crossed w v tile (row_of vs v) sv ov in
      let y = crossed w u tile (row_of vs u) su ou in
      inv.free x.by y.by x.stands y.stands (λ e. ne (sym x.vehicle ∙ e ∙ y.vehicle))
      (lawful.covers w.junction x.by y.by
      (share_from w.junction x.by y.by (tile, w.clock, cell w v tile (row_of vs v) sv ov, cell w u tile (row_of vs u) su ou)))

  all_reserved : (w : View) (vs : List VehicleRow) (ms : List MessageRow) → Inv clash w vs ms → AllReserved w vs
  all_reserved w vs ms inv v held here holds = (inv.own v here).reserved held holds

  pub sound : (marks : P → Option (ℕ → ℕ → ℕ)) → ((p : P) → Told (marks p) (c.view p)) → (s : Stage P) → Safe clash c s → Sound c.view marks s
  sound marks told s safe = record {
    agrees = safe.agrees;
    apart = no_common_tile (c.view s.policy) (world s).vehicles (world s).mail safe.inv;
    reserved = all_reserved (c.view s.policy) (world s).vehicles (world s).mail safe.inv;
    marked = told s.policy;
  }

-- an accepted call did what it is to do, and a refused one altered nothing
rows_done : {X : Type 0} (t : Table) (done : X → Type 0) (same : Type 0) (x : X) → ByRows t done same (Ok x) → done x
rows_done end done same x r = r
rows_done (row f good rows) done same x r = rows_done rows done same x r.1

rows_same : {X : Type 0} (t : Table) (done : X → Type 0) (same : Type 0) (f : CallFault) → ByRows t done same (Err f) → same
rows_same end done same f r = absurd r
rows_same (row g good rows) done same f (inl r) = r.2
rows_same (row g good rows) done same f (inr r) = rows_same rows done same f r.1

accepted_done : {X : Type 0} {t : Table} {done : X → Type 0} {same : Type 0} {x : X} → Ruled t done same (Ok x) → done x
accepted_done {X} {t} {done} {same} {x} r = rows_done t done same x r.by

refused_same : {X : Type 0} {t : Table} {done : X → Type 0} {same : Type 0} {f : CallFault} → Ruled t done same (Err f) → same
refused_same {X} {t} {done} {same} {f} r = rows_same t done same f r.by

-- a stage whose parts are those of another is that one
same_stage : {P : Type 0} (s s' : Stage P) → s'.run ≡ s.run → s'.vehicles ≡ s.vehicles → s'.mail ≡ s.mail → s'.policy ≡ s.policy → s' ≡ s
same_stage s s' runs vehicles mail policies =
    ap (λ r. stage r s'.vehicles s'.mail s'.policy) runs
    ∙ ap (λ vs. stage s.run vs s'.mail s'.policy) vehicles
    ∙ ap (λ ms. stage s.run s.vehicles ms s'.policy) mail
    ∙ ap (λ p. stage s.run s.vehicles s.mail p) policies

module _ {P : Type 0} (clash : Junction → Request → Request → Type 0) (c : Conduct P) (lawful : Lawful clash c) where
  -- a run just opened
  pub opened_safe : (vs : List VehicleRow) (ms : List MessageRow) (p : P) (r : Run) → Opens vs ms (c.view p) (Ok r) → Safe clash c (stage r vs ms p)
  opened_safe vs ms p r opens =
      let counts : Counts (c.view p) 0 0 r = accepted_done opens in
      record {
        inv = subst (λ n. Inv clash (c.view p) (take n vs) (take r.mail ms)) (sym counts.vehicles_are)
            (subst (λ n. Inv clash (c.view p) (take 0 vs) (take n ms)) (sym counts.mail_are) (inv_new clash (c.view p) opens.by.1.0.1));
        agrees = record { junction = counts.junction; clock = counts.clock };
      }

  pub reopened_safe : (s s' : Stage P) (r : Run) → Reopens c s s' (Ok r) → Safe clash c s'
  reopened_safe s s' r m =
      subst (Safe clash c) (sym (same_stage (stage r s.vehicles s.mail s.policy) s' m.run m.vehicles m.mail m.policy))
      (opened_safe s.vehicles s.mail s.policy r m.answer)

  module _ (s s' : Stage P) (safe : Safe clash c s) where
    abbrev view : View
    view = c.view s.policy

    abbrev vs : List VehicleRow
    vs = (world s).vehicles

    abbrev ms : List MessageRow
    ms = (world s).mail

    stayed : s' ≡ s → Safe clash c s'
    stayed is = subst (Safe clash c) (sym is) safe

    came : (w : World P) → Later c.view s w s' → Inv clash (c.view w.policy) w.vehicles w.mail → Safe clash c s'
    came w l inv =
        let vehicles : (world s').vehicles ≡ w.vehicles =
        ap (take s'.run.vehicles) l.vehicles ∙ take_at w.vehicles (drop (length w.vehicles) s.vehicles) s'.run.vehicles (sym l.run.vehicles_are) in
        let mail : (world s').mail ≡ w.mail =
        ap (take s'.run.mail) l.mail ∙ take_at w.mail (drop (length w.mail) s.mail) s'.run.mail (sym l.run.mail_are) in
        let same : c.view s'.policy ≡ c.view w.policy = ap c.view l.policy in
        record {
          inv = subst (λ x. Inv clash x (world s').vehicles (world s').mail) (sym same)
              (subst (λ xs. Inv clash (c.view w.policy) xs (world s').mail) (sym vehicles) (subst (Inv clash (c.view w.policy) w.vehicles) (sym mail) inv));
          agrees = subst (Agrees s'.run) (sym same) (record { junction = l.run.junction; clock = l.run.clock });
        }

    in_mail : (i : ℕ) → Whole s.run s.vehicles s.mail → 1 ≤ i → i ≤ s.run.mail → i - 1 < length ms
    in_mail i whole low high = omega (arith, length-take-le s.run.mail s.mail whole.mail_count, low, high)

    pub makes_safe : (x : Call) (a : Answer) → Makes c s x a s' → Safe clash c s'
    makes_safe call.Open a (Ok r, m, is) = reopened_safe s s' r m
    makes_safe call.Open a (Err f, m, is) = stayed (same_stage s s' m.run m.vehicles m.mail m.policy)
    makes_safe (call.Arrive b d) a (Ok v, r, is) = came _ (accepted_done r).1 (arrives_kept clash view vs ms safe.inv s.run.clock b d)
    makes_safe (call.Arrive b d) a (Err f, r, is) = stayed (refused_same r)
    makes_safe (call.Ask v e) a (Ok q, r, is) =
        let did = accepted_done r in
        came _ did.1 (asks_kept clash view vs ms safe.inv v r.by.1.1.0 q e (row_of vs v).distance r.by.1.1.1.0 did.0)
    makes_safe (call.Ask v e) a (Err f, r, is) = stayed (refused_same r)
    makes_safe (call.Change v e) a (Ok q, r, is) =
        let did = accepted_done r in
        came _ did.1.2 (changes_kept clash view vs ms safe.inv v r.by.1.1.0 q e (row_of vs v).distance did.1.0 did.1.1 did.0)
    makes_safe (call.Change v e) a (Err f, r, is) = stayed (refused_same r)
    makes_safe (call.Cancel v) a (Ok u, r, is) =
        let did = accepted_done r in
        came _ did.2 (cancels_kept clash view vs ms safe.inv v r.by.1.1.0 did.0 did.1)
    makes_safe (call.Cancel v) a (Err f, r, is) = stayed (refused_same r)
    makes_safe (call.Nudge v by) a (Ok u, r, is) =
        let did = accepted_done r in
        let good = subst (λ (j : Junction). good_lag j.buffer (did.1 +ℤ by) ≡ true) safe.agrees.junction (r.by.1.1.1.1.1.0 did.0 did.1 did.2 did.3) in
        came _ did.4 (nudges_kept clash view vs ms safe.inv v r.by.1.1.0 did.0 did.1 (did.1 +ℤ by) did.2 s.run.clock did.3 good)
    makes_safe (call.Nudge v by) a (Err f, r, is) = stayed (refused_same r)
    makes_safe (call.Deliver i) a (Ok u, r, is) =
        let did = accepted_done r in
        came did.0 did.2 (delivered_kept clash c lawful (world s) i safe.inv (message_of ms i) did.0
        (has_get_or ms (i - 1) no_mail (in_mail i r.by.0 r.by.1.1.0.0 r.by.1.1.0.1)) did.1)
    makes_safe (call.Deliver i) a (Err f, r, is) = stayed (refused_same r)
    makes_safe (call.Lose i) a (Ok u, r, is) = came _ (accepted_done r) (loses_kept clash view vs ms safe.inv (i - 1))
    makes_safe (call.Lose i) a (Err f, r, is) = stayed (refused_same r)
    makes_safe (call.Repeat i) a (Ok u, r, is) =
        came _ (accepted_done r) (repeats_kept clash view vs ms safe.inv i (in_mail i r.by.0 r.by.1.1.0.0 r.by.1.1.0.1))
    makes_safe (call.Repeat i) a (Err f, r, is) = stayed (refused_same r)
    makes_safe call.Tick a (Ok u, r, is) =
        let did = accepted_done r in
        let good = subst (λ j. All (Good j) vs) safe.agrees.junction r.by.0.rows in
        came did.0 did.2 (ticked_kept clash c lawful (length s.mail) (world s) did.0 good safe.inv did.1)
    makes_safe call.Tick a (Err f, r, is) = stayed (refused_same r)

  pub ran_safe : (s s' : Stage P) (xs : List Call) (answers : List Answer) → Safe clash c s → Ran c s xs answers s' → Safe clash c s'
  ran_safe s s' xs answers safe (none _) = safe
  ran_safe s s' (x ∷ xs) (a ∷ answers) safe (next _ between _ _ _ _ _ made ran) = ran_safe between s' xs answers (makes_safe s between safe x a made) ran
