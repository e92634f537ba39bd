-- A tick passes. Assumes nothing.
use Rattle.std.proofs.Common.{◌≡◌, ℕ, ◌+◌, ◌-◌, List, ◌++◌, length, take, drop, Ok, Err, Result, sym, refl, ap, ◌∙◌, subst, inl, inr, arith}
use Rattle.grid.specs.declared.junction.Junction.{Junction}
use Rattle.refusal.specs.declared.kinds.CallFault.{CallFault}
use Rattle.policy.specs.Views.{Advanced}
use Rattle.message.specs.declared.row.MessageRow.{MessageRow}
use Rattle.vehicle.specs.declared.rows.VehicleRow.{VehicleRow}
use Rattle.run.specs.declared.run.Run.{Run}
use Rattle.run.specs.Calls.{Agrees, Ticks, Whole}
use Rattle.run.specs.Ticks.{AllTurned, dones}
use Rattle.run.specs.Worlds.{Conduct, Stage, World, stage, world}
use Rattle.ticking.specs.Turning.{Fit, TurnedAll}
use Rattle.calls.specs.Parts.{ButMail, OneOn}
use Rattle.lent.proofs.Later.{mail_long, vehicles_long}

module _ {P : Type 0} (c : Conduct P) (s : Stage P) (h : Whole s.run s.vehicles s.mail) (a : Agrees s.run (c.view s.policy))
    (passes : (s : P) (a : Result (Unit {0}) CallFault) (t : P) → c.advances s a t → Advanced (c.view s) a (c.view t)) where
  fit : Fit s.run.junction (world s).vehicles s.mail s.run.mail
  fit = record { rows = h.rows; few = omega (arith, vehicles_long s h, h.vehicles, h.vehicle_count); within = h.mail_count }

  -- the rows that a run counts
  abbrev front : Run → List VehicleRow
  front q = take q.vehicles s.vehicles

  -- what is said of the run once it went on, in terms of the run before
  at_run : (q : Run) → OneOn s.run q → q.vehicles ≡ s.run.vehicles → (F : Junction → ℕ → List VehicleRow → ℕ → Type 0)
      → F q.junction q.clock (front q) q.mail → F s.run.junction (s.run.clock + 1) (world s).vehicles s.run.mail
  at_run q on all F x =
      subst (λ j. F j (s.run.clock + 1) (world s).vehicles s.run.mail) on.junction
      (subst (λ clock. F q.junction clock (world s).vehicles s.run.mail) on.clock
      (subst (λ n. F q.junction q.clock (take n s.vehicles) s.run.mail) all
      (subst (F q.junction q.clock (front q)) on.mail x)))

  -- the policy refuses at the clock's end alone, and stays
  pub ended : (e : CallFault) (p : P) → c.advances s.policy (Err e) p → p ≡ s.policy → (q : Run) → q ≡ s.run → Ticks c s (stage q s.vehicles s.mail p) (Err e)
  ended e p adv stays q is =
      let at = passes s.policy (Err e) p adv in
      record { by = inr (h, inr (a, inl ((λ early. omega (arith, early, at.0, a.clock)), sym at.1, ap (λ q. stage q s.vehicles s.mail p) is ∙ ap (stage s.run s.vehicles s.mail) stays))) }

  pub passed : (p : P) → c.advances s.policy (Ok tt) p → (q t : Run) → OneOn s.run q → ButMail q t
      → (rows vs : List VehicleRow) (ms : List MessageRow) → (Fit q.junction (front q) s.mail q.mail → TurnedAll q.junction q.clock (front q) rows s.mail ms q.mail t.mail)
      → vs ≡ rows ++ drop q.vehicles s.vehicles → Ticks c s (stage t vs ms p) (Ok tt)
  passed p adv q t on rest rows vs ms turn is =
      let turned : TurnedAll s.run.junction (s.run.clock + 1) (world s).vehicles rows s.mail ms s.run.mail t.mail =
      at_run q on on.vehicles (λ j clock vs n. Fit j vs s.mail n → TurnedAll j clock vs rows s.mail ms n t.mail) turn fit in
      let later = passes s.policy (Ok tt) p adv in
      let sent = take (length s.mail - s.run.mail) (dones 1 (world s).vehicles rows) in
      let new : World P = record { vehicles = rows; mail = (world s).mail ++ sent; policy = p } in
      let long : length rows ≡ s.run.vehicles = turned.rows.count ∙ vehicles_long s h in
      let clock : s.run.clock + 1 ≡ (c.view s.policy).clock + 1 = ap (λ k. k + 1) a.clock in
      record {
        by = (
          h,
          (
            a,
            (
              omega (arith, later.0, a.clock),
              (
                new,
                record {
                  policy = adv;
                  vehicles = subst (λ j. AllTurned j ((c.view s.policy).clock + 1) (world s).vehicles rows) a.junction
                      (subst (λ k. AllTurned s.run.junction k (world s).vehicles rows) clock turned.rows);
                  mail = ap (λ k. (world s).mail ++ take (length s.mail - k) (dones 1 (world s).vehicles rows)) (sym (mail_long s h));
                },
                record {
                  run = record {
                    junction = rest.junction ∙ on.junction ∙ a.junction ∙ sym (ap (λ w. w.junction) later.1);
                    clock = rest.clock ∙ on.clock ∙ clock ∙ sym (ap (λ w. w.clock) later.1);
                    vehicles_are = rest.vehicles ∙ on.vehicles ∙ sym long;
                    mail_are = turned.mail.counted;
                  };
                  vehicles = is ∙ ap (λ k. rows ++ drop k s.vehicles) (on.vehicles ∙ sym long);
                  mail = turned.mail.memory ∙ ap (λ k. ((world s).mail ++ sent) ++ drop k s.mail) turned.mail.counted;
                  policy = refl;
                },
              ),
            ),
          ),
        );
      }
