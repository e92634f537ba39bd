-- A message is delivered, once it is read. Assumes nothing.
use Rattle.std.proofs.Common.{◌≡◌, ℕ, ◌-◌, ◌≤◌, Bool, List, set, None, Ok, Result, sym, refl, ap, ◌∙◌, subst, arith}
use Rattle.std.proofs.lemmas.List.{length-set}
use Rattle.refusal.specs.declared.kinds.Denial.{Denial}
use Rattle.refusal.specs.declared.kinds.Name.{Name}
use Rattle.reservation.specs.declared.request.Request.{Request}
use Rattle.policy.specs.Views.{asked, released}
use Rattle.message.specs.declared.message.Message.{Message}
use Rattle.message.specs.declared.row.MessageRow.{MessageRow}
use Rattle.message.specs.Rows.{vehicle_of}
use Rattle.vehicle.specs.declared.rows.VehicleRow.{VehicleRow}
use Rattle.run.specs.declared.run.Run.{Run}
use Rattle.run.specs.Calls.{Agrees, Delivers, Whole, of_message}
use Rattle.run.specs.Manager.{Acts, Delivered, Outcome, acted, dropped, lost, settled}
use Rattle.run.specs.Tables.{Ruled}
use Rattle.run.specs.Worlds.{Conduct, Stage, message_of, row_of, stage, world}
use Rattle.lent.specs.Moves.{Settled}
use Rattle.lent.specs.Scenes.{MessageAt}
use Rattle.lent.proofs.Later.{arrived, replied_later, row_put, vehicles_long}
use Rattle.lent.proofs.Memory.{kept_part}
use Rattle.calls.proofs.Moments.{acts_still}

module _ {P : Type 0} (c : Conduct P) (s : Stage P) (i : ℕ) (x : Message) (r : Ruled (of_message c.view s i) (MessageAt s i) (Unit {0}) (Ok x)) where
  whole : Whole s.run s.vehicles s.mail
  whole = r.by.0

  agrees : Agrees s.run (c.view s.policy)
  agrees = r.by.1.0

  at : (1 ≤ i) × (i ≤ s.run.mail)
  at = r.by.1.1.0

  is : x.row ≡ message_of (world s).mail i
  is = r.by.1.1.1

  module _ (t : Run) (j : t.junction ≡ s.run.junction) (k : t.clock ≡ s.run.clock) (n : t.vehicles ≡ s.run.vehicles) (ms : List MessageRow) where
    pub none_there : (1 ≤ vehicle_of x.row → vehicle_of x.row ≤ s.run.vehicles → ⊥) → Settled s.mail s.run.mail i None t.mail ms
        → Delivers c s (stage t s.vehicles ms s.policy) i (Ok tt)
    none_there none gone =
        record {
          by = (
            whole,
            (
              agrees,
              (
                at,
                (
                  lost (world s) i,
                  subst (λ m. Delivered c (world s) i m (lost (world s) i)) is (dropped (λ h. none h.0 (omega (arith, h.1, vehicles_long s whole))) refl),
                  replied_later c.view s (lost (world s) i) i None refl
                      (record { junction = j ∙ agrees.junction; clock = k ∙ agrees.clock; vehicles_are = n ∙ sym (vehicles_long s whole); mail_are = refl })
                      (kept_part s.vehicles s.run.vehicles whole.vehicle_count) gone,
                ),
              ),
            ),
          );
        }

    module _ (records : (s : P) (r : Request) (a : Result (Unit {0}) Denial) (t : P) → c.asks s r a t → c.view t ≡ asked (c.view s) r a)
        (removes : (s : P) (n : Name) (a : Bool) (t : P) → c.releases s n a t → c.view t ≡ released (c.view s) n)
        (o : Outcome P) (done : Settled s.mail s.run.mail i o.reply t.mail ms) where
      abbrev Brought : ℕ → Type 0
      Brought v = Delivers c s (stage t (set s.vehicles (v - 1) o.row) ms o.policy) i (Ok tt)

      of_vehicle_lem : 1 ≤ vehicle_of x.row → vehicle_of x.row ≤ s.run.vehicles → Acts c s.policy (row_of (world s).vehicles (vehicle_of x.row)) x.row o → Brought (vehicle_of x.row)
      of_vehicle_lem lo hi acts =
          let new = settled (world s) i (vehicle_of x.row) o in
          let moment = acts_still c records removes s.policy _ x.row o acts in
          record {
            by = (
              whole,
              (
                agrees,
                (
                  at,
                  (
                    new,
                    subst (λ m'. Delivered c (world s) i m' new) is (acted (arrived s whole (vehicle_of x.row) lo hi) o acts refl),
                    replied_later c.view s new i o.reply refl
                        (record {
                          junction = j ∙ agrees.junction ∙ sym moment.junction;
                          clock = k ∙ agrees.clock ∙ sym moment.clock;
                          vehicles_are = n ∙ sym (length-set (world s).vehicles (vehicle_of x.row - 1) o.row ∙ vehicles_long s whole);
                          mail_are = refl;
                        })
                        (row_put s whole (vehicle_of x.row) o.row lo hi) done,
                  ),
                ),
              ),
            );
          }

      pub brought : (v : ℕ) → v ≡ vehicle_of x.row → 1 ≤ v → v ≤ s.run.vehicles → (y : VehicleRow) → y ≡ row_of (world s).vehicles v → Acts c s.policy y x.row o → Brought v
      brought v is_v lo hi y is_y acts =
          subst Brought (sym is_v) (of_vehicle_lem (omega (arith, is_v, lo)) (omega (arith, is_v, hi))
          (subst (λ y. Acts c s.policy y x.row o) (is_y ∙ ap (row_of (world s).vehicles) is_v) acts))
