-- The stage that an accepted call leaves. Assumes nothing.
use Rattle.std.proofs.Common.{◌≡◌, ℕ, ◌+◌, ◌-◌, ◌<◌, ◌≤◌, List, [], ◌∷◌, ◌++◌, length, get_or, drop, set, Option, sym, refl, ap, ◌∙◌, arith}
use Rattle.std.proofs.ByRecursion.{All-get_or}
use Rattle.std.proofs.lemmas.List.{get_or_default, get_or-take, length_push, length-set, length-take-le}
use Rattle.message.specs.declared.row.MessageRow.{MessageRow}
use Rattle.policy.specs.Views.{View}
use Rattle.vehicle.specs.declared.rows.VehicleRow.{VehicleRow}
use Rattle.vehicle.specs.Records.{Good}
use Rattle.run.specs.declared.run.Run.{Run}
use Rattle.run.specs.Calls.{Agrees, Whole}
use Rattle.run.specs.Manager.{replied}
use Rattle.run.specs.Worlds.{Arrived, Counts, Later, Stage, World, blank, message_of, no_mail, row_of, stage, world}
use Rattle.lent.specs.Moves.{Settled}
use Rattle.lent.proofs.Memory.{kept_part, push_part, put_part}

-- what is counted, in whole memories
module _ {P : Type 0} (s : Stage P) (h : Whole s.run s.vehicles s.mail) where
  pub vehicles_long : length (world s).vehicles ≡ s.run.vehicles
  vehicles_long = length-take-le s.run.vehicles s.vehicles h.vehicle_count

  pub mail_long : length (world s).mail ≡ s.run.mail
  mail_long = length-take-le s.run.mail s.mail h.mail_count

  pub arrived : (v : ℕ) → 1 ≤ v → v ≤ s.run.vehicles → Arrived (world s).vehicles v
  arrived v lo hi = (lo, omega (arith, hi, vehicles_long))

  pub row_read : (v : ℕ) (d : VehicleRow) → 1 ≤ v → v ≤ s.run.vehicles → get_or s.vehicles (v - 1) d ≡ row_of (world s).vehicles v
  row_read v d lo hi =
      get_or_default s.vehicles (v - 1) d blank (omega (arith, lo, hi, h.vehicle_count))
      ∙ sym (get_or-take s.run.vehicles s.vehicles (v - 1) blank (omega (arith, lo, hi)))

  pub message_read : (i : ℕ) (d : MessageRow) → 1 ≤ i → i ≤ s.run.mail → get_or s.mail (i - 1) d ≡ message_of (world s).mail i
  message_read i d lo hi =
      get_or_default s.mail (i - 1) d no_mail (omega (arith, lo, hi, h.mail_count))
      ∙ sym (get_or-take s.run.mail s.mail (i - 1) no_mail (omega (arith, lo, hi)))

  pub row_good : (v : ℕ) → Arrived (world s).vehicles v → Good s.run.junction (row_of (world s).vehicles v)
  row_good v at = All-get_or (Good s.run.junction) (world s).vehicles (v - 1) blank (omega (arith, at.0, at.1)) h.rows

  row_count : (v : ℕ) (x : VehicleRow) → s.run.vehicles ≡ length (set (world s).vehicles (v - 1) x)
  row_count v x = sym (length-set (world s).vehicles (v - 1) x ∙ vehicles_long)

  pub row_put : (v : ℕ) (x : VehicleRow) → 1 ≤ v → v ≤ s.run.vehicles
      → set s.vehicles (v - 1) x ≡ set (world s).vehicles (v - 1) x ++ drop (length (set (world s).vehicles (v - 1) x)) s.vehicles
  row_put v x lo hi = put_part s.vehicles s.run.vehicles (v - 1) x (omega (arith, lo, hi)) h.vehicle_count

pushed_count : {X : Type 0} (xs : List X) (x : X) (n : ℕ) → length xs ≡ n → n + 1 ≡ length (xs ++ x ∷ [])
pushed_count xs x n is = sym (length_push xs x ∙ ap (λ k. k + 1) is)

-- the stage that a call leaves: its run has this moment, its memories are those of the world and the rest of the old
module _ {P : Type 0} (view : P → View) (s : Stage P) (h : Whole s.run s.vehicles s.mail) (a : Agrees s.run (view s.policy))
    {r : Run} (junction : r.junction ≡ s.run.junction) (clock : r.clock ≡ s.run.clock) where
  counts : {n m : ℕ} → r.vehicles ≡ n → r.mail ≡ m → Counts (view s.policy) n m r
  counts v m = record { junction = junction ∙ a.junction; clock = clock ∙ a.clock; vehicles_are = v; mail_are = m }

  -- a vehicle is put behind the others
  pub joined : (x : VehicleRow) → s.run.vehicles < length s.vehicles → r.vehicles ≡ s.run.vehicles + 1 → r.mail ≡ s.run.mail
      → Later view s (record { vehicles = (world s).vehicles ++ x ∷ []; mail = (world s).mail; policy = s.policy }) (stage r (set s.vehicles s.run.vehicles x) s.mail s.policy)
  joined x free v m =
      record {
        run = counts (v ∙ pushed_count (world s).vehicles x _ (vehicles_long s h)) (m ∙ sym (mail_long s h));
        vehicles = push_part s.vehicles s.run.vehicles x free;
        mail = kept_part s.mail s.run.mail h.mail_count;
        policy = refl;
      }

  -- a message is put behind the others
  pub sent : (x y : MessageRow) → y ≡ x → s.run.mail < length s.mail → r.vehicles ≡ s.run.vehicles → r.mail ≡ s.run.mail + 1
      → (ms : List MessageRow) → ms ≡ set s.mail s.run.mail y
      → Later view s (record { vehicles = (world s).vehicles; mail = (world s).mail ++ x ∷ []; policy = s.policy }) (stage r s.vehicles ms s.policy)
  sent x y is free v m ms put =
      record {
        run = counts (v ∙ sym (vehicles_long s h)) (m ∙ pushed_count (world s).mail x _ (mail_long s h));
        vehicles = kept_part s.vehicles s.run.vehicles h.vehicle_count;
        mail = put ∙ ap (set s.mail s.run.mail) is ∙ push_part s.mail s.run.mail x free;
        policy = refl;
      }

  module _ (v : ℕ) (lo : 1 ≤ v) (hi : v ≤ s.run.vehicles) (x : VehicleRow) where
    -- a row is written
    pub written : r.vehicles ≡ s.run.vehicles → r.mail ≡ s.run.mail
        → Later view s (record { vehicles = set (world s).vehicles (v - 1) x; mail = (world s).mail; policy = s.policy }) (stage r (set s.vehicles (v - 1) x) s.mail s.policy)
    written n m =
        record {
          run = counts (n ∙ row_count s h v x) (m ∙ sym (mail_long s h));
          vehicles = row_put s h v x lo hi;
          mail = kept_part s.mail s.run.mail h.mail_count;
          policy = refl;
        }

    -- and a message is put behind the others
    pub posted : (y : MessageRow) → s.run.mail < length s.mail → r.vehicles ≡ s.run.vehicles → r.mail ≡ s.run.mail + 1
        → (ms : List MessageRow) → ms ≡ set s.mail s.run.mail y
        → Later view s (record { vehicles = set (world s).vehicles (v - 1) x; mail = (world s).mail ++ y ∷ []; policy = s.policy }) (stage r (set s.vehicles (v - 1) x) ms s.policy)
    posted y free n m ms put =
        record {
          run = counts (n ∙ row_count s h v x) (m ∙ pushed_count (world s).mail y _ (mail_long s h));
          vehicles = row_put s h v x lo hi;
          mail = put ∙ push_part s.mail s.run.mail y free;
          policy = refl;
        }

-- a message made way for the reply, if there is one, and the counted vehicles are these
pub replied_later : {P : Type 0} (view : P → View) (s : Stage P) (w : World P) (i : ℕ) (reply : Option MessageRow) {r : Run} {vs : List VehicleRow} {ms : List MessageRow}
    → w.mail ≡ replied (world s).mail i reply → Counts (view w.policy) (length w.vehicles) r.mail r
    → vs ≡ w.vehicles ++ drop (length w.vehicles) s.vehicles → Settled s.mail s.run.mail i reply r.mail ms
    → Later view s w (stage r vs ms w.policy)
replied_later view s w i reply {r} {vs} {ms} is counts rows settled =
    let long : r.mail ≡ length w.mail = settled.counted ∙ ap length (sym is) in
    record {
      run = record { junction = counts.junction; clock = counts.clock; vehicles_are = counts.vehicles_are; mail_are = long };
      vehicles = rows;
      mail = settled.memory ∙ ap (λ xs. xs ++ drop r.mail s.mail) (sym is) ∙ ap (λ k. w.mail ++ drop k s.mail) long;
      policy = refl;
    }
