-- The calls on a vehicle, once its row is read. Assumes nothing.
use Rattle.std.proofs.Common.{◌≡◌, ℕ, ◌+◌, ◌-◌, ◌<◌, ◌≤◌, true, false, List, [], ◌∷◌, ◌++◌, length, take, set, ℤ, ◌+ℤ◌, is_some, Some, None, Ok, Err, sym, refl, ap, ◌∙◌, subst, inl, inr, arith}
use Rattle.std.proofs.lemmas.List.{take-take}
use Rattle.std.proofs.lemmas.Bool.{both_ways}
use Rattle.grid.specs.Bodies.{lane_number_of}
use Rattle.refusal.specs.declared.kinds.CallFault.TheVariants as fault
use Rattle.message.specs.declared.row.MessageRow.{MessageRow}
use Rattle.message.specs.declared.row.MessageRow.TheVariants as message
use Rattle.vehicle.specs.declared.rows.Claim.{Claim}
use Rattle.vehicle.specs.declared.rows.State.{State}
use Rattle.vehicle.specs.declared.rows.State.TheVariants.{Idle, Asking, Changing, Crossing}
use Rattle.vehicle.specs.declared.rows.VehicleRow.{VehicleRow}
use Rattle.vehicle.specs.declared.vehicle.Vehicle.{Vehicle}
use Rattle.vehicle.specs.Rows.{good_lag}
use Rattle.vehicle.specs.States.{in_state}
use Rattle.run.specs.declared.run.Run.{Run}
use Rattle.run.specs.Calls.{Agrees, Asks, Cancels, Changes, MayAsk, Nudges, OneTick, Whole, is_crossing, keeping, next_claim, numbered, of_vehicle, sending}
use Rattle.run.specs.Tables.{Ruled}
use Rattle.run.specs.Worlds.{Arrived, Conduct, Later, Stage, ahead_of, last_of_lane, row_of, stage, world}
use Rattle.lent.specs.Scenes.{VehicleAt}
use Rattle.lent.proofs.Later.{posted, vehicles_long, written}

-- the vehicle was admitted, and this is its record
abbrev pub Admitted : {P : Type 0} → Conduct P → Stage P → ℕ → Vehicle → Type 0
Admitted c s v x = Ruled (of_vehicle c.view s v) (VehicleAt s v) (Unit {0}) (Ok x)

module _ {P : Type 0} (c : Conduct P) (s : Stage P) (v : ℕ) (x : Vehicle) (r : Admitted c s v x) where
  abbrev there : VehicleRow
  there = row_of (world s).vehicles v

  whole : Whole s.run s.vehicles s.mail
  whole = r.by.0

  agrees : Agrees s.run (c.view s.policy)
  agrees = r.by.1.0

  at : Arrived (world s).vehicles v
  at = r.by.1.1.0

  is : x.row ≡ there
  is = r.by.1.1.1.row

  within : v ≤ s.run.vehicles
  within = omega (arith, at.1, vehicles_long s whole)

  -- what is known of the row's state holds of that in the counted part
  at_state : (F : State → Type 0) → F x.row.state → F there.state
  at_state F = subst (λ y. F y.state) is

  -- those of lower numbers, among all and among those counted
  pub ahead : ahead_of (world s).vehicles v ≡ last_of_lane (lane_number_of x.row.body) (take (v - 1) s.vehicles)
  ahead =
      ap (λ y. last_of_lane (lane_number_of y.body) (take (v - 1) (world s).vehicles)) (sym is)
      ∙ ap (last_of_lane (lane_number_of x.row.body)) (take-take (v - 1) s.run.vehicles s.vehicles (omega (arith, within)))

  -- the row is written anew, and a message sent
  module _ (t : Run) (j : t.junction ≡ s.run.junction) (k : t.clock ≡ s.run.clock) (n : t.vehicles ≡ s.run.vehicles) (m : t.mail ≡ s.run.mail + 1) (ms : List MessageRow) where
    put : (f : VehicleRow → VehicleRow) (g : VehicleRow → MessageRow) → s.run.mail < length s.mail → ms ≡ set s.mail s.run.mail (g x.row)
        → Later c.view s (record { vehicles = set (world s).vehicles (v - 1) (f there); mail = (world s).mail ++ g there ∷ []; policy = s.policy })
        (stage t (set s.vehicles (v - 1) (f x.row)) ms s.policy)
    put f g free sent =
        subst (λ y. Later c.view s (record { vehicles = set (world s).vehicles (v - 1) (f y); mail = (world s).mail ++ g y ∷ []; policy = s.policy })
        (stage t (set s.vehicles (v - 1) (f x.row)) ms s.policy)) is
        (posted c.view s whole agrees j k v at.0 within (f x.row) (g x.row) free n m ms sent)

    abbrev after : VehicleRow → Stage P
    after y = stage t (set s.vehicles (v - 1) y) ms s.policy

    -- an entry is asked for
    module _ (e : ℕ) where
      -- the rows of `sending`, at the row in the counted part
      abbrev Sent : MessageRow → VehicleRow → Type 0
      Sent z y = Ruled (sending s.run y e (length s.mail)) (λ k. (k ≡ s.run.mail + 1) × (ms ≡ set s.mail s.run.mail z)) (ms ≡ s.mail) (Ok t.mail)

      pub asks_done : Sent (message.Request v (x.row.used + 1) e x.row.distance) x.row → MayAsk x.row.state → last_of_lane (lane_number_of x.row.body) (take (v - 1) s.vehicles) ≡ None
          → Asks c s (after (numbered x.row (Asking (next_claim x.row e)))) v e (Ok (x.row.used + 1))
      asks_done sent may lead =
          let u = (subst (Sent (message.Request v (x.row.used + 1) e x.row.distance)) is sent).by in
          record {
            by = (
              whole,
              (
                agrees,
                (
                  at,
                  (
                    at_state MayAsk may,
                    (
                      ahead ∙ lead,
                      (
                        u.0,
                        (
                          u.1.0,
                          (
                            u.1.1.0,
                            (
                              u.1.1.1.0,
                              (
                                ap (λ y. y.used + 1) is,
                                put (λ y. numbered y (Asking (next_claim y e))) (λ y. message.Request v (x.row.used + 1) e y.distance) u.1.1.1.0 u.1.1.1.1.1,
                              ),
                            ),
                          ),
                        ),
                      ),
                    ),
                  ),
                ),
              ),
            );
          }

      pub changes_done : (held : Claim) → Sent (message.Change v (x.row.used + 1) held.number e x.row.distance) x.row → Some held ≡ keeping x.row.state
          → Changes c s (after (numbered x.row (Changing held (next_claim x.row e)))) v e (Ok (x.row.used + 1))
      changes_done held sent kept =
          let u = (subst (Sent (message.Change v (x.row.used + 1) held.number e x.row.distance)) is sent).by in
          let holds = at_state (λ y. keeping y ≡ Some held) (sym kept) in
          record {
            by = (
              whole,
              (
                agrees,
                (
                  at,
                  (
                    ap is_some holds,
                    (
                      u.0,
                      (
                        u.1.0,
                        (
                          u.1.1.0,
                          (
                            u.1.1.1.0,
                            (
                              ap (λ y. y.used + 1) is,
                              (
                                held,
                                holds,
                                put (λ y. numbered y (Changing held (next_claim y e))) (λ y. message.Change v (x.row.used + 1) held.number e y.distance) u.1.1.1.0 u.1.1.1.1.1,
                              ),
                            ),
                          ),
                        ),
                      ),
                    ),
                  ),
                ),
              ),
            );
          }

    pub cancels_done : (held : Claim) → Some held ≡ keeping x.row.state → s.run.mail < length s.mail → ms ≡ set s.mail s.run.mail (message.Cancel v held.number)
        → Cancels c s (after (in_state x.row Idle)) v (Ok tt)
    cancels_done held kept free sent =
        let holds = at_state (λ y. keeping y ≡ Some held) (sym kept) in
        record {
          by = (
            whole,
            (
              agrees,
              (
                at,
                (
                  ap is_some holds,
                  (
                    free,
                    (
                      held,
                      holds,
                      put (λ y. in_state y Idle) (λ y. message.Cancel v held.number) free sent,
                    ),
                  ),
                ),
              ),
            ),
          );
        }

  -- the vehicle crosses
  module _ (by : ℤ) (held : Claim) (lag : ℤ) (nudged : ℕ) (crosses : x.row.state ≡ Crossing held lag nudged) (one : OneTick by) (first : nudged ≡ s.run.clock → ⊥) where
    crosses_there : there.state ≡ Crossing held lag nudged
    crosses_there = at_state (λ y. y ≡ Crossing held lag nudged) crosses

    once : (h : Claim) (l : ℤ) (n : ℕ) → there.state ≡ Crossing h l n → n ≡ s.run.clock → ⊥
    once h l n is' now = first (let z : nudged ≡ n = (let e = crosses_there in cc) in z ∙ now)

    same_lag : (h : Claim) (l : ℤ) (n : ℕ) → there.state ≡ Crossing h l n → lag ≡ l
    same_lag h l n is' = let e = crosses_there in cc

    pub nudges_late : good_lag s.run.junction.buffer (lag +ℤ by) ≡ false → Nudges c s s v by (Err fault.Lag)
    nudges_late bad =
        record {
          by = inr (
            whole,
            inr (
              agrees,
              inr (
                at,
                inr (
                  ap is_crossing crosses_there,
                  inr (
                    (one, once),
                    inl (
                      (λ all. both_ways _ bad (all held lag nudged crosses_there)),
                      refl,
                      refl,
                    ),
                  ),
                ),
              ),
            ),
          );
        }

    pub nudges_done : (z : ℤ) → z ≡ lag +ℤ by → good_lag s.run.junction.buffer (lag +ℤ by) ≡ true
        → Nudges c s (stage s.run (set s.vehicles (v - 1) (in_state x.row (Crossing held z s.run.clock))) s.mail s.policy) v by (Ok tt)
    nudges_done z is-z good =
        let new = stage s.run (set s.vehicles (v - 1) (in_state x.row (Crossing held z s.run.clock))) s.mail s.policy in
        let rows = λ (y : VehicleRow) (z : ℤ). set (world s).vehicles (v - 1) (in_state y (Crossing held z s.run.clock)) in
        record {
          by = (
            whole,
            (
              agrees,
              (
                at,
                (
                  ap is_crossing crosses_there,
                  (
                    (one, once),
                    (
                      (λ h l n is'. subst (λ l. good_lag s.run.junction.buffer (l +ℤ by) ≡ true) (same_lag h l n is') good),
                      (
                        held,
                        lag,
                        nudged,
                        crosses_there,
                        subst (λ z. Later c.view s (record { vehicles = rows there z; mail = (world s).mail; policy = s.policy }) new) is-z
                            (subst (λ y. Later c.view s (record { vehicles = rows y z; mail = (world s).mail; policy = s.policy }) new) is
                            (written c.view s whole agrees refl refl v at.0 within (in_state x.row (Crossing held z s.run.clock)) refl refl)),
                      ),
                    ),
                  ),
                ),
              ),
            ),
          );
        }
