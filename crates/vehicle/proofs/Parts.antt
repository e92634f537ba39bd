-- The numbers of a good row, part by part. Assumes nothing.
use Rattle.std.proofs.Common.{◌≡◌, ℕ, ◌≤◌, true, ◌&&◌, leb, ℤ, pos, neg_ℤ, ◌≤ℤ◌, Some, subst, arith}
use lib.Signed.{le_z}
use Rattle.std.proofs.lemmas.Bool.{and_from, and_parts}
use Rattle.std.proofs.lemmas.Int.{ints}
use Rattle.std.proofs.lemmas.Option.{none-some, same_Some}
use Rattle.std.proofs.lemmas.Bool.Decides.{nat_tests}
use Rattle.grid.specs.declared.junction.Junction.{Junction}
use Rattle.grid.specs.Bodies.{Fits, fits}
use Rattle.grid.proofs.Fitting.{fits_parts}
use Rattle.vehicle.specs.declared.rows.Claim.{Claim}
use Rattle.vehicle.specs.declared.rows.State.{State}
use Rattle.vehicle.specs.declared.rows.State.TheVariants.{Idle, Asking, Holding, Changing, Crossing, Done}
use Rattle.vehicle.specs.declared.rows.VehicleRow.{VehicleRow}
use Rattle.vehicle.specs.Rows.{good_claim, good_lag, good_numbers, good_row, good_state}
use Rattle.vehicle.specs.States.{awaited_of, held_of, in_state}

carried : (c d : Claim) → Some d ≡ Some c → good_claim d ≡ true → good_claim c ≡ true
carried c d is e = subst (λ x. good_claim x ≡ true) (same_Some d c is) e

pub record GoodRow (j : Junction) (row : VehicleRow) : Type 0 where
  pub fitting : fits j.lanes row.body ≡ true
  pub body : Fits j.lanes row.body
  pub distance : row.distance ≤ 2000
  pub first_some : 1 ≤ row.first_distance
  pub first : row.first_distance ≤ 2000
  pub arrival : row.arrival ≤ 1000000
  pub used : row.used ≤ 1000
  pub heard : row.heard ≤ 1000
  pub state : good_state j.buffer row.state ≡ true

pub good_parts : (j : Junction) (row : VehicleRow) → good_row j row ≡ true → GoodRow j row
unfolding good_row
good_parts j row e =
    let outer = and_parts (fits j.lanes row.body && good_numbers row) (good_state j.buffer row.state) e in
    let inner = and_parts (fits j.lanes row.body) (good_numbers row) outer.0 in
    let numbers = inner.1 in
    record {
      fitting = inner.0;
      body = fits_parts j.lanes row.body inner.0;
      distance = grind (arith, nat_tests);
      first_some = grind (arith, nat_tests);
      first = grind (arith, nat_tests);
      arrival = grind (arith, nat_tests);
      used = grind (arith, nat_tests);
      heard = grind (arith, nat_tests);
      state = outer.1;
    }

pub record GoodClaim (c : Claim) : Type 0 where
  pub some : 1 ≤ c.number
  pub number : c.number ≤ 1000
  pub entry : c.entry ≤ 1000127

pub claim_parts : (c : Claim) → good_claim c ≡ true → GoodClaim c
claim_parts c e = record { some = grind (arith, nat_tests); number = grind (arith, nat_tests); entry = grind (arith, nat_tests) }

-- the vehicle is at most b ticks off its plan
pub record GoodLag (b : ℕ) (lag : ℤ) : Type 0 where
  pub early : neg_ℤ (pos b) ≤ℤ lag
  pub late : lag ≤ℤ pos b

pub lag_parts : (b : ℕ) (lag : ℤ) → good_lag b lag ≡ true → GoodLag b lag
lag_parts b lag e =
    let parts = and_parts (le_z (neg_ℤ (pos b)) lag) (le_z lag (pos b)) e in
    let early = parts.0 in
    let late = parts.1 in
    record { early = grind (arith, ints); late = grind (arith, ints) }

-- and back
pub good_from : (j : Junction) (row : VehicleRow) → GoodRow j row → good_row j row ≡ true
unfolding good_row
good_from j row good =
    let distance = good.distance in
    let some = good.first_some in
    let first = good.first in
    let arrival = good.arrival in
    let used = good.used in
    let heard = good.heard in
    and_from (fits j.lanes row.body && good_numbers row) (good_state j.buffer row.state)
    (and_from (fits j.lanes row.body) (good_numbers row) good.fitting (grind (arith, nat_tests)))
    good.state

-- what a good state holds and awaits are claims in range
pub held_good : (b : ℕ) (s : State) → good_state b s ≡ true → (c : Claim) → held_of s ≡ Some c → good_claim c ≡ true
held_good b Idle e c is = absurd (none-some c is)
held_good b (Asking d) e c is = absurd (none-some c is)
held_good b (Holding d) e c is = carried c d is e
held_good b (Changing d a) e c is = carried c d is (and_parts (good_claim d) (good_claim a) e).0
held_good b (Crossing d lag nudged) e c is =
    carried c d is (and_parts (good_claim d) (good_lag b lag) (and_parts (good_claim d && good_lag b lag) (leb nudged 1000000) e).0).0
held_good b (Done tick) e c is = absurd (none-some c is)

pub awaited_good : (b : ℕ) (s : State) → good_state b s ≡ true → (c : Claim) → awaited_of s ≡ Some c → good_claim c ≡ true
awaited_good b Idle e c is = absurd (none-some c is)
awaited_good b (Asking d) e c is = carried c d is e
awaited_good b (Holding d) e c is = absurd (none-some c is)
awaited_good b (Changing d a) e c is = carried c a is (and_parts (good_claim d) (good_claim a) e).1
awaited_good b (Crossing d lag nudged) e c is = absurd (none-some c is)
awaited_good b (Done tick) e c is = absurd (none-some c is)

module _ (j : Junction) (row : VehicleRow) (good : good_row j row ≡ true) where
  in_state_lem : (s : State) → row.state ≡ s → good_state j.buffer s ≡ true
  in_state_lem s is = subst (λ s. good_state j.buffer s ≡ true) is (good_parts j row good).state

  pub crossing_lag : (held : Claim) (lag : ℤ) (nudged : ℕ) → row.state ≡ Crossing held lag nudged → GoodLag j.buffer lag
  crossing_lag held lag nudged is =
      let outer = and_parts (good_claim held && good_lag j.buffer lag) (leb nudged 1000000) (in_state_lem _ is) in
      lag_parts j.buffer lag (and_parts (good_claim held) (good_lag j.buffer lag) outer.0).1

  -- in another state that is good, the row is good
  pub good_in_state : (s : State) → good_state j.buffer s ≡ true → good_row j (in_state row s) ≡ true
  good_in_state s e =
      let parts = good_parts j row good in
      good_from j (in_state row s) (record {
        fitting = parts.fitting;
        body = parts.body;
        distance = parts.distance;
        first_some = parts.first_some;
        first = parts.first;
        arrival = parts.arrival;
        used = parts.used;
        heard = parts.heard;
        state = e;
      })
