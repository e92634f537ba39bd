use Rattle.std.proofs.Common.{◌≡◌, ℕ, false, not, ◌&&◌, List, is_some, Option, sym, refl, ap, arith}
use Rattle.std.proofs.lemmas.Bool.{both_ways, cond-false}
use Rattle.grid.specs.declared.junction.Junction.{Junction}
use Rattle.vehicle.specs.declared.rows.State.TheVariants.{Done}
use Rattle.vehicle.specs.declared.rows.VehicleRow.{VehicleRow}
use Rattle.vehicle.specs.States.{done_at, is_in_lane}
use Rattle.run.specs.Ticks.{goes_on}
use Rattle.ticking.specs.Turning.{Passed}
use Rattle.ticking.proofs.turning.pass.Goals as goal

done_stays : (j : Junction) (clock : ℕ) (places : List (Option ℕ)) (r : VehicleRow) (tick : ℕ) → r.state ≡ Done tick → Passed j clock places places r r false
done_stays j clock places r tick is =
    let outside : is_in_lane r.state ≡ false = ap is_in_lane is in
    record {
      row = λ fitting. record {
        body = refl;
        first = refl;
        arrival = refl;
        used = refl;
        heard = refl;
        distance = sym (cond-false (is_in_lane r.state) _ r.distance outside);
        state = goes_on (λ held e. both_ways (is_in_lane r.state) outside e.0) (λ held lag nudged e over. let z : ◌≡◌ {A = ℕ} 0 1 = cc in let k : ⊥ = omega arith in k) refl;
      };
      seen = sym (cond-false (is_in_lane r.state) _ places outside);
      ended_is = sym (ap (λ s. not (is_some (done_at s)) && is_some (done_at s)) is);
    }

pub returns-in-Done : goal.returns-in-Done
returns-in-Done c = done_stays c.args.now.junction c.args.now.clock c.args.lanes.now.behind c.args.row.now _ c.in-Done.is
