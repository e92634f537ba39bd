-- The numbers of a request in range, part by part. Assumes nothing.
use Rattle.std.proofs.Common.{◌≡◌, ◌≤◌, true, arith}
use Rattle.std.proofs.lemmas.Bool.{and_parts}
use Rattle.std.proofs.lemmas.Bool.Decides.{nat_tests}
use Rattle.grid.specs.declared.junction.Junction.{Junction}
use Rattle.grid.specs.Bodies.{Fits, fits}
use Rattle.grid.specs.Steps.{duration_of}
use Rattle.grid.proofs.Fitting.{fits_parts, lasts_few, lasts_some}
use Rattle.reservation.specs.declared.request.Request.{Request}
use Rattle.reservation.specs.Requests.{in_range, numbers_in_range}

pub record InRange (j : Junction) (r : Request) : Type 0 where
  pub vehicle : 1 ≤ r.vehicle
  pub vehicles : r.vehicle ≤ 1024
  pub number : 1 ≤ r.number
  pub numbers : r.number ≤ 1000
  pub distance : r.distance ≤ 2000
  pub entry : r.entry ≤ 1000127
  pub body : Fits j.lanes r.body
  -- and so is its duration
  pub some : 1 ≤ duration_of j.lanes r.body
  pub few : duration_of j.lanes r.body ≤ 39
  pub buffer : j.buffer ≤ 4

pub range_parts : (j : Junction) (r : Request) → in_range j r ≡ true → InRange j r
unfolding numbers_in_range
range_parts j r e =
    let parts = and_parts (numbers_in_range r) (fits j.lanes r.body) e in
    let numbers = parts.0 in
    let body = fits_parts j.lanes r.body parts.1 in
    record {
      vehicle = grind (arith, nat_tests);
      vehicles = grind (arith, nat_tests);
      number = grind (arith, nat_tests);
      numbers = grind (arith, nat_tests);
      distance = grind (arith, nat_tests);
      entry = grind (arith, nat_tests);
      body = body;
      some = lasts_some j.lanes r.body j.few body;
      few = lasts_few j.lanes r.body j.few body;
      buffer = j.short;
    }
