use Rattle.std.proofs.Common.{refl}
use Rattle.run.specs.Calls.{arriving}
use Rattle.run.specs.Worlds.{stage}
use Rattle.lent.proofs.Later.{joined}
use Rattle.vehicle_calls.proofs.arriving.arrive.Goals as goal

pub returns : goal.returns
returns g c =
    let s = stage c.args.run.now c.args.vehicles.now c.args.mail.now c.args.policy.now in
    let r = c.in_ok-ready.ensures.answer.by in
    record {
      answer = record {
        by = (
          r.0,
          (
            r.1.0,
            (
              c.fits_approach.ensures.0 c.if-not-fits_approach.false,
              (
                c.if-run-vehicles.false,
                (
                  c.is_clear.ensures.0 c.if-not-is_clear.false,
                  (
                    refl,
                    joined g.P.Policy.view s r.0 r.1.0 refl refl (arriving s.run.clock c.args.body c.args.distance) c.if-run-vehicles.false refl refl,
                  ),
                ),
              ),
            ),
          ),
        );
      };
    }
