use Rattle.std.proofs.Common.{refl}
use Rattle.run.specs.Worlds.{message_of, stage, world}
use Rattle.lent.proofs.Later.{sent}
use Rattle.calls.proofs.repeating.repeat.Goals as goal

pub returns : goal.returns
returns g c =
    let s = stage c.args.run.now c.args.vehicles.now c.args.mail.now c.args.policy.now in
    let r = c.in_ok-sent.ensures.answer.by in
    let posted = c.in_ok-run.ensures.answer.by in
    record {
      answer = record {
        by = (
          r.0,
          (
            r.1.0,
            (
              r.1.1.0,
              (
                posted.0,
                sent g.P.Policy.view s r.0 r.1.0 refl refl (message_of (world s).mail c.args.message) _ r.1.1.1 posted.0 refl posted.1.0 _ posted.1.1,
              ),
            ),
          ),
        );
      };
    }
