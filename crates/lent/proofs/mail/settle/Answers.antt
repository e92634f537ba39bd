use Rattle.std.proofs.Common.{arith}
use Rattle.lent.proofs.Settling.{gone, replaced}
use Rattle.lent.proofs.mail.settle.Goals as goal

pub returns-in-Some : goal.returns-in-Some
returns-in-Some c =
    record {
      after = λ at. replaced c.args.mail.now c.args.count c.args.message at c.args.reply c.in-Some.row c.in-Some.is;
      same = λ out. absurd (out (omega arith, omega arith, omega arith));
    }

pub returns-in-None : goal.returns-in-None
returns-in-None c =
    record {
      after = λ at. gone c.args.mail.now c.args.count c.args.message at c.args.reply c.in-None.is c.close_gap.new.mail c.close_gap.ensures;
      same = λ out. absurd (out (omega arith, omega arith, omega arith));
    }
