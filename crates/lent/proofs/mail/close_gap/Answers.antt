use Rattle.std.proofs.Common.{◌∙◌}
use Rattle.lent.proofs.Memory.{gap_closed}
use Rattle.lent.proofs.mail.close_gap.Goals as goal

pub returns : goal.returns
returns c = c.copy_within.ensures.after ∙ gap_closed c.args.mail.now c.args.count c.args.i c.requires.inside
