use Rattle.std.proofs.Common.{sym, arith}
use Rattle.std.proofs.lemmas.List.{set_past}
use Rattle.ticking.proofs.lanes.Lanes.put.Goals as goal

pub returns-else-lane-lt8 : goal.returns-else-lane-lt8
returns-else-lane-lt8 c = sym (set_past c.args.self.now.behind c.args.lane _ (omega arith))
