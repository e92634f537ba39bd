use Rattle.std.proofs.Common.{◌≤◌, length, sym, arith}
use Rattle.std.proofs.lemmas.List.{set_past}
use Rattle.layers.proofs.lane_table.with_limit.Goals as goal

pub returns-else-lane-lt8 : goal.returns-else-lane-lt8
returns-else-lane-lt8 c =
    let past : length c.args.limits ≤ c.args.lane = omega arith in
    sym (set_past c.args.limits c.args.lane c.args.limit past)
