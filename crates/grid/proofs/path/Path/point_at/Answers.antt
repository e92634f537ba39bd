use Rattle.std.proofs.Common.{arith, rules}
use Rattle.grid.specs.Paths.{last_point_of, point_of_path}
use Rattle.grid.proofs.Fitting.{fits_parts}
use Rattle.grid.proofs.path.Path.point_at.Goals as goal

pub from_south-requires : goal.from_south-requires
unfolding last_point_of
from_south-requires c =
    let p = c.args.self.now in
    let fit = fits_parts p.junction.lanes p.body p.fitting in
    let ends = p.ends in
    record { lane = omega arith; within = omega arith }

pub returns : goal.returns
unfolding point_of_path
returns c = search rules
