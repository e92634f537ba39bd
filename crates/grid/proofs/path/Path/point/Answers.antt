use Rattle.std.proofs.Common.{rules}
use Rattle.grid.proofs.Fitting.{fits_parts}
use Rattle.grid.proofs.path.Path.point.Goals as goal

pub point_at-requires : goal.point_at-requires
point_at-requires c =
    let fit = fits_parts c.args.self.now.junction.lanes c.args.self.now.body c.args.self.now.fitting in
    search rules
