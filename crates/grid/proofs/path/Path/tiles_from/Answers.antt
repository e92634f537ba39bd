use Rattle.std.proofs.Common.{◌∙◌, ap₂, arith}
use Rattle.grid.specs.Paths.{point_touches}
use Rattle.grid.specs.Steps.{points_touch}
use Rattle.grid.proofs.Known.{known}
use Rattle.grid.proofs.Sweeps.{some_single}
use Rattle.grid.proofs.path.Path.tiles_from.Goals as goal

pub points_tiles-requires : goal.points_tiles-requires
points_tiles-requires c =
    let p = c.args.self.now in
    let k = known p in
    record { order = omega arith; within = omega arith }

pub returns : goal.returns
returns c tile =
    let p = c.args.self.now in
    c.points_tiles.ensures tile
    ∙ ap₂ (λ j b. points_touch j.lanes b c.args.i c.args.i tile) c.course.ensures.junction c.course.ensures.body
    ∙ some_single c.args.i (λ i. point_touches p.junction.lanes p.body i tile)
