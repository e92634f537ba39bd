use Rattle.std.proofs.Common.{rules, suc, ◌+◌, ◌-◌, ◌/◌, ap, ◌∙◌, ap₂, arith}
use Rattle.grid.specs.Paths.{last_point_of, point_touches}
use Rattle.grid.specs.Some.{some}
use Rattle.grid.specs.Steps.{duration_of, path_touches, points_touch}
use Rattle.grid.proofs.Fitting.{fits_parts}
use Rattle.grid.proofs.Sweeps.{some_whole}
use Rattle.grid.proofs.tracks.work_out.Goals as goal

pub overflow_add-last_point : goal.overflow_add-last_point
overflow_add-last_point c = let fit = fits_parts c.args.junction.lanes c.args.body c.requires in omega arith

pub ticks_for-requires : goal.ticks_for-requires
ticks_for-requires c = let fit = fits_parts c.args.junction.lanes c.args.body c.requires in omega arith

pub invariant_of-result : goal.invariant_of-result
unfolding last_point_of duration_of path_touches
invariant_of-result c =
    let n = c.args.junction.lanes in
    let body = c.args.body in
    let last = c.last_of-last_point.ensures.value in
    record {
      fitting = c.requires;
      ends = last;
      lasts = c.ticks_for.ensures ∙ ap (λ p. (p + body.length + body.speed - 1) / body.speed) last;
      crosses =
          λ tile. c.points_tiles.ensures tile
          ∙ ap₂ (λ j b. points_touch j.lanes b 0 c.last_of-last_point.result tile) c.new-course.ensures.junction c.new-course.ensures.body
          ∙ some_whole (suc c.last_of-last_point.result) (λ i. point_touches n body i tile)
          ∙ ap (λ p. some (suc p) (λ i. point_touches n body i tile)) last;
      stands = search rules;
    }
