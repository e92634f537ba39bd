use Rattle.std.proofs.Common.{◌≡◌, ◌+◌, ◌-◌, ◌*◌, min, sym, ap, ◌∙◌, ap₂, mul-le-mul_right, arith}
use Rattle.grid.specs.Sets.{bit}
use Rattle.grid.specs.Steps.{duration_of, points_touch}
use Rattle.grid.proofs.Digits.{bit_zero}
use Rattle.grid.proofs.Known.{known}
use Rattle.grid.proofs.Sweeps.{no_steps, steps_points}
use Rattle.grid.proofs.path.Path.tiles_during.Goals as goal

pub returns-then-first-top : goal.returns-then-first-top
returns-then-first-top c tile =
    let p = c.args.self.now in
    let k = known p in
    let lasts = p.lasts in
    ap (λ w. bit w tile) c.default.ensures ∙ bit_zero tile ∙ sym (no_steps p.junction.lanes p.body k.lanes k.fit c.args.first c.args.last tile (omega arith))

pub rear_point-from-requires : goal.rear_point-from-requires
rear_point-from-requires c = let k = known c.args.self.now in omega (arith, k.starts c.args.first (omega arith), k.fit.short)

pub front_point-to-requires : goal.front_point-to-requires
front_point-to-requires c =
    let k = known c.args.self.now in
    record { far = omega (arith, k.starts c.args.top (omega arith), k.fit.short); moving = omega arith; slow = k.slow }

pub points_tiles-requires : goal.points_tiles-requires
points_tiles-requires c =
    let p = c.args.self.now in
    let k = known p in
    let rising = mul-le-mul_right p.body.speed c.if-first-top.false in
    let begun = k.starts c.args.first (omega arith) in
    record { order = omega arith; within = omega arith }

pub returns : goal.returns
returns c tile =
    let p = c.args.self.now in
    let n = p.junction.lanes in
    let v = p.body.speed in
    let k = known p in
    let lasts = p.lasts in
    let top : c.args.top ≡ min c.args.last (duration_of n p.body - 1) = c.requires ∙ ap (λ d. min c.args.last (d - 1)) lasts in
    let to = c.front_point-to.ensures ∙ ap (λ t. min (t * v + v - 1) 47) top in
    c.points_tiles.ensures tile
    ∙ ap₂ (λ j b. points_touch j.lanes b c.rear_point-from.result c.front_point-to.result tile) c.course.ensures.junction c.course.ensures.body
    ∙ ap₂ (λ x y. points_touch n p.body x y tile) c.rear_point-from.ensures to
    ∙ sym (steps_points n p.body k.lanes k.fit c.args.first c.args.last tile (omega arith))
