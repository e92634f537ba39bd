use Rattle.std.proofs.Common.{◌*◌, ◌<◌, ◌≢◌, length, ap, ◌∙◌, arith, length-set, get_or-set_other, get_or-set_same, below_more}
use Rattle.grid.specs.Sets.{bit}
use Rattle.grid.specs.Steps.{steps_touch}
use Rattle.grid.proofs.Known.{known}
use Rattle.reservation.proofs.making.sweep.Goals as goal

pub overflow_add-k-end : goal.overflow_add-k-end
overflow_add-k-end c = let k = known c.args.path.now in let b = c.args.path.now.junction.short in omega arith

pub bounds-words-k : goal.bounds-words-k
bounds-words-k c = let k = known c.args.path.now in let b = c.args.path.now.junction.short in omega arith

pub loop-k-preserved : goal.loop-k-preserved
loop-k-preserved c =
    let k = c.loop-k.k in
    let words = c.loop-k.words in
    let bits = c.steps_tiles-tiles.result.bits in
    let slack = 2 * c.args.path.now.junction.buffer in
    let known-path = known c.args.path.now in
    let short = c.args.path.now.junction.short in
    let lt : k < length words = omega arith in (
      length-set words k bits ∙ c.loop-k.invariant.0,
      below_more _ k
          (λ i below tile.
          let ne : i ≢ k = omega arith in
          ap (λ x. bit x tile) (get_or-set_other words k i bits 0 ne) ∙ c.loop-k.invariant.1 i below tile)
          (λ tile.
          ap (λ x. bit x tile) (get_or-set_same words k bits 0 lt)
          ∙ c.steps_tiles-tiles.ensures.answer tile
          ∙ ap (λ x. steps_touch c.args.path.now.junction.lanes c.args.path.now.body x k tile) c.saturating_sub.ensures),
    )
