use Rattle.std.proofs.Common.{◌∙◌}
use Rattle.grid.specs.Steps.{step_touches}
use Rattle.grid.proofs.Sweeps.{some_single}
use Rattle.grid.proofs.path.Path.tiles_in.Goals as goal

pub returns : goal.returns
returns c tile =
    let p = c.args.self.now in
    c.steps_tiles.ensures.answer tile ∙ some_single c.args.s (λ s. step_touches p.junction.lanes p.body s tile)
