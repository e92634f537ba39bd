use Rattle.grid.proofs.Known.{known}
use Rattle.grid.proofs.path.Path.steps_tiles.Goals as goal

pub overflow_sub-self : goal.overflow_sub-self
overflow_sub-self c = (known c.args.self.now).some
