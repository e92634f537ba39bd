-- antt computes every statement of the list.
use Rattle.std.proofs.Common.{refl}
use Rattle.grid.specs.Paths.{last_point_of, point_of_path, point_touches}
use Rattle.grid.specs.Some.{some}
use Rattle.grid.specs.Steps.{duration_of, path_touches, step_touches}
use Rattle.reservation.specs.Cells.{has, locks, share}
use Rattle.worked.proofs.list.hold.Goals as goal

pub returns : goal.returns
unfolding last_point_of point_of_path point_touches some duration_of path_touches step_touches has locks share
returns c = refl
