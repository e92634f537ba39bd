use Rattle.std.proofs.Common.{rules}
use Rattle.grid.specs.Tables.{row_of}
use Rattle.grid.proofs.course.Course.new.Goals as goal

pub invariant_of-result : goal.invariant_of-result
unfolding row_of
invariant_of-result c = record { fitting = c.requires; stands = search rules }
