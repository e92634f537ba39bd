use Rattle.std.proofs.Common.{arith}
use Rattle.std.proofs.lemmas.Bool.Decides.{nat_tests}
use Rattle.reservation.specs.Requests.{numbers_in_range}
use Rattle.reservation.proofs.making.numbers_fit.Goals as goal

pub returns-then-r-le2000 : goal.returns-then-r-le2000
unfolding numbers_in_range
returns-then-r-le2000 c = grind (arith, nat_tests)

pub returns-else-r-le2000 : goal.returns-else-r-le2000
unfolding numbers_in_range
returns-else-r-le2000 c = grind (arith, nat_tests)
