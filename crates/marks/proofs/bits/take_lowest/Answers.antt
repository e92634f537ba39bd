use Rattle.std.proofs.Common.{◌-◌, ◌^◌, ◌<◌, arith}
use Rattle.std.proofs.lemmas.Nat.{and_le_r}
use Rattle.marks.proofs.Lowest.{lowest_on, without_lowest}
use Rattle.marks.proofs.bits.take_lowest.Goals as goal

pub returns : goal.returns
returns c =
    let word = c.args.word.now in
    let fits : word < 2 ^ 64 = omega arith in
    let low = lowest_on 64 word fits c.requires in
    record { within = low.0; on = low.1; bits = without_lowest 64 word fits c.requires; falls = omega (arith, and_le_r word (word - 1)) }
