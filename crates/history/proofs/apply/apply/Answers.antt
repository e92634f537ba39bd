use Rattle.std.proofs.Common.{◌≡◌, w32, SFits, to_z, of_z, rules}
use Rattle.std.proofs.lemmas.Int.{to_z-of_z}
use Rattle.history.proofs.apply.apply.Goals as goal

pub returns-in-Arrive : goal.returns-in-Arrive
returns-in-Arrive g c = record { made = rw c.in-Arrive.is (c.arrive.result, c.arrive.ensures.answer, search rules) }

pub returns-in-Ask : goal.returns-in-Ask
returns-in-Ask g c = record { made = rw c.in-Ask.is (c.ask.result, c.ask.ensures.answer, search rules) }

pub returns-in-Change : goal.returns-in-Change
returns-in-Change g c = record { made = rw c.in-Change.is (c.change.result, c.change.ensures.answer, search rules) }

-- a signed argument comes back from its bits
pub returns-in-Nudge : goal.returns-in-Nudge
returns-in-Nudge g c =
    let fits : SFits w32 c.in-Nudge.by = search rules in
    let back : to_z w32 (of_z w32 c.in-Nudge.by) ≡ c.in-Nudge.by = to_z-of_z w32 c.in-Nudge.by fits in
    record { made = rw c.in-Nudge.is (c.nudge.result, rw back at c.nudge.ensures.answer, search rules) }
