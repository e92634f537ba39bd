use Rattle.std.proofs.lemmas.Result.{err_from_is_err_and}
use Rattle.lines.proofs.Verdicts.{bad_field, is_line, wrong_pair}
use Rattle.lines.proofs.reading.read_message.Goals as goal

pub returns-in_err-numbers : goal.returns-in_err-numbers
returns-in_err-numbers c =
    let p = err_from_is_err_and c.from_residual.result c.from_residual.ensures.1 in
    rw (p.1, p.2) (bad_field _ _ c.requires c.in_err-numbers.field-0.0 c.in_err-numbers.ensures)

pub returns : goal.returns
returns c =
    let h = c.in_ok-numbers.ensures in
    let w = rw c.deref.ensures.0 at c.in-Some.ensures in
    is_line _ _ c.requires _ h.0 h.1 c.in-Some.row w.0 w.1

pub returns-in_default : goal.returns-in_default
returns-in_default c =
    let h = c.in_ok-numbers.ensures in
    let w = rw c.deref.ensures.0 at c.in_default.ensures in
    rw c.fault_in.ensures (wrong_pair _ _ c.requires _ h.0 h.1 w.0 w.1)
