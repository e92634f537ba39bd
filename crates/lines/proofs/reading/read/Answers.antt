use Rattle.std.proofs.Common.{Ok}
use Rattle.std.proofs.lemmas.Result.{err_from_is_err_and}
use Rattle.lines.specs.Readings.{Reads}
use Rattle.lines.proofs.Laws.{only_one}
use Rattle.lines.proofs.reading.read.Goals as goal

pub returns-in_err-kind-clause-only : goal.returns-in_err-kind-clause-only
returns-in_err-kind-clause-only c =
    let p = err_from_is_err_and c.from_residual.result c.from_residual.ensures.1 in
    let a : Reads c.args.line.now c.from_residual.result = rw (p.1, p.2) c.in_err-kind.ensures in
    only_one _ _ a

pub returns-in_err-read_message-clause-only : goal.returns-in_err-read_message-clause-only
returns-in_err-read_message-clause-only c =
    let p = err_from_is_err_and c.from_residual-in_err-read_message.result c.from_residual-in_err-read_message.ensures.1 in
    let a : Reads c.args.line.now c.from_residual-in_err-read_message.result = rw (p.1, p.2) c.in_err-read_message.ensures in
    only_one _ _ a

pub returns-clause-only : goal.returns-clause-only
returns-clause-only c = only_one c.args.line.now (Ok c.in_ok-read_message.field-0) c.in_ok-read_message.ensures
