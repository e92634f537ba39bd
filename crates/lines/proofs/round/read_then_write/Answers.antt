use Rattle.std.proofs.Common.{refl, arith}
use Rattle.std.proofs.lemmas.Result.{err_from_is_err_and}
use Rattle.lines.proofs.Laws.{some_room}
use Rattle.lines.proofs.round.read_then_write.Goals as goal

pub returns-in_err-message : goal.returns-in_err-message
returns-in_err-message c =
    let p = err_from_is_err_and c.from_residual.result c.from_residual.ensures.1 in
    record { same = rw (p.1, p.2) (c.in_err-message.ensures.answer, refl) }

-- 64 bytes are room for the line of any message
pub unreachable-requires : goal.unreachable-requires
unreachable-requires c =
    some_room c.in_ok-message.message.row c.in_ok-message.message.ok c.args.memory.now (omega arith) c.in-Err.field-0 c.in-Err.ensures.answer
