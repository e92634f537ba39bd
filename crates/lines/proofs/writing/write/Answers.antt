use Rattle.std.proofs.Common.{arith}
use Rattle.lines.proofs.Laws.{line_sized}
use Rattle.lines.proofs.writing.write.Goals as goal

-- the line of a message has room in a buffer
pub unreachable-requires : goal.unreachable-requires
unreachable-requires c = omega (arith, c.in_default.ensures, (line_sized c.args.message.now.row c.args.message.now.ok).1)
