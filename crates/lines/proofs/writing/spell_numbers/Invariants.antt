use Rattle.std.proofs.Common.{◌≡◌, ◌++◌, drop}
use Rattle.lines.specs.Lines.{text_of}
use Rattle.lines.proofs.Spells.{commaed}
use Rattle.lines.proofs.writing.spell_numbers.Given as goal

abbrev pub invariant-loop-number : goal.invariant-loop-number
invariant-loop-number l = l.line.items ++ commaed (drop l.number-index l.numbers) ≡ text_of l.fn.kind l.numbers
