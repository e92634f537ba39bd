use Rattle.lines.proofs.Steps.{ReadSoFar}
use Rattle.lines.proofs.fields_in.read_numbers.Given as goal

abbrev pub invariant-loop-field : goal.invariant-loop-field
invariant-loop-field l = record {
  can : (goal.iterator-loop-field).can_next l.field-iterator;
  finite : (goal.iterator-loop-field).is_finite l.field-iterator;
  so_far : ReadSoFar l.yielded l.numbers.items;
}
