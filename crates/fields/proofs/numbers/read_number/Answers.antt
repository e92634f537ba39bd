use Rattle.std.proofs.Common.{◌<◌, length, get_or, sym, ◌∙◌, ⊎_elim, arith, true-eqb, false-eqb}
use Rattle.std.proofs.lemmas.Int.Digits.{digits_value_more, digits_more}
use Rattle.std.proofs.lemmas.Bool.{true≢false, cases_lt}
use Rattle.std.proofs.lemmas.Str.{digit_value_digit}
use Rattle.fields.proofs.Decimals.{field_some, field_short, field_head, field_digit, field_value, front_small, all_value, all_decimal}
use Rattle.fields.proofs.numbers.read_number.Goals as goal
use Rattle.fields.proofs.numbers.read_number.Goals.{then-is_empty-via-then-is_empty, then-is_empty-via-else-is_empty+then-field-gt10, then-b-lt48-via-then-b-lt48, then-b-lt48-via-else-b-lt48+then-b-gt57}

pub returns-then-is_empty : goal.returns-then-is_empty
returns-then-is_empty c = record {
  answer =
      λ n small is.
      let some = field_some c.args.field.now n small is in
      let short = field_short c.args.field.now n small is in
      elim c.then-is_empty.branch [
        | then-is_empty-via-then-is_empty w ↦ omega (arith, true-eqb _ 0 w.if-is_empty.ensures)
        | then-is_empty-via-else-is_empty+then-field-gt10 w ↦ omega (arith, w.if-field-gt10.true)
      ];
}

pub returns-then-has_leading_zero : goal.returns-then-has_leading_zero
returns-then-has_leading_zero c = record {
  answer =
      λ n small is.
      let zero = c.has_leading_zero.ensures.0 c.if-has_leading_zero.true in
      omega (arith, field_head c.args.field.now n small is zero.1);
}

pub returns-then-b-lt48 : goal.returns-then-b-lt48
returns-then-b-lt48 c = record {
  answer =
      λ n small is.
      let d = field_digit c.args.field.now n small is c.loop-b.b-index c.loop-b-test.true in
      elim c.then-b-lt48.branch [
        | then-b-lt48-via-then-b-lt48 w ↦ omega (arith, w.if-b-lt48.true)
        | then-b-lt48-via-else-b-lt48+then-b-gt57 w ↦ omega (arith, w.if-b-gt57.true)
      ];
}

pub overflow_mul-n : goal.overflow_mul-n
overflow_mul-n c =
    omega (arith, front_small c.args.field.now c.loop-b.b-index c.loop-b.n (omega arith) c.loop-b.invariant.0 c.loop-b.invariant.1)

pub overflow_add-n : goal.overflow_add-n
overflow_add-n c =
    omega (arith, front_small c.args.field.now c.loop-b.b-index c.loop-b.n (omega arith) c.loop-b.invariant.0 c.loop-b.invariant.1)

pub loop-b-preserved : goal.loop-b-preserved
loop-b-preserved c =
    let lt : c.loop-b.b-index < length c.args.field.now = omega arith in
    let d = digit_value_digit (get_or c.args.field.now c.loop-b.b-index 0) (omega arith, omega arith) in (
      omega (arith, c.loop-b.invariant.0, digits_value_more 10 c.args.field.now c.loop-b.b-index lt),
      digits_more 10 c.args.field.now c.loop-b.b-index lt c.loop-b.invariant.1 (omega arith),
    )

pub returns-then-n : goal.returns-then-n
returns-then-n c = record {
  answer =
      λ n small is.
      let v = all_value c.args.field.now c.loop-b.b-index c.loop-b.n (omega arith) c.loop-b.invariant.0 c.loop-b.invariant.1 (omega arith) in
      let w = field_value c.args.field.now n small is in
      omega arith;
}

pub returns : goal.returns
returns c =
    let some : 0 < length c.args.field.now = omega (arith, false-eqb _ 0 c.if-is_empty.ensures) in
    record {
      answer =
          all_decimal c.args.field.now c.loop-b.b-index c.loop-b.n (omega arith) c.loop-b.invariant.0 c.loop-b.invariant.1 (omega arith) some
          (λ e. ⊎_elim (λ more. absurd (true≢false (sym (c.has_leading_zero.ensures.1 (more, e)) ∙ c.if-has_leading_zero.false))) (λ one. omega arith) (cases_lt 1 (length c.args.field.now)));
    }
