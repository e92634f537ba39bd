use Rattle.std.proofs.Common.{length, ap}
use Rattle.lines.proofs.Verdicts.{no_word, opens, wrong_count}
use Rattle.lines.proofs.reading.read_kind.Goals as goal

pub returns-in_default : goal.returns-in_default
returns-in_default c =
    no_word c.args.line.now c.first_len.result c.first_len.ensures.answer (c.is_sized.ensures.0 c.if-not-is_sized.false) c.in_default.ensures

pub returns-then-found-fields : goal.returns-then-found-fields
returns-then-found-fields c =
    wrong_count c.args.line.now c.first_len.result c.first_len.ensures.answer (c.is_sized.ensures.0 c.if-not-is_sized.false)
    c.in-Some.kind c.in-Some.ensures _ _ c.count_fields-found.ensures.answer (ap length c.fields.ensures.answer) c.if-found-fields.true

pub returns : goal.returns
returns c =
    opens c.args.line.now c.first_len.result c.first_len.ensures.answer (c.is_sized.ensures.0 c.if-not-is_sized.false)
    c.in-Some.kind c.in-Some.ensures _ _ c.count_fields-found.ensures.answer (ap length c.fields.ensures.answer) c.if-found-fields.false
