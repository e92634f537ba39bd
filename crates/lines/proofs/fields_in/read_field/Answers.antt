use Rattle.std.proofs.Common.{sym, ◌∙◌, subst, arith}
use Rattle.std.proofs.lemmas.Fmt.{decimal_injective}
use Rattle.std.proofs.lemmas.Bool.{true≢false}
use Rattle.message.specs.Fields.{Takes}
use Rattle.message.proofs.Rows.{takes_small}
use Rattle.lines.proofs.fields_in.read_field.Goals as goal

pub returns-else-takes : goal.returns-else-takes
returns-else-takes c g =
    let small = takes_small c.args.field g.0 g.1.0 in
    let same = decimal_injective g.0 c.in_ok-n.n (omega arith) (omega arith) (sym g.1.1 ∙ c.in_ok-n.ensures.answer) in
    true≢false (sym (c.takes.ensures.answer.1 (subst (Takes c.args.field) same g.1.0)) ∙ c.if-takes.false)
