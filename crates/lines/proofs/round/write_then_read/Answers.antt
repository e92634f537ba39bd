use Rattle.std.proofs.Common.{◌≡◌, ℕ, List, length, take, Ok, sym, refl, ap, ◌∙◌, subst, arith}
use Rattle.std.proofs.lemmas.List.{take_at}
use Rattle.lines.specs.Lines.{line_of}
use Rattle.lines.specs.Readings.{Only}
use Rattle.lines.specs.Writings.{onto}
use Rattle.lines.proofs.Laws.{some_room}
use Rattle.lines.proofs.round.write_then_read.Goals as goal

-- the bytes in front are the line
the_line : (bs old mem : List ℕ) (n : ℕ) → n ≡ length bs → mem ≡ onto bs old → take n mem ≡ bs
the_line bs old mem n e is = ap (λ i. take i mem) e ∙ ap (take (length bs)) is ∙ take_at bs _ (length bs) refl

pub unreachable-requires : goal.unreachable-requires
unreachable-requires c =
    some_room c.args.message.now.row c.args.message.now.ok c.args.memory.now (omega arith) c.in_default.field-0 c.in_default.ensures.answer

pub unreachable-requires-in_default-read : goal.unreachable-requires-in_default-read
unreachable-requires-in_default-read c =
    let w = c.in-Ok.ensures in
    c.in_default-read.ensures.only (Ok c.args.message.now) (c.front.ensures ∙ the_line (line_of c.args.message.now.row) _ _ _ w.answer.0 w.after)

pub returns-clause-same : goal.returns-clause-same
returns-clause-same c =
    let w = c.in-Ok.ensures in
    let text = c.front.ensures ∙ the_line (line_of c.args.message.now.row) _ _ _ w.answer.0 w.after in
    let only = subst (λ bs. Only bs (Ok c.in-Ok-read.message)) text c.in-Ok-read.ensures.only in
    sym (only (Ok c.args.message.now) refl)
