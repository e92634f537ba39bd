use Rattle.std.proofs.Common.{arith, ap}
use lib.ListN.{length}
use Rattle.std.proofs.lemmas.Result.{err_from_is_err_and}
use Rattle.lines.specs.Lines.{text_of}
use Rattle.lines.proofs.Spells.{comma_within, number_within, too_long, written_more}
use Rattle.lines.proofs.writing.spell_numbers.Goals as goal

pub returns-in_err-try_extend_from_slice-2 : goal.returns-in_err-try_extend_from_slice-2
returns-in_err-try_extend_from_slice-2 c =
    let p = err_from_is_err_and c.from_residual-in_err-try_extend_from_slice-2.result c.from_residual-in_err-try_extend_from_slice-2.ensures.1 in
    rw p.1 (omega (arith, too_long _ c.in_err-try_extend_from_slice-2.ensures.variant.1, comma_within (text_of c.args.kind c.args.numbers.now) c.loop-number.line.items c.args.numbers.now c.loop-number.number-index c.loop-number.invariant c.loop-number-test.true))

pub returns-in_err-push_number : goal.returns-in_err-push_number
returns-in_err-push_number c =
    let p = err_from_is_err_and c.from_residual-in_err-push_number.result c.from_residual-in_err-push_number.ensures.1 in
    let more = ap length c.in_ok-try_extend_from_slice-2.ensures.ok in
    rw p.1 (omega (arith, too_long _ c.in_err-push_number.ensures.variant.1, number_within (text_of c.args.kind c.args.numbers.now) c.loop-number.line.items c.args.numbers.now c.loop-number.number-index c.loop-number.invariant c.loop-number-test.true))

pub loop-number-preserved : goal.loop-number-preserved
loop-number-preserved c =
    let text = c.in_ok-push_number.ensures.ok in
    let more = c.in_ok-try_extend_from_slice-2.ensures.ok in
    let left = written_more (text_of c.args.kind c.args.numbers.now) c.loop-number.line.items c.args.numbers.now c.loop-number.number-index c.loop-number.invariant c.loop-number-test.true in
    cc
