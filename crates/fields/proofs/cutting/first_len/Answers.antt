use Rattle.std.proofs.Common.{◌≡◌, true, false, arith, rules, refl, sym, ◌∙◌}
use Rattle.std.proofs.lemmas.Iterator.{IsFirst-from_position, YieldsList-from_slice, index_from_first}
use Rattle.fields.specs.Texts.{comma, first_length}
use Rattle.fields.proofs.cutting.first_len.Goals as goal

pub returns-clause-answer : goal.returns-clause-answer
returns-clause-answer c =
    c.unwrap_or.ensures ∙ sym (index_from_first first_length (λ b. comma b ≡ true) (λ b. comma b ≡ false) refl (λ x xs e. rw e refl) (λ x xs e. rw e (omega arith)) c.args.text.now c.position.result
    (IsFirst-from_position _ _ _ (λ b. comma b ≡ true) (λ b. comma b ≡ false) c.position.ensures.ran (YieldsList-from_slice c.args.text.now cc) (λ x q k. search rules) (λ x q k. search rules)))
