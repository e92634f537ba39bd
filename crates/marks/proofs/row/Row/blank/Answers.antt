use Rattle.std.proofs.Common.{not, eqb, sym, refl, ap, ◌∙◌}
use Rattle.std.proofs.lemmas.List.{get_or-replicate}
use Rattle.grid.proofs.Digits.{bit_zero}
use Rattle.marks.proofs.row.Row.blank.Goals as goal

pub invariant_of-result : goal.invariant_of-result
invariant_of-result c = record {
  long = refl;
  agree = λ tile below. bit_zero tile ∙ ap (λ x. not (eqb x 0)) (sym (get_or-replicate 64 tile 0 0 below));
}

pub returns : goal.returns
returns c tile below = get_or-replicate 64 tile 0 0 below
