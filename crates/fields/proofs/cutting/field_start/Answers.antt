use Rattle.std.proofs.Common.{◌+◌, length, sym, ◌∙◌, take, rules, arith}
use Rattle.std.proofs.lemmas.Iterator.{YieldsList-from_map, YieldsList-from_take}
use Rattle.std.proofs.lemmas.Iterator.Consumers.{YieldsList-at, fits_by_from_yields_list, sum_by_from_yields_List}
use Rattle.std.proofs.lemmas.Iterator.Splits.{YieldsList-from_slice_split}
use Rattle.fields.specs.Texts.{comma, split}
use Rattle.fields.proofs.Cuts.{begins_sum, fields_within}
use Rattle.fields.proofs.cutting.field_start.Goals as goal

pub sum-requires-clause-fits : goal.sum-requires-clause-fits
sum-requires-clause-fits c =
    fits_by_from_yields_list (λ f. length f + 1) (take c.args.index (split c.args.text.now)) c.map.result _
    (YieldsList-from_map _ (λ f. length f + 1) (YieldsList-at c.map.ensures.source (YieldsList-from_take c.args.index (YieldsList-at c.take.ensures.source (YieldsList-from_slice_split _ comma c.args.text.now c.split.ensures.rest c.split.ensures.done c.split.ensures.closure (λ x b q k. search rules))) c.take.ensures.count)) c.map.ensures.closure (λ x r q k. search rules))
    (omega (arith, fields_within c.args.text.now c.args.index))

pub returns : goal.returns
returns c = record {
  answer =
      sum_by_from_yields_List (λ f. length f + 1) (take c.args.index (split c.args.text.now)) c.map.result c.sum.result c.sum.ensures.ran
      (YieldsList-from_map _ (λ f. length f + 1) (YieldsList-at c.map.ensures.source (YieldsList-from_take c.args.index (YieldsList-at c.take.ensures.source (YieldsList-from_slice_split _ comma c.args.text.now c.split.ensures.rest c.split.ensures.done c.split.ensures.closure (λ x b q k. search rules))) c.take.ensures.count)) c.map.ensures.closure (λ x r q k. search rules))
      ∙ sym (begins_sum (split c.args.text.now) c.args.index);
}
