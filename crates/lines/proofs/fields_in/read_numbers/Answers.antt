use Rattle.std.proofs.Common.{◌<◌, length, arith, rules}
use Rattle.message.specs.Fields.{fields_of}
use Rattle.lines.proofs.Steps.{all_read, behind, few_fields, first_bad, inside, one_more, pieces}
use Rattle.lines.proofs.fields_in.read_numbers.Goals as goal

pub fault_in-requires : goal.fault_in-requires
fault_in-requires c =
    let i : length c.loop-field.numbers.items < length (fields_of c.args.kind) =
    inside _ _ (behind c.args.kind c.args.line.now c.requires) (pieces {s = c.into_iter-field-iterator.result} _ _ c.args.line.now (cc) (cc) (cc) (cc) (cc) (λ x b q k. search rules)) c.loop-field.yielded _ c.loop-field.yielded_by
    c.loop-field.numbers.items c.loop-field.invariant.so_far _ c.next.new.self _ c.in-Some.is c.next.ensures.steps in
    omega (arith, few_fields c.args.kind)

pub returns-in_default : goal.returns-in_default
returns-in_default c = record {
  place = c.len.result;
  bad = rw c.len.ensures.value (first_bad _ _ (behind c.args.kind c.args.line.now c.requires) (pieces {s = c.into_iter-field-iterator.result} _ _ c.args.line.now (cc) (cc) (cc) (cc) (cc) (λ x b q k. search rules)) c.loop-field.yielded _ c.loop-field.yielded_by
      c.loop-field.numbers.items c.loop-field.invariant.so_far _ c.next.new.self _ c.in-Some.is c.next.ensures.steps c.in_default.ensures);
  told = c.fault_in.ensures;
}

pub push-requires : goal.push-requires
push-requires c =
    let i : length c.loop-field.numbers.items < length (fields_of c.args.kind) =
    inside _ _ (behind c.args.kind c.args.line.now c.requires) (pieces {s = c.into_iter-field-iterator.result} _ _ c.args.line.now (cc) (cc) (cc) (cc) (cc) (λ x b q k. search rules)) c.loop-field.yielded _ c.loop-field.yielded_by
    c.loop-field.numbers.items c.loop-field.invariant.so_far _ c.next.new.self _ c.in-Some.is c.next.ensures.steps in
    omega (arith, few_fields c.args.kind)

pub loop-field-preserved : goal.loop-field-preserved
loop-field-preserved c = record {
  can = search rules;
  finite = search rules;
  so_far = rw c.push.ensures.items (one_more _ _ (c.in-Some.field, c.in-Some.text) c.in-Some-read_field.number c.loop-field.invariant.so_far c.in-Some-read_field.ensures);
}

pub returns : goal.returns
returns c =
    all_read _ _ (behind c.args.kind c.args.line.now c.requires) (pieces {s = c.into_iter-field-iterator.result} _ _ c.args.line.now (cc) (cc) (cc) (cc) (cc) (λ x b q k. search rules)) c.loop-field.yielded _ c.loop-field.yielded_by
    c.loop-field.numbers.items c.loop-field.invariant.so_far _ c.next.new.self c.in-None.is c.next.ensures.steps
