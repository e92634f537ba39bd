use Rattle.std.proofs.Common.{ℕ, ◌-◌, ◌+◌, arith, rules}
use Rattle.std.proofs.lemmas.Iterator.{YieldsList-from_range, cases_from_any}
use Rattle.tile_table.specs.Painting.{ForeignAt}
use Rattle.reservation.proofs.Searches.{decides_range}
use Rattle.tile_table.proofs.Spans.{last_small, within_span}
use Rattle.tile_table.proofs.meeting.meets.Goals as goal

pub overflow_add-span : goal.overflow_add-span
overflow_add-span c =
    let f = c.args.footprint.now in
    omega (arith, last_small f.junction f.request f.ranged)

pub returns : goal.returns
returns c =
    let f = c.args.footprint.now in
    let at : ℕ → Type 0 = ForeignAt c.args.marks.now f.junction f.request c.args.vehicle in
    let first : ℕ = c.first_tick.result in
    let end : ℕ = c.last_tick.result + 1 in
    decides_range at first end (λ t w. let span = within_span f.junction f.request w.0 t w.2 in (omega arith, omega arith)) c.any.result
    (cases_from_any _ _ c.any.result at (λ t. at t → ⊥) c.any.ensures.ran (YieldsList-from_range first end (end - first) (cc) (cc)) (λ x q k. search rules) (λ x q k. search rules))
