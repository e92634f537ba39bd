use Rattle.std.proofs.Common.{◌≡◌, ℕ, ◌+◌, ◌-◌, true, sym, ap, ◌∙◌, arith, rules}
use Rattle.std.proofs.lemmas.Iterator.{YieldsList-from_range, cases_from_any}
use Rattle.grid.specs.Some.{some}
use Rattle.reservation.specs.Cells.{both, both_at}
use Rattle.reservation.specs.Requests.{last_tick_of}
use Rattle.reservation.proofs.Laws.{one_junction, share_decided, shared_within}
use Rattle.reservation.proofs.Meet.{at_one, shares}
use Rattle.reservation.proofs.Ranges.{range_parts}
use Rattle.reservation.proofs.Searches.{decides_range}
use Rattle.reservation.proofs.footprint.Footprint.share_any.Goals as goal

pub overflow_add-common : goal.overflow_add-common
overflow_add-common c =
    let f = c.args.self.now in
    let parts = range_parts f.junction f.request f.ranged in
    omega arith

pub returns : goal.returns
returns c =
    let f = c.args.self.now in
    let g = c.args.other.now in
    let j = f.junction in
    let one = one_junction j g.junction c.requires in
    let at : ℕ → Type 0 = λ t. some 64 (both j f.request g.request t) ≡ true in
    let same : (t : ℕ) → some 64 (both_at j f.request g.junction g.request t) ≡ some 64 (both j f.request g.request t) = λ t. at_one j g.junction f.request g.request t (sym one) in
    let last : c.last_tick-2.result ≡ last_tick_of j g.request = c.last_tick-2.ensures.answer ∙ ap (λ k. last_tick_of k g.request) (sym one) in
    let first : ℕ = c.saturating_sub-first.result in
    let end : ℕ = c.min-last.result + 1 in
    shares j f.request g.request c.any.result (share_decided j f.request g.request c.any.result
    (decides_range at first end (λ t e.
    let span = shared_within j f.request g.request t e in
    (omega arith, omega arith)) c.any.result
    (cases_from_any _ _ c.any.result at (λ t. at t → ⊥) c.any.ensures.ran (YieldsList-from_range first end (end - first) (cc) (cc)) (λ x q k. sym (same x) ∙ search rules) (λ x q k. search rules))))
