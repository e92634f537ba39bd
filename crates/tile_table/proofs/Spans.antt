-- The span of a request in range. Assumes nothing.
use Rattle.std.proofs.Common.{◌≡◌, ℕ, ◌<◌, ◌≤◌, true, false, ⊎_elim, arith}
use Rattle.std.proofs.lemmas.Bool.{both_ways, cases_lt}
use Rattle.grid.specs.declared.junction.Junction.{Junction}
use Rattle.reservation.specs.declared.request.Request.{Request}
use Rattle.reservation.specs.Cells.{has}
use Rattle.reservation.specs.Requests.{first_tick_of, in_range, last_tick_of}
use Rattle.reservation.proofs.Laws.{has_after, has_before}
use Rattle.reservation.proofs.Ranges.{range_parts}

module _ (j : Junction) (r : Request) where
  pub last_small : in_range j r ≡ true → last_tick_of j r ≤ 1000170
  last_small e = let p = range_parts j r e in omega (arith, p.entry, p.few, p.buffer)

  pub before_first : (tile t : ℕ) → t < first_tick_of j r → has j r tile t ≡ false
  before_first tile t lt = has_before j r tile t (omega arith)

  pub after_last : (tile t : ℕ) → last_tick_of j r < t → has j r tile t ≡ false
  after_last tile t lt = has_after j r tile t (omega arith)

  pub within_span : (tile t : ℕ) → has j r tile t ≡ true → (first_tick_of j r ≤ t) × (t ≤ last_tick_of j r)
  within_span tile t h = (
    ⊎_elim
        (λ (lt : t < first_tick_of j r). absurd (both_ways _ (before_first tile t lt) h))
        (λ (le : first_tick_of j r ≤ t). le)
        (cases_lt t (first_tick_of j r)),
    ⊎_elim
        (λ (lt : last_tick_of j r < t). absurd (both_ways _ (after_last tile t lt) h))
        (λ (le : t ≤ last_tick_of j r). le)
        (cases_lt (last_tick_of j r) t),
  )
