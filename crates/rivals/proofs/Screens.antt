-- What the rows before a clash make of a request. Assumes nothing.
use Rattle.std.proofs.Common.{◌≡◌, Some, None, Ok, Err, Option, refl, inl, inr}
use Rattle.std.specs.Option.{ok_or}
use Rattle.refusal.specs.declared.kinds.Denial.TheVariants.{Because}
use Rattle.refusal.specs.declared.kinds.Reason.{Reason}
use Rattle.refusal.specs.declared.kinds.Reason.TheVariants.{Range}
use Rattle.reservation.specs.declared.footprint.Footprint.{Footprint}
use Rattle.reservation.specs.declared.request.Request.{Request}
use Rattle.reservation.specs.Made.{FootprintOf}
use Rattle.policy.specs.Layers.{Stopped}
use Rattle.policy.specs.Views.{View}
use Rattle.policy.proofs.Layers.{screened_past}
use Rattle.rivals.specs.Screening.{Screens}

module _ (w : View) (r : Request) where
  -- a request that no row stops
  pub screens_past : (o : Option Footprint) → Stopped w None r (Ok tt) → FootprintOf w.junction r o → Screens w r (ok_or o (Because Range))
  screens_past (Some f) past of = screened_past w r (λ g a. a ≡ Err (Because g)) (λ a. (h : Footprint) × (a ≡ Ok h) × (h.junction ≡ w.junction) × (h.request ≡ r)) (Ok f) past (f, refl, of.0, of.1)
  screens_past None past of = inl (of, refl)

  -- and one that a row stops
  pub screens_stopped : (g : Reason) → Stopped w None r (Err g) → Screens w r (Err (Because g))
  screens_stopped g (inl range) = inl (range.0, let e = range.1 in cc)
  screens_stopped g (inr (p, inl time)) = inr (p, inl (time.0, let e = time.1 in cc))
  screens_stopped g (inr (p, inr (q, inl name))) = inr (p, inr (q, inl (name.0, let e = name.1 in cc)))
  screens_stopped g (inr (p, inr (q, inr (s, e)))) = cc

  -- one with a footprint is stopped by no row
  pub screened_footprint : (f : Footprint) → Screens w r (Ok f) → Stopped w None r (Ok tt) × (f.junction ≡ w.junction) × (f.request ≡ r)
  screened_footprint f (inl range) = let e = range.1 in cc
  screened_footprint f (inr (p, inl time)) = let e = time.1 in cc
  screened_footprint f (inr (p, inr (q, inl name))) = let e = name.1 in cc
  screened_footprint f (inr (p, inr (q, inr (s, told)))) =
      let e = told.1 in
      let one = told.2 in
      let same = told.3 in
      (inr (p, inr (q, inr (s, refl))), cc, cc)
