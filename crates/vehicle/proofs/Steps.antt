-- The step at which a crossing is by now, and the tiles of that step. Assumes nothing.
use Rattle.std.proofs.Common.{◌≡◌, ap, ◌∙◌, sym, subst, true, Option, ℕ, ◌≤◌, ℤ, Some, None, Decides, arith}
use Rattle.std.proofs.lemmas.Int.{ints}
use Rattle.std.proofs.lemmas.Bool.{both_ways}
use Rattle.grid.specs.declared.path.Path.{Path}
use Rattle.std.specs.Option.{UnwrapsOrElse}
use Rattle.grid.specs.declared.tiles.TileSet.{TileSet}
use Rattle.grid.specs.Sets.{Exactly, bit, has_tile}
use Rattle.grid.specs.Tracks.{StepTiles}
use Rattle.grid.specs.Steps.{duration_of, step_touches}
use Rattle.grid.proofs.Digits.{bit_zero}
use Rattle.grid.proofs.Known.{known}
use Rattle.grid.proofs.Sweeps.{step_found}
use Rattle.vehicle.specs.Standing.{AtStep, OnStep, StepAt}

-- a set of no bits has the tiles with P where none has it
pub no_tile : (P : ℕ → Type 0) (t : TileSet) → t.bits ≡ 0 → ((tile : ℕ) → P tile → ⊥) → (tile : ℕ) → Decides (has_tile t tile) (P tile)
no_tile P t none never tile = ((λ e. absurd (both_ways _ (ap (λ w. bit w tile) none ∙ bit_zero tile) e)), λ on. absurd (never tile on))

-- a crossing is at one step at most
one_step : (clock entry : ℕ) (lag : ℤ) (s t : ℕ) → AtStep clock entry lag s → AtStep clock entry lag t → s ≡ t
one_step clock entry lag s t p q = omega (arith, ints)

-- the lag is given twice, as it was passed to a call and as the caller has it
module _ (p : Path) (clock entry : ℕ) (passed lag : ℤ) (same : passed ≡ lag) where
  -- no tile is touched at none of the steps
  pub no_step : (t : TileSet) → t.bits ≡ 0 → StepAt clock entry passed None → OnStep p clock entry lag t
  no_step t none never = no_tile _ t none (λ tile on.
      let at = step_found p.junction.lanes p.body on.0 tile on.2 in
      let lasts = p.lasts in
      never on.0 (omega (arith, at.step, (known p).few)) (simp same on.1))

  -- or at one that the crossing does not have
  beyond_last : (t : TileSet) → t.bits ≡ 0 → (s : ℕ) → AtStep clock entry passed s → duration_of p.junction.lanes p.body ≤ s → OnStep p clock entry lag t
  beyond_last t none s at over = no_tile _ t none (λ tile on.
      let touching = step_found p.junction.lanes p.body on.0 tile on.2 in
      let one = one_step clock entry passed on.0 s (simp same on.1) at in
      omega (arith, touching.step))

  -- the tiles of the step at which the crossing is
  of_step : (t : TileSet) (s : ℕ) → AtStep clock entry passed s → Exactly t (step_touches p.junction.lanes p.body s) → OnStep p clock entry lag t
  of_step t s at exact tile = (
    (λ e. (s, simp (sym same) at, sym (exact tile) ∙ e)),
    λ on.
        let one = one_step clock entry passed on.0 s (simp same on.1) at in
        exact tile ∙ subst (λ s. step_touches p.junction.lanes p.body s tile ≡ true) one on.2,
  )

  pub step_or_none : (t : TileSet) (s : ℕ) (q : Option TileSet) → AtStep clock entry passed s → StepTiles p s q → UnwrapsOrElse q (λ t. t.bits ≡ 0) t → OnStep p clock entry lag t
  step_or_none t s None at over none = beyond_last t none s at over
  step_or_none t s (Some u) at touched is = of_step t s at (subst (λ u. Exactly u (step_touches p.junction.lanes p.body s)) (sym is) touched.1)
