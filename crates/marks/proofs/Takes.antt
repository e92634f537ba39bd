-- A test of the bits of a word, one after the other. Assumes nothing.
use Rattle.std.proofs.Common.{◌≡◌, ℕ, Bool, true, false, ◌&&◌, List, [], ◌∷◌, Option, None, Some, MatchOption, sym, ap, ◌∙◌, subst}
use Rattle.std.proofs.lemmas.Bool.{and_from}
use denote.Param.Members.{Mut, Called}
use Rattle.std.specs.Iterator.{ActsAs, ChecksAny, Yields}
use Rattle.std.specs.List.{FoldsTo}
use Rattle.grid.specs.Sets.{bit}
use Rattle.grid.specs.Some.{some}
use Rattle.grid.proofs.Somes.{some_at}
use Rattle.marks.specs.declared.bits.Ones.{Ones}
use Rattle.marks.specs.Ones.{TakesOne}
use Rattle.marks.proofs.Finds.{some_off, some_zero}

abbrev Steps : Ones → Option ℕ → Ones → Type 0
Steps s k t = TakesOne s.rest k t.rest

module _ {F : Type 0} (g : Mut F (ℕ × Unit {0}) Bool) (f : F) (pass : ℕ → Bool) (acts : ActsAs g f pass) where
  walk : (xs : List ℕ) (o : Option ℕ) (f' : F) (s t u : Ones) (r : Bool) → Yields Steps s xs t → Steps t o u
      → FoldsTo (λ p x q. Called g p (x, tt) false q) f xs f'
      → MatchOption o (r ≡ false) (λ x. (r ≡ true) × ((h : F) × Called g f' (x, tt) true h)) → r ≡ some 64 (λ j. bit s.rest j && pass j)
  walk [] None f' s t u r same step fold ends = ends ∙ sym (some_zero s.rest pass (ap (λ v. v.rest) same ∙ step))
  walk [] (Some x) f' s t u r same step fold ends =
      let passes = acts x true ends.1.0 (subst (λ p. Called g p (x, tt) true ends.1.0) (sym fold) ends.1.1) in
      let on = ap (λ v. bit v.rest x) same ∙ step.1 in
      ends.0 ∙ sym (some_at 64 (λ j. bit s.rest j && pass j) x step.0 (and_from (bit s.rest x) (pass x) on (sym passes.1)))
  walk (x ∷ xs) o f' s t u r yields step fold ends =
      let fails = acts x false fold.0 fold.1 in
      walk xs o f' yields.0 t u r yields.2 step (subst (λ p. FoldsTo (λ p x q. Called g p (x, tt) false q) p xs f') fails.0 fold.2) ends
      ∙ some_off s.rest yields.0.rest x pass yields.1.2 (sym fails.1)

  -- whether some bit passes
  pub any_one : (s u : Ones) (r : Bool) → ChecksAny Steps g s f r u → r ≡ some 64 (λ j. bit s.rest j && pass j)
  any_one s u r ran = walk ran.0 ran.1 ran.2 s ran.3.0 u r ran.3.1 ran.3.2 ran.4 ran.5
