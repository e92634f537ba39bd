use Rattle.std.proofs.Common.{◌≡◌, ◌<◌, ℕ, List, [], ◌∷◌, length, Option, Some, None, arith, rules}
use borrow.Author.Tests.{tests}
use Rattle.std.specs.List.{AllWithin, HoldsAt}
use Rattle.std.specs.Option.{MatchOption}
use Rattle.std.proofs.lemmas.Iterator.{YieldsList-from_slice, first_from_find}
use Rattle.std.proofs.lemmas.Iterator.Consumers.{YieldsList-at, YieldsList-from_copied}
use Rattle.message.specs.declared.kinds.Kind.{Kind}
use Rattle.message.specs.declared.kinds.Kind.TheVariants.{Request, Change, Cancel, Done, Confirm, Reject}
use Rattle.lines.specs.Lines.{Recognised, keyword}
use Rattle.lines.proofs.keywords.recognise.Goals as goal

-- every kind is among those that are tried
abbrev kinds : List Kind
kinds = Request ∷ Change ∷ Cancel ∷ Done ∷ Confirm ∷ Reject ∷ []

of_none : (w : List ℕ) → AllWithin (λ k. w ≡ keyword k → ⊥) kinds 0 6 → (k : Kind) → w ≡ keyword k → ⊥
of_none w h Request = h 0 Request (omega arith) (omega arith)
of_none w h Change = h 1 Request (omega arith) (omega arith)
of_none w h Cancel = h 2 Request (omega arith) (omega arith)
of_none w h Done = h 3 Request (omega arith) (omega arith)
of_none w h Confirm = h 4 Request (omega arith) (omega arith)
of_none w h Reject = h 5 Request (omega arith) (omega arith)

found : (w : List ℕ) (r : Option Kind) → MatchOption r (AllWithin (λ k. w ≡ keyword k → ⊥) kinds 0 (length kinds)) (λ k. (w ≡ keyword k) × (i : ℕ) × (i < length kinds) × HoldsAt (λ j. j ≡ k) kinds i × AllWithin (λ j. w ≡ keyword j → ⊥) kinds 0 i) → Recognised w r
found w None h = of_none w h
found w (Some k) h = h.0

pub returns : goal.returns
returns c =
    found c.args.word.now c.find.result
    (first_from_find _ _ c.find.result (λ k. c.args.word.now ≡ keyword k) (λ k. c.args.word.now ≡ keyword k → ⊥) c.find.ensures.ran
    (YieldsList-from_copied (YieldsList-at c.copied.ensures.source (YieldsList-from_slice kinds c.iter.ensures.rest))) (λ x q k. search (rules, tests)) (λ x q k. search (rules, tests)))
