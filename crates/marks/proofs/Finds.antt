-- What is found among the digits of a word. Assumes nothing.
use Rattle.std.proofs.Common.{◌≡◌, ℕ, ◌<◌, Bool, true, false, not, ◌&&◌, eqb, sym, refl, ap, ◌∙◌, arith}
use Rattle.std.proofs.lemmas.Bool.{and_parts, both_ways}
use Rattle.std.proofs.lemmas.Bool.Decides.{nat_tests}
use Rattle.grid.specs.Sets.{bit}
use Rattle.grid.specs.Some.{some}
use Rattle.grid.proofs.Digits.{bit_zero}
use Rattle.grid.proofs.Somes.{some_at, some_never, some_same}

-- tests that agree below the bound find the same
pub some_below : (n : ℕ) (f g : ℕ → Bool) → ((k : ℕ) → k < n → f k ≡ g k) → some n f ≡ some n g
some_below n f g e =
    some_same n n f g (λ k below on. some_at n g k below (sym (e k below) ∙ on)) (λ k below on. some_at n f k below (e k below ∙ on))

pub and_again : (a b c : Bool) → ((a && b) && c) ≡ (a && (b && c))
and_again true b c = refl
and_again false b c = refl

-- a digit that does not pass is not missed
dropped : (a b pass : Bool) (j k : ℕ) → b ≡ (a && not (eqb j k)) → (j ≡ k → pass ≡ false) → (b && pass) ≡ (a && pass)
dropped a b pass j k e fails = grind (arith, nat_tests)

pub some_off : (word rest k : ℕ) (f : ℕ → Bool) → ((j : ℕ) → bit rest j ≡ (bit word j && not (eqb j k))) → f k ≡ false
    → some 64 (λ j. bit rest j && f j) ≡ some 64 (λ j. bit word j && f j)
some_off word rest k f off fails =
    some_below 64 (λ j. bit rest j && f j) (λ j. bit word j && f j)
    (λ j below. dropped (bit word j) (bit rest j) (f j) j k (off j) (λ e. ap f e ∙ fails))

pub some_zero : (word : ℕ) (f : ℕ → Bool) → word ≡ 0 → some 64 (λ j. bit word j && f j) ≡ false
some_zero word f none =
    some_never 64 (λ j. bit word j && f j)
    (λ j below on. both_ways (bit word j) (ap (λ x. bit x j) none ∙ bit_zero j) (and_parts (bit word j) (f j) on).0)
