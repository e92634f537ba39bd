-- The bits of a word that are 1, one after the other. Assumes nothing.
use Rattle.std.specs.Prelude.{◌≡◌, ℕ, ◌<◌, true, not, ◌&&◌, ◌==◌, Option, MatchOption}
use Rattle.grid.specs.Sets.{bit}

-- a bit of the word that is 1, and the word without it, or none where the word has none
abbrev pub TakesOne : ℕ → Option ℕ → ℕ → Type 0
TakesOne word found rest =
    MatchOption found (word ≡ 0) (λ k. (k < 64) × (bit word k ≡ true) × ((j : ℕ) → bit rest j ≡ (bit word j && not (j == k))))
