-- Which number a field writes. Assumes nothing.
use Rattle.std.specs.Prelude.{◌≡◌, ℕ, ◌^◌, ◌<◌, List, length, Some, None, decimal, Option, ◌≢◌, slice_index}

-- a zero, byte 48, with more behind it
abbrev pub LeadingZero : List ℕ → Type 0
LeadingZero f = (1 < length f) × (slice_index f 0 ≡ 48)

-- the number that the field writes in base ten, or that it writes none of 32 bits
abbrev pub NumberIn : List ℕ → Option ℕ → Type 0
NumberIn f (Some n) = f ≡ decimal n
NumberIn f None = (n : ℕ) → n < 2 ^ 32 → f ≢ decimal n
