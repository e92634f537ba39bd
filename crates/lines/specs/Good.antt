-- Which fields are good, each by itself and the pair of a rejection. Assumes nothing.
use Rattle.std.specs.Prelude.{◌≡◌, ℕ, ◌<◌, Bool, cond, ◌&&◌, List, [], length, decimal, ◌==◌, nat_lt, slice_index_or}
use Rattle.message.specs.Fields.{Takes}
use Rattle.message.specs.declared.kinds.Field.{Field}
use Rattle.message.specs.declared.kinds.Field.TheVariants.{Vehicle}

-- the text writes the number in base ten, and the field may have it
abbrev pub ReadAs : Field → List ℕ → ℕ → Type 0
ReadAs f bs n = Takes f n × (bs ≡ decimal n)

-- the text is good for the field
abbrev pub Good : Field → List ℕ → Type 0
Good f bs = (n : ℕ) × ReadAs f bs n

-- the first of the texts that is not good: its place, from 0
pub record FirstBad (fs : List Field) (ts : List (List ℕ)) (j : ℕ) : Type 0 where
  pub inside : j < length fs
  pub bad : Good (slice_index_or fs j Vehicle) (slice_index_or ts j []) → ⊥
  pub before : (i : ℕ) → i < j → Good (slice_index_or fs i Vehicle) (slice_index_or ts i [])

-- the clashing request is named under 34, and the name is 0, 0 under every other reason
abbrev pub pair_ok : ℕ → ℕ → ℕ → Bool
pair_ok reason ov oq = cond (reason == 34) (nat_lt 0 ov && nat_lt 0 oq) (ov == 0 && oq == 0)
