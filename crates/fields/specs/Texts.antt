-- A text as fields parted by commas. Assumes nothing.
use Rattle.std.specs.Prelude.{ℕ, zero, suc, ◌+◌, Bool, List, [], ◌∷◌, length, ◌==◌}
use Rattle.std.specs.List.{join_with_byte, position_or_len, slice_split}

-- a comma is byte 44
abbrev pub comma : ℕ → Bool
comma b = b == 44

-- the fields with a comma between each two
abbrev pub join : List (List ℕ) → List ℕ
join = join_with_byte 44

-- the fields of a text: each comma ends one and begins another
abbrev pub split : List ℕ → List (List ℕ)
split = slice_split comma

-- how many bytes stand before the first comma
abbrev pub first_length : List ℕ → ℕ
first_length = position_or_len comma

-- where field j begins, both from 0: each field before it has its bytes and a comma
abbrev pub begins : List (List ℕ) → ℕ → ℕ
begins fs zero = 0
begins [] (suc j) = 0
begins (f ∷ fs) (suc j) = length f + 1 + begins fs j
