-- What the marks say. Assumes nothing.
use Rattle.std.specs.Prelude.{ℕ, ◌%◌, Bool, List, [], map, slice_index, slice_index_or}
use Rattle.marks.specs.declared.marks.Marks.{Marks}
use Rattle.marks.specs.declared.row.Row.{Row}
use Rattle.marks.specs.Rows.{is_other}

-- the marks of the tiles in a row of the ring
abbrev pub marks_in : List Row → ℕ → List ℕ
marks_in rows i = slice_index_or (map (λ row. row.marks) rows) i []

-- the mark of a tile at a tick: a vehicle's number, or 0
abbrev pub mark : Marks → ℕ → ℕ → ℕ
mark m tile tick = slice_index (marks_in m.rows (tick % 128)) tile

-- another vehicle has the tile at the tick
abbrev pub other_mark : Marks → ℕ → ℕ → ℕ → Bool
other_mark m vehicle tile tick = is_other vehicle (mark m tile tick)
