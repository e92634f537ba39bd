-- Which junctions can be made. Assumes nothing.
use Rattle.std.specs.Prelude.{◌≡◌, ℕ, ◌<◌, ◌≤◌, Ok, Err, Result}
use Rattle.refusal.specs.declared.kinds.JunctionFault.{JunctionFault}
use Rattle.refusal.specs.declared.kinds.JunctionFault.TheVariants.{Lanes, Buffer}
use Rattle.grid.specs.declared.junction.Junction.{Junction}

-- an approach has 1 or 2 lanes
abbrev pub OneOrTwo : ℕ → Type 0
OneOrTwo n = (1 ≤ n) × (n ≤ 2)

-- the answer to who wants a junction of n lanes to an approach and a buffer of b ticks
abbrev pub Makes : ℕ → ℕ → Result Junction JunctionFault → Type 0
Makes n b (Ok j) = (j.lanes ≡ n) × (j.buffer ≡ b)
Makes n b (Err Lanes) = OneOrTwo n → ⊥
Makes n b (Err Buffer) = OneOrTwo n × (4 < b)
