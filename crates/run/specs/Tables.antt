-- Tables of refusals. Assumes nothing.
use Rattle.std.specs.Prelude.{◌≡◌, ◌⊎◌, Ok, Err, Result}
use Rattle.refusal.specs.declared.kinds.CallFault.{CallFault}

-- rows from the top: a fault, and what must hold that it is not given
pub data Table : Type 1 where
  end : Table
  row : CallFault → Type 0 → Table → Table

-- the rows of one table and then those of another
abbrev pub and_then : Table → Table → Table
and_then end u = u
and_then (row f good rows) u = row f good (and_then rows u)

-- the answer by a table, where `done` says what an accepted call did, and `same` that nothing was altered
abbrev pub ByRows : {X : Type 0} → Table → (X → Type 0) → Type 0 → Result X CallFault → Type 0
ByRows end done same (Ok x) = done x
ByRows end done same (Err f) = ⊥
ByRows (row f good rows) done same (Ok x) = good × ByRows rows done same (Ok x)
ByRows (row f good rows) done same (Err g) = ((good → ⊥) × (f ≡ g) × same) ⊎ (good × ByRows rows done same (Err g))

-- an accepted call has passed every row, and did what is said; a refusal is the first row that fails, and alters nothing
pub record Ruled {X : Type 0} (t : Table) (done : X → Type 0) (same : Type 0) (a : Result X CallFault) : Type 0 where
  pub by : ByRows t done same a

-- nothing is said
abbrev pub Nothing : {X : Type 0} → X → Type 0
Nothing _ = Unit {0}
