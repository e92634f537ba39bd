-- What writing a line leaves in memory. Assumes nothing.
use Rattle.std.specs.Prelude.{◌≡◌, ℕ, ◌<◌, ◌≤◌, List, ◌++◌, length, drop, Ok, Err, Result}
use Rattle.refusal.specs.declared.kinds.WriteFault.{WriteFault}
use Rattle.refusal.specs.declared.kinds.WriteFault.TheVariants.{Room}
use Rattle.arrayvec.specs.ArrayVec.{ArrayVec}
use Rattle.arrayvec.specs.declared.errors.CapacityError.{CapacityError}
use Rattle.lines.specs.Readings.{Faults}
use Rattle.lines.specs.declared.faults.LineError.{LineError}

-- the bytes in front, and behind them what was there
abbrev pub onto : List ℕ → List ℕ → List ℕ
onto bs old = bs ++ drop (length bs) old

-- the count of the line's bytes, or that the memory has not as many
abbrev pub Counts : List ℕ → List ℕ → Result ℕ WriteFault → Type 0
Counts bs old (Ok n) = (n ≡ length bs) × (length bs ≤ length old)
Counts bs old (Err Room) = length old < length bs

-- the memory then
abbrev pub written : List ℕ → List ℕ → Result ℕ WriteFault → List ℕ
written bs old (Ok n) = onto bs old
written bs old (Err Room) = old

-- the line, or that it is longer than any line may be
abbrev pub Spelt : List ℕ → Result (ArrayVec ℕ) (CapacityError (Unit {0})) → Type 0
Spelt bs (Ok line) = line.items ≡ bs
Spelt bs (Err _) = 64 < length bs

-- a line is written back byte by byte; of a text with a fault nothing is
abbrev pub Rewritten : List ℕ → List ℕ → List ℕ → Result ℕ LineError → Type 0
Rewritten bs old new (Ok n) = (n ≡ length bs) × (new ≡ onto bs old)
Rewritten bs old new (Err e) = Faults bs e × (new ≡ old)
