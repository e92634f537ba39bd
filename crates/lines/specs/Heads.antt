-- What the head of a line tells of its fields. Assumes nothing.
use Rattle.std.specs.Prelude.{List, ℕ, Ok, Err, Result}
use Rattle.message.specs.declared.kinds.Kind.{Kind}
use Rattle.lines.specs.Readings.{Begins, Counted, Faults, Sized}
use Rattle.lines.specs.declared.faults.LineError.{LineError}

-- the line has the kind's keyword, and as many fields as the kind wants
pub record Opened (bs : List ℕ) (k : Kind) : Type 0 where
  pub sized : Sized bs
  pub keyword : Begins k bs
  pub counted : Counted k bs

abbrev pub KindIn : List ℕ → Result Kind LineError → Type 0
KindIn bs (Ok k) = Opened bs k
KindIn bs (Err e) = Faults bs e
