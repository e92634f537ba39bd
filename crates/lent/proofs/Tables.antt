-- A refusal by a table, where more rows come after. Assumes nothing.
use Rattle.std.proofs.Common.{◌≡◌, Err, Result, sym, subst, inl, inr}
use Rattle.refusal.specs.declared.kinds.CallFault.{CallFault}
use Rattle.run.specs.Tables.{ByRows, Ruled, Table, and_then, end, row}

module _ {X Y : Type 0} (done : X → Type 0) (done' : Y → Type 0) (same : Type 0) where
  rows_refused : (t u : Table) (f : CallFault) → ByRows t done (Unit {0}) (Err f) → same → ByRows (and_then t u) done' same (Err f)
  rows_refused end u f r h = absurd r
  rows_refused (row g good rows) u f (inl r) h = inl (r.0, r.1, h)
  rows_refused (row g good rows) u f (inr r) h = inr (r.0, rows_refused rows u f r.1 h)

pub refused_by : {X Y : Type 0} {done : X → Type 0} {t : Table} {f : CallFault} → Ruled t done (Unit {0}) (Err f)
    → (u : Table) (done' : Y → Type 0) (same : Type 0) → same → ByRows (and_then t u) done' same (Err f)
refused_by {X} {Y} {done} {t} {f} r u done' same h = rows_refused done done' same t u f r.by h

pub refused : {X Y : Type 0} {done : X → Type 0} {t : Table} {f : CallFault} → Ruled t done (Unit {0}) (Err f)
    → (u : Table) (done' : Y → Type 0) (same : Type 0) (a : Result Y CallFault) → a ≡ Err f → same → Ruled (and_then t u) done' same a
refused r u done' same a is h = subst (Ruled (and_then _ u) done' same) (sym is) (record { by = refused_by r u done' same h })
