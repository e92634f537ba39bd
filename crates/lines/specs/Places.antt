-- A fault in a line: what it is, and where. Assumes nothing.
use Rattle.std.specs.Prelude.{ℕ}
use Rattle.refusal.specs.declared.kinds.LineFault.{LineFault}
use Rattle.refusal.specs.declared.kinds.LineFault.TheVariants.{Field}
use Rattle.lines.specs.declared.faults.FieldFault.{FieldFault}
use Rattle.lines.specs.declared.faults.LineError.{LineError}

abbrev pub fault_at : LineFault → ℕ → ℕ → LineError
fault_at what f b = record { fault = what; field = f; byte = b }

-- a field's fault is the line's
abbrev pub in_line : FieldFault → LineError
in_line f = fault_at Field f.field f.byte
