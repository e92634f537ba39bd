-- Which entries a vehicle may ask for. Assumes nothing.
use Rattle.std.specs.Prelude.{ℕ, ◌+◌, ◌-◌, ◌*◌, Bool, cond, ◌||◌, Ok, Err, Result, nat_le, nat_lt}
use Rattle.grid.specs.declared.junction.Junction.{Junction}
use Rattle.grid.specs.declared.kinds.Body.{Body}
use Rattle.grid.specs.Steps.{duration_of}
use Rattle.refusal.specs.declared.kinds.CallFault.{CallFault}
use Rattle.refusal.specs.declared.kinds.CallFault.TheVariants.{TooEarly, TooLate}

-- the first tick of the entry's span is not after the clock, or at its speed the vehicle is not at the line by then
abbrev pub too_early : Junction → Body → ℕ → ℕ → ℕ → Bool
too_early j body clock distance entry =
    nat_le entry (clock + j.buffer) || nat_lt (body.speed * (entry - j.buffer - clock)) distance

-- the last tick of the entry's span is above clock + 127
abbrev pub too_late : Junction → Body → ℕ → ℕ → Bool
too_late j body clock entry = nat_lt (clock + 128) (entry + duration_of j.lanes body + j.buffer)

-- what an ask for this entry is told, at this clock and distance from the line
abbrev pub entry_row : Junction → Body → ℕ → ℕ → ℕ → Result (Unit {0}) CallFault
entry_row j body clock distance entry =
    cond (too_early j body clock distance entry) (Err TooEarly) (cond (too_late j body clock entry) (Err TooLate) (Ok tt))
