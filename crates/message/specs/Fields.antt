-- Which numbers each kind of message carries, and which values each may have. Assumes nothing.
use Rattle.std.specs.Prelude.{◌≡◌, ℕ, ◌≤◌, true, List, [], ◌∷◌}
use Rattle.refusal.specs.Numbers.{number_of}
use Rattle.refusal.specs.declared.kinds.Denial.{Denial}
use Rattle.refusal.specs.declared.kinds.Refusal.TheVariants.{Denied}
use Rattle.message.specs.Rows.{fits_distance, fits_entry, is_number, fits_vehicle}
use Rattle.message.specs.declared.kinds.Kind.{Kind}
use Rattle.message.specs.declared.kinds.Kind.TheVariants.{Request, Change, Cancel, Done, Confirm, Reject}
use Rattle.message.specs.declared.kinds.Field.{Field}
use Rattle.message.specs.declared.kinds.Field.TheVariants as field

abbrev pub fields_of : Kind → List Field
fields_of Request = field.Vehicle ∷ field.Number ∷ field.Entry ∷ field.Distance ∷ []
fields_of Change = field.Vehicle ∷ field.Number ∷ field.Number ∷ field.Entry ∷ field.Distance ∷ []
fields_of Cancel = field.Vehicle ∷ field.Number ∷ []
fields_of Done = field.Vehicle ∷ []
fields_of Confirm = field.Vehicle ∷ field.Number ∷ field.Entry ∷ []
fields_of Reject = field.Vehicle ∷ field.Number ∷ field.Reason ∷ field.RivalVehicle ∷ field.RivalNumber ∷ []

-- the number is one that the field may have, looked at alone; a reason is any number that a denial has
abbrev pub Takes : Field → ℕ → Type 0
Takes field.Vehicle n = fits_vehicle n ≡ true
Takes field.Number n = is_number n ≡ true
Takes field.Entry n = fits_entry n ≡ true
Takes field.Distance n = fits_distance n ≡ true
Takes field.Reason n = (why : Denial) × (number_of (Denied why) ≡ n)
Takes field.RivalVehicle n = n ≤ 1024
Takes field.RivalNumber n = n ≤ 1000

-- each number is one that its field may have, and there are as many numbers as fields
abbrev pub AllTake : List Field → List ℕ → Type 0
AllTake [] [] = Unit {0}
AllTake [] (n ∷ ns) = ⊥
AllTake (f ∷ fs) [] = ⊥
AllTake (f ∷ fs) (n ∷ ns) = Takes f n × AllTake fs ns
