-- The rows of the six messages: their kinds, their numbers, and the ranges of these. Assumes nothing.
use Rattle.std.specs.Prelude.{ℕ, Bool, true, ◌&&◌, List, [], ◌∷◌, nat_le}
use Rattle.refusal.specs.Numbers.{number_of}
use Rattle.refusal.specs.declared.kinds.Denial.{Denial}
use Rattle.refusal.specs.declared.kinds.Denial.TheVariants.{Because, Clash}
use Rattle.refusal.specs.declared.kinds.Refusal.TheVariants.{Denied}
use Rattle.message.specs.declared.kinds.Kind.{Kind}
use Rattle.message.specs.declared.kinds.Kind.TheVariants as kind
use Rattle.message.specs.declared.row.MessageRow.{MessageRow}
use Rattle.message.specs.declared.row.MessageRow.TheVariants.{Request, Change, Cancel, Done, Confirm, Reject}

abbrev pub kind_of : MessageRow → Kind
kind_of (Request v q e d) = kind.Request
kind_of (Change v q b e d) = kind.Change
kind_of (Cancel v q) = kind.Cancel
kind_of (Done v) = kind.Done
kind_of (Confirm v q e) = kind.Confirm
kind_of (Reject v q why) = kind.Reject

-- a denial in numbers: its own, then the name of the clashing request, which is 0, 0 where none clashes
abbrev pub numbers_of_denial : Denial → List ℕ
numbers_of_denial (Because r) = number_of (Denied (Because r)) ∷ 0 ∷ 0 ∷ []
numbers_of_denial (Clash n) = number_of (Denied (Clash n)) ∷ n.vehicle ∷ n.number ∷ []

-- a row in numbers, in the order of its fields
abbrev pub numbers_of_row : MessageRow → List ℕ
numbers_of_row (Request v q e d) = v ∷ q ∷ e ∷ d ∷ []
numbers_of_row (Change v q b e d) = v ∷ q ∷ b ∷ e ∷ d ∷ []
numbers_of_row (Cancel v q) = v ∷ q ∷ []
numbers_of_row (Done v) = v ∷ []
numbers_of_row (Confirm v q e) = v ∷ q ∷ e ∷ []
numbers_of_row (Reject v q why) = v ∷ q ∷ numbers_of_denial why

-- the vehicle that the message is from or for
abbrev pub vehicle_of : MessageRow → ℕ
vehicle_of (Request v q e d) = v
vehicle_of (Change v q b e d) = v
vehicle_of (Cancel v q) = v
vehicle_of (Done v) = v
vehicle_of (Confirm v q e) = v
vehicle_of (Reject v q why) = v

abbrev pub fits_vehicle : ℕ → Bool
fits_vehicle n = nat_le 1 n && nat_le n 1024

abbrev pub is_number : ℕ → Bool
is_number n = nat_le 1 n && nat_le n 1000

abbrev pub fits_entry : ℕ → Bool
fits_entry n = nat_le n 1000127

abbrev pub fits_distance : ℕ → Bool
fits_distance n = nat_le n 2000

-- a clashing request has a name in range
abbrev pub good_denial : Denial → Bool
good_denial (Because r) = true
good_denial (Clash n) = fits_vehicle n.vehicle && is_number n.number

-- every number of the row is in its range
abbrev pub good_row : MessageRow → Bool
good_row (Request v q e d) = fits_vehicle v && is_number q && fits_entry e && fits_distance d
good_row (Change v q b e d) = fits_vehicle v && is_number q && is_number b && fits_entry e && fits_distance d
good_row (Cancel v q) = fits_vehicle v && is_number q
good_row (Done v) = fits_vehicle v
good_row (Confirm v q e) = fits_vehicle v && is_number q && fits_entry e
good_row (Reject v q why) = fits_vehicle v && is_number q && good_denial why
