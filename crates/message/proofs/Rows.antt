-- What a row's numbers tell of it. Assumes nothing.
use Rattle.std.proofs.Common.{◌≡◌, ℕ, ◌^◌, ◌<◌, true, false, cond, eqb, List, [], ◌∷◌, get_or, sym, refl, ap, ◌∙◌, arith, lit<, rules}
use Rattle.std.proofs.lemmas.Bool.{and_parts, leb-true}
use Rattle.refusal.specs.Numbers.{reason_number}
use Rattle.refusal.specs.declared.kinds.Denial.{Denial}
use Rattle.refusal.specs.declared.kinds.Denial.TheVariants.{Because, Clash}
use Rattle.refusal.specs.declared.kinds.Reason.{Reason}
use Rattle.refusal.specs.declared.kinds.Reason.TheVariants.{NameStands, Free30, StopLine, Free32, Limit, LedgerFull, Range, BaseGone, Answered, Time}
use Rattle.message.specs.Fields.{AllTake, Takes, fields_of}
use Rattle.message.specs.Rows.{numbers_of_denial, good_denial, good_row, is_number, fits_vehicle, kind_of, numbers_of_row}
use Rattle.message.specs.declared.kinds.Kind.{Kind}
use Rattle.message.specs.declared.kinds.Kind.TheVariants as kind
use Rattle.message.specs.declared.kinds.Field.{Field}
use Rattle.message.specs.declared.kinds.Field.TheVariants.{Vehicle, Number, Entry, Distance, Reason as Why, RivalVehicle, RivalNumber}
use Rattle.message.specs.declared.row.MessageRow.{MessageRow}
use Rattle.message.specs.declared.row.MessageRow.TheVariants.{Request, Change, Cancel, Done, Confirm, Reject}

abbrev reason_by : ℕ → Reason
reason_by n =
    cond (eqb n 29) NameStands (cond (eqb n 30) Free30 (cond (eqb n 31) StopLine (cond (eqb n 32) Free32 (cond (eqb n 33) Limit (cond (eqb n 35) LedgerFull (cond (eqb n 36) Range (cond (eqb n 37) BaseGone (cond (eqb n 38) Answered Time))))))))

-- a reason's number tells the reason, is not the clash's, and is short
pub reason_told : (r : Reason) → (reason_by (reason_number r) ≡ r) × (eqb (reason_number r) 34 ≡ false) × (reason_number r < 10 ^ 7)
reason_told NameStands = (refl, refl, lit< tt)
reason_told Free30 = (refl, refl, lit< tt)
reason_told StopLine = (refl, refl, lit< tt)
reason_told Free32 = (refl, refl, lit< tt)
reason_told Limit = (refl, refl, lit< tt)
reason_told LedgerFull = (refl, refl, lit< tt)
reason_told Range = (refl, refl, lit< tt)
reason_told BaseGone = (refl, refl, lit< tt)
reason_told Answered = (refl, refl, lit< tt)
reason_told Time = (refl, refl, lit< tt)

abbrev denial_by : ℕ → ℕ → ℕ → Denial
denial_by n v q = cond (eqb n 34) (Clash (record { vehicle = v; number = q })) (Because (reason_by n))

denial_back : (why : Denial) → denial_by (get_or (numbers_of_denial why) 0 0) (get_or (numbers_of_denial why) 1 0) (get_or (numbers_of_denial why) 2 0) ≡ why
denial_back (Because r) = rw (reason_told r).1 (ap Because (reason_told r).0)
denial_back (Clash n) = refl

abbrev row_by : Kind → List ℕ → MessageRow
row_by kind.Request ns = Request (get_or ns 0 0) (get_or ns 1 0) (get_or ns 2 0) (get_or ns 3 0)
row_by kind.Change ns = Change (get_or ns 0 0) (get_or ns 1 0) (get_or ns 2 0) (get_or ns 3 0) (get_or ns 4 0)
row_by kind.Cancel ns = Cancel (get_or ns 0 0) (get_or ns 1 0)
row_by kind.Done ns = Done (get_or ns 0 0)
row_by kind.Confirm ns = Confirm (get_or ns 0 0) (get_or ns 1 0) (get_or ns 2 0)
row_by kind.Reject ns = Reject (get_or ns 0 0) (get_or ns 1 0) (denial_by (get_or ns 2 0) (get_or ns 3 0) (get_or ns 4 0))

row_back : (m : MessageRow) → row_by (kind_of m) (numbers_of_row m) ≡ m
row_back (Request v q e d) = refl
row_back (Change v q b e d) = refl
row_back (Cancel v q) = refl
row_back (Done v) = refl
row_back (Confirm v q e) = refl
row_back (Reject v q why) = ap (Reject v q) (denial_back why)

-- the kind and the numbers make the row
pub rows_same : (m n : MessageRow) → kind_of m ≡ kind_of n → numbers_of_row m ≡ numbers_of_row n → m ≡ n
rows_same m n k ns = sym (row_back m) ∙ ap (λ j. row_by j (numbers_of_row m)) k ∙ ap (row_by (kind_of n)) ns ∙ row_back n

-- what a field may have is a number of at most seven digits
pub takes_small : (f : Field) (n : ℕ) → Takes f n → n < 10 ^ 7
takes_small Vehicle n t = omega (arith, leb-true n 1024 (and_parts _ _ t).1)
takes_small Number n t = omega (arith, leb-true n 1000 (and_parts _ _ t).1)
takes_small Entry n t = omega (arith, leb-true n 1000127 t)
takes_small Distance n t = omega (arith, leb-true n 2000 t)
takes_small Why n (Because r, e) = omega (arith, (reason_told r).2)
takes_small Why n (Clash m, e) = omega arith
takes_small RivalVehicle n t = omega arith
takes_small RivalNumber n t = omega arith

denial_takes : (why : Denial) → good_denial why ≡ true → AllTake (Why ∷ RivalVehicle ∷ RivalNumber ∷ []) (numbers_of_denial why)
denial_takes (Because r) g = ((Because r, refl), (omega arith, (omega arith, tt)))
denial_takes (Clash n) g =
    let a = and_parts (fits_vehicle n.vehicle) (is_number n.number) g in
    ((Clash n, refl), (leb-true n.vehicle 1024 (and_parts _ _ a.0).1, (leb-true n.number 1000 (and_parts _ _ a.1).1, tt)))

-- the numbers of a good row are such as their fields may have
pub good_takes : (m : MessageRow) → good_row m ≡ true → AllTake (fields_of (kind_of m)) (numbers_of_row m)
good_takes (Request v q e d) g = search (rules, and_parts)
good_takes (Change v q b e d) g = search (rules, and_parts)
good_takes (Cancel v q) g = search (rules, and_parts)
good_takes (Done v) g = (g, tt)
good_takes (Confirm v q e) g = search (rules, and_parts)
good_takes (Reject v q why) g = search (rules, and_parts, denial_takes)
