-- The last vehicle in a lane, found from the end. Assumes nothing.
use Rattle.std.proofs.Common.{◌≡◌, ℕ, cond, List, [], ◌∷◌, reverse, Some, None, Option, refl, ap, ◌∙◌}
use mathlib.Core.List.{reverse-cons}
use Rattle.std.specs.List.{find}
use Rattle.std.specs.Option.{option_or}
use Rattle.std.proofs.lemmas.List.Folds.{find-append}
use Rattle.vehicle.specs.declared.rows.VehicleRow.{VehicleRow}
use Rattle.run.specs.Worlds.{is_of_lane, last_of_lane, or_else}

or_is : {X : Type 0} (o p : Option X) → option_or o p ≡ or_else o p
or_is None p = refl
or_is (Some x) p = refl

pub found_last : (lane : ℕ) (rows : List VehicleRow) → find (is_of_lane lane) (reverse rows) ≡ last_of_lane lane rows
found_last lane [] = refl
found_last lane (row ∷ rows) =
    let one : Option VehicleRow = cond (is_of_lane lane row) (Some row) None in
    ap (find (is_of_lane lane)) (reverse-cons row rows) ∙ find-append (is_of_lane lane) (reverse rows) (row ∷ [])
    ∙ or_is (find (is_of_lane lane) (reverse rows)) one ∙ ap (λ o. or_else o one) (found_last lane rows)
