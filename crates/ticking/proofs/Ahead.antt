-- What the lanes have seen is the next vehicle ahead. Assumes nothing.
use Rattle.std.proofs.Common.{◌≡◌, ℕ, ◌<◌, ◌≤◌, Bool, true, false, cond, ◌&&◌, eqb, List, [], ◌∷◌, ◌++◌, length, get_or, set, Some, None, Option, sym, refl, ap, ◌∙◌, inl, inr, arith}
use Rattle.std.specs.Option.{option_map}
use Rattle.std.proofs.lemmas.List.{get_or-set_same, get_or-set_other}
use Rattle.std.proofs.lemmas.Bool.{cases_Bool, cond-false, cond-true, eqb-false, eqb-true}
use Rattle.grid.specs.declared.junction.Junction.{Junction}
use Rattle.grid.specs.declared.kinds.Approach.{Approach}
use Rattle.grid.specs.declared.kinds.Approach.TheVariants.{North, East, South, West}
use Rattle.grid.specs.declared.kinds.Body.{Body}
use Rattle.grid.specs.Bodies.{approach_number, fits, lane_number_of}
use Rattle.grid.proofs.Fitting.{fits_parts}
use Rattle.vehicle.specs.declared.rows.VehicleRow.{VehicleRow}
use Rattle.vehicle.specs.States.{is_in_lane}
use Rattle.run.specs.Worlds.{is_of_lane, last_of_lane, or_else, place_behind_of}
use Rattle.ticking.specs.Turning.{noted}

or_else_last : (b : Bool) (row : VehicleRow) (last other : Option VehicleRow) → or_else (cond b (Some row) last) other ≡ cond b (Some row) (or_else last other)
or_else_last true row last other = refl
or_else_last false row last other = refl

last_push : (lane : ℕ) (rows : List VehicleRow) (row : VehicleRow) → last_of_lane lane (rows ++ row ∷ []) ≡ cond (is_of_lane lane row) (Some row) (last_of_lane lane rows)
last_push lane [] row = refl
last_push lane (first ∷ rows) row =
    let other = cond (is_of_lane lane first) (Some first) None in
    ap (λ last. or_else last other) (last_push lane rows row) ∙ or_else_last (is_of_lane lane row) row (last_of_lane lane rows) other

-- the places, of each lane of a number below 8, are those behind the last of the rows
abbrev pub Seen : List (Option ℕ) → List VehicleRow → Type 0
Seen places rows = (lane : ℕ) → lane < 8 → get_or places lane None ≡ option_map place_behind_of (last_of_lane lane rows)

at_noted : (places : List (Option ℕ)) (row : VehicleRow) (lane : ℕ) → lane < length places
    → get_or (noted places row) lane None ≡ cond (is_of_lane lane row) (Some (place_behind_of row)) (get_or places lane None)
at_noted places row lane lt =
    let number = lane_number_of row.body in
    let place = Some (place_behind_of row) in
    let Is : Bool → Bool → Type 0 = λ b e. get_or (cond b (set places number place) places) lane None ≡ cond (b && e) place (get_or places lane None) in
    elim (is_in_lane row.state) as (λ b. Is b (eqb number lane)) [
      | true ↦ elim (cases_Bool (eqb number lane)) [
        | inl e ↦ ap (λ k. get_or (set places k place) lane None) (eqb-true number lane e) ∙ get_or-set_same places lane place None lt ∙ sym (cond-true (eqb number lane) place (get_or places lane None) e)
        | inr ne ↦ get_or-set_other places number lane place None (λ e. eqb-false number lane ne (sym e)) ∙ sym (cond-false (eqb number lane) place (get_or places lane None) ne)
      ]
      | false ↦ refl
    ]

mapped_last : (b : Bool) (row : VehicleRow) (last : Option VehicleRow) → cond b (Some (place_behind_of row)) (option_map place_behind_of last) ≡ option_map place_behind_of (cond b (Some row) last)
mapped_last true row last = refl
mapped_last false row last = refl

pub seen_push : (places : List (Option ℕ)) (rows : List VehicleRow) (row : VehicleRow) → length places ≡ 8 → Seen places rows → Seen (noted places row) (rows ++ row ∷ [])
seen_push places rows row eight seen lane lt =
    at_noted places row lane (omega arith)
    ∙ ap (λ place. cond (is_of_lane lane row) (Some (place_behind_of row)) place) (seen lane lt)
    ∙ mapped_last (is_of_lane lane row) row (last_of_lane lane rows)
    ∙ ap (option_map place_behind_of) (sym (last_push lane rows row))

approach_below : (a : Approach) → approach_number a ≤ 3
approach_below North = omega arith
approach_below East = omega arith
approach_below South = omega arith
approach_below West = omega arith

pub lane_below : (j : Junction) (body : Body) → fits j.lanes body ≡ true → lane_number_of body < 8
lane_below j body e = let parts = fits_parts j.lanes body e in omega (arith, approach_below body.approach, j.few)
