-- The rows of the ring. Assumes nothing.
use Rattle.std.proofs.Common.{◌≡◌, ℕ, ◌%◌, ◌<◌, ◌≢◌, List, [], map, length, get_or, set, replicate, ap, ◌∙◌, arith, length-set, get_or-set_other, get_or-set_same}
use Rattle.std.proofs.lemmas.List.{get_or-map, get_or-replicate, length-replicate, map-set}
use Rattle.marks.specs.declared.marks.Marks.{Marks}
use Rattle.marks.specs.declared.row.Row.{Row}
use Rattle.marks.specs.Marked.{mark, marks_in}

-- the row that was written has its marks
pub written_row : (rows : List Row) (i j : ℕ) (row : Row) → j ≡ i → i < length rows → marks_in (set rows i row) j ≡ row.marks
written_row rows i j row e within =
    let inside : j < length (set rows i row) = omega (arith, length-set rows i row) in
    get_or-map (λ r. r.marks) (set rows i row) j row [] inside ∙ ap (λ r. r.marks) (ap (λ k. get_or (set rows i row) k row) e ∙ get_or-set_same rows i row row within)

-- the other rows are as they were
pub other_row : (rows : List Row) (i j : ℕ) (row : Row) → j ≢ i → marks_in (set rows i row) j ≡ marks_in rows j
other_row rows i j row ne = ap (λ m. get_or m j []) (map-set (λ r. r.marks) rows i row) ∙ get_or-set_other (map (λ r. r.marks) rows) i j row.marks [] ne

-- all rows are the same
pub each_row : (n i : ℕ) (row : Row) → i < n → marks_in (replicate n row) i ≡ row.marks
each_row n i row within = get_or-map (λ r. r.marks) (replicate n row) i row [] (omega (arith, length-replicate n row)) ∙ ap (λ r. r.marks) (get_or-replicate n i row row within)

-- ticks with the same place in the ring have the same marks
pub mark_around : (m : Marks) (tile t u : ℕ) → t % 128 ≡ u % 128 → mark m tile t ≡ mark m tile u
mark_around m tile t u same = ap (λ i. get_or (marks_in m.rows i) tile 0) same
