use Rattle.std.proofs.Common.{ℕ, Bool, ◌&&◌, sym, ◌∙◌}
use Rattle.std.proofs.lemmas.Bool.{and_from, and_parts}
use Rattle.grid.specs.Sets.{has_tile}
use Rattle.grid.proofs.Somes.{some_at, some_found}
use Rattle.marks.specs.Marked.{other_mark}
use Rattle.tile_table.proofs.meeting.meets_at.Goals as goal

pub returns : goal.returns
returns c =
    let m = c.args.marks.now in
    let v = c.args.vehicle in
    let tick = c.args.tick in
    let test : ℕ → Bool = λ k. has_tile c.tiles_at.result k && other_mark m v k tick in (
      λ e.
          let w = some_found 64 test (sym c.other_than.ensures.answer ∙ e) in
          let parts = and_parts (has_tile c.tiles_at.result w.0) (other_mark m v w.0 tick) w.2 in
          (w.0, w.1, sym (c.tiles_at.ensures.cells w.0) ∙ parts.0, parts.1),
      λ w.
          c.other_than.ensures.answer
          ∙ some_at 64 test w.0 w.1 (and_from (has_tile c.tiles_at.result w.0) (other_mark m v w.0 tick) (c.tiles_at.ensures.cells w.0 ∙ w.2) w.3),
    )
