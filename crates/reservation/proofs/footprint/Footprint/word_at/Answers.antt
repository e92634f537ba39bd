use Rattle.std.proofs.Common.{◌≡◌, ℕ, ◌+◌, ◌-◌, sym, ◌∙◌, arith}
use Rattle.grid.specs.declared.junction.Junction.{Junction}
use Rattle.grid.specs.Sets.{bit}
use Rattle.grid.proofs.Digits.{bit_zero}
use Rattle.reservation.specs.declared.request.Request.{Request}
use Rattle.reservation.specs.Cells.{has}
use Rattle.reservation.specs.Meetings.{CellsAt}
use Rattle.reservation.proofs.Laws.{has_after, has_before, has_swept, has_within, step_has}
use Rattle.reservation.proofs.Ranges.{range_parts}
use Rattle.reservation.proofs.footprint.Footprint.word_at.Goals as goal

-- what else is told follows from which the cells are
cells_at : (j : Junction) (r : Request) (t word : ℕ) → ((tile : ℕ) → bit word tile ≡ has j r tile t) → CellsAt j r t word
cells_at j r t word cells = record {
  cells = cells;
  span = λ tile e. let w = has_within j r tile t (sym (cells tile) ∙ e) in (omega arith, omega arith);
  steps = λ s tile h. cells tile ∙ step_has j r tile t s h;
}

pub returns-then-shifted-entry : goal.returns-then-shifted-entry
returns-then-shifted-entry c =
    let f = c.args.self.now in
    cells_at f.junction f.request c.args.tick 0
    (λ tile. bit_zero tile ∙ sym (has_before f.junction f.request tile c.args.tick c.if-shifted-entry.true))

pub returns-then-at-self : goal.returns-then-at-self
returns-then-at-self c =
    let f = c.args.self.now in
    let lasts = f.lasts in
    cells_at f.junction f.request c.args.tick 0
    (λ tile. bit_zero tile ∙ sym (has_after f.junction f.request tile c.args.tick (omega arith)))

pub bounds-self-at : goal.bounds-self-at
bounds-self-at c =
    let f = c.args.self.now in
    let parts = range_parts f.junction f.request f.ranged in
    let lasts = f.lasts in
    omega arith

pub returns : goal.returns
returns c =
    let f = c.args.self.now in
    let k = c.args.tick + f.junction.buffer - f.request.entry in
    let lasts = f.lasts in
    cells_at f.junction f.request c.args.tick _
    (λ tile. f.swept k tile (omega arith) ∙ sym (has_swept f.junction f.request tile c.args.tick k (omega arith)))
