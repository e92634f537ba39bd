-- Each entry of the tables is the one that the rules give: antt computes them all.
use Rattle.std.proofs.Common.{◌≡◌, ◌+◌, ◌*◌, get_or, ap, ◌∙◌, ap₂, arith}
use lib.Bits.{bit_and}
use Rattle.grid.specs.Paths.{last_point_of, point_of_path, point_touches}
use Rattle.grid.specs.Sets.{bit}
use Rattle.grid.specs.Tables.{down_table, point_word, up_table}
use Rattle.grid.proofs.Rows.{row_below, row_tells}
use Rattle.grid.proofs.course.Course.points_tiles.Goals as goal

pub word-requires-clause-row : goal.word-requires-clause-row
word-requires-clause-row c =
    let s = c.args.self.now in
    let stands = s.stands in
    omega (arith, row_below s.junction.lanes s.body s.fitting s.junction.some s.junction.few)

pub word-requires-2-clause-row : goal.word-requires-2-clause-row
word-requires-2-clause-row c =
    let s = c.args.self.now in
    let stands = s.stands in
    omega (arith, row_below s.junction.lanes s.body s.fitting s.junction.some s.junction.few)

up_told : (c : goal.After-word-2) → c.word.result ≡ get_or up_table (48 * c.args.self.now.row + c.args.last) 0
unfolding up_table point_word point_touches last_point_of point_of_path
up_told c = c.word.ensures

down_told : (c : goal.After-word-2) → c.word-2.result ≡ get_or down_table (48 * c.args.self.now.row + c.args.first) 0
unfolding down_table point_word point_touches last_point_of point_of_path
down_told c = c.word-2.ensures

pub returns : goal.returns
returns c tile =
    let s = c.args.self.now in
    let j = s.junction in
    let up = up_told c ∙ ap (λ r. get_or up_table (48 * r + c.args.last) 0) s.stands in
    let down = down_told c ∙ ap (λ r. get_or down_table (48 * r + c.args.first) 0) s.stands in
    ap₂ (λ x y. bit (bit_and x y) tile) up down
    ∙ row_tells j.lanes s.body s.fitting j.some j.few c.args.first c.args.last tile c.requires.order c.requires.within
