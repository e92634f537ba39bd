-- What a tile table tells, and what its calls make of it. Assumes nothing.
use Rattle.std.specs.Prelude.{◌≡◌, ℕ, ◌<◌, true, length, Some, None, Ok, Err, Option, Result}
use Rattle.refusal.specs.declared.kinds.Denial.{Denial}
use Rattle.refusal.specs.declared.kinds.Name.{Name}
use Rattle.reservation.specs.declared.footprint.Footprint.{Footprint}
use Rattle.reservation.specs.declared.request.Request.{Request}
use Rattle.reservation.specs.Requests.{last_tick_of}
use Rattle.policy.specs.Answers.{Answer, is_in_time}
use Rattle.policy.specs.Views.{View}
use Rattle.marks.specs.Marked.{mark}
use Rattle.ledger.specs.declared.standing.Standing.{Standing}
use Rattle.ledger.specs.Entries.{entries}
use Rattle.rivals.specs.Rivals.{CellClash, Rival, Sought}
use Rattle.rivals.specs.Screening.{told}
use Rattle.tile_table.specs.declared.table.TileTable.{TileTable}

abbrev pub view_of : TileTable → View
view_of s = told s.window.junction s.window.clock s.ledger

-- the footprint's request as it stands
abbrev pub standing_of : Footprint → Standing
standing_of f = record { request = f.request; last_tick = last_tick_of f.junction f.request }

-- the marks that it stores
abbrev pub marks_of : TileTable → Option (ℕ → ℕ → ℕ)
marks_of s = Some (mark s.marks)

-- who is in the way of the request
abbrev pub RivalOf : TileTable → Request → Option Name → Type 0
RivalOf s r = Sought (Rival CellClash s.window.junction r) (view_of s).ledger

-- a request that may be written down: of this junction, in time, with room for it, and nobody in its way
pub record Free (s : TileTable) (f : Footprint) : Type 0 where
  pub one : f.junction ≡ s.window.junction
  pub room : length (entries s.ledger) < 64
  pub time : is_in_time s.window.junction s.window.clock f.request ≡ true
  pub alone : RivalOf s f.request None

-- the answer to a request before it is written down: the footprint of one that is granted
abbrev pub Judges : TileTable → Request → Result Footprint Denial → Type 0
Judges s r (Ok f) = Answer CellClash (view_of s) None r (Ok tt) × (f.request ≡ r) × Free s f
Judges s r (Err d) = Answer CellClash (view_of s) None r (Err d)
