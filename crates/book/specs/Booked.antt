-- What a book tells, and what it makes of a request. Assumes nothing.
use Rattle.std.specs.Prelude.{◌≡◌, ◌<◌, length, None, Ok, Err, Option, Result}
use Rattle.grid.specs.declared.junction.Junction.{Junction}
use Rattle.ledger.specs.Entries.{entries}
use Rattle.policy.specs.Answers.{Answer}
use Rattle.policy.specs.Views.{View}
use Rattle.refusal.specs.declared.kinds.Denial.{Denial}
use Rattle.refusal.specs.declared.kinds.Name.{Name}
use Rattle.reservation.specs.declared.footprint.Footprint.{Footprint}
use Rattle.reservation.specs.declared.request.Request.{Request}
use Rattle.rivals.specs.Rivals.{Rival, Sought}
use Rattle.rivals.specs.Screening.{told}
use Rattle.book.specs.declared.book.Book.{Book}

abbrev pub view_of : {C : Type 0} → Book C → View
view_of b = told b.junction b.clock b.ledger

module _ (clash : Junction → Request → Request → Type 0) {C : Type 0} (b : Book C) (r : Request) where
  -- who is in the way of the request
  abbrev pub RivalOf : Option Name → Type 0
  RivalOf = Sought (Rival clash b.junction r) (view_of b).ledger

  -- the answer to a request before it is written down: the footprint of one that is granted
  abbrev pub Judges : Result Footprint Denial → Type 0
  Judges (Ok f) = Answer clash (view_of b) None r (Ok tt) × (f.junction ≡ b.junction) × (f.request ≡ r) × (length (entries b.ledger) < 64)
  Judges (Err d) = Answer clash (view_of b) None r (Err d)
