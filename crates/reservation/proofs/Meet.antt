-- What the answers on two footprints tell besides. Assumes nothing.
use Rattle.std.proofs.Common.{◌≡◌, ℕ, Bool, true, false, leb, ◌&&◌, sym, ap, ◌∙◌, ap₂}
use Rattle.std.proofs.lemmas.Bool.{and_left}
use Rattle.grid.specs.declared.junction.Junction.{Junction}
use Rattle.grid.specs.declared.kinds.Body.{Body}
use Rattle.grid.specs.declared.path.Path.{Path}
use Rattle.grid.specs.Sets.{has_tile}
use Rattle.grid.specs.Some.{some}
use Rattle.grid.specs.Steps.{path_touches}
use Rattle.grid.proofs.Somes.{some_tests}
use Rattle.reservation.specs.declared.footprint.Footprint.{Footprint}
use Rattle.reservation.specs.declared.passage.Passage.{Passage}
use Rattle.reservation.specs.declared.request.Request.{Request}
use Rattle.reservation.specs.Cells.{both, both_at, locks, paths_meet, share, spans_overlap}
use Rattle.reservation.specs.Requests.{first_tick_of, last_tick_of}
use Rattle.reservation.specs.Meetings.{Locks, Shares}
use Rattle.reservation.proofs.Laws.{locks_symmetric, share_found, share_from, share_locks, share_symmetric}

module _ (j : Junction) (p q : Request) (answer : Bool) where
  pub shares : answer ≡ share j p q → Shares j p q answer
  shares told = record {
    told = told;
    cell = (λ e. share_found j p q (sym told ∙ e), λ w. told ∙ share_from j p q w);
    symmetric = told ∙ share_symmetric j p q;
  }

  pub locking : answer ≡ locks j p q → Locks j p q answer
  locking told = record {
    told = told;
    covers = λ e. told ∙ share_locks j p q e;
    symmetric = told ∙ locks_symmetric j p q;
  }

-- the tiles of the two whole paths have one in common exactly where the paths do
pub path_meets : (f : Footprint) (r : Request) (p : Path) → p.junction ≡ f.junction → p.body ≡ r.body
    → some 64 (λ tile. has_tile f.whole tile && has_tile p.tiles tile) ≡ paths_meet f.junction f.request r
path_meets f r p at of =
    some_tests 64 _ _ (λ tile.
    ap₂ ◌&&◌ (f.crosses tile) (p.crosses tile ∙ ap₂ (λ (j : Junction) (body : Body). path_touches j.lanes body tile) at of))

pub paths_meet_lem : (f g : Footprint) → f.junction ≡ g.junction
    → some 64 (λ tile. has_tile f.whole tile && has_tile g.whole tile) ≡ paths_meet f.junction f.request g.request
paths_meet_lem f g one = some_tests 64 _ _ (λ tile. ap₂ ◌&&◌ (f.crosses tile) (g.crosses tile ∙ ap (λ j. path_touches j.lanes g.request.body tile) (sym one)))

-- and those of two passages
pub passages_meet : (p q : Passage) → p.junction ≡ q.junction
    → some 64 (λ tile. has_tile p.tiles tile && has_tile q.tiles tile) ≡ paths_meet p.junction p.request q.request
passages_meet p q one = some_tests 64 _ _ (λ tile. ap₂ ◌&&◌ (p.crosses tile) (q.crosses tile ∙ ap (λ j. path_touches j.lanes q.request.body tile) (sym one)))

-- and the spans a tick exactly where the spans of the requests do
pub spans_told : (p q : Passage) → p.junction ≡ q.junction
    → (leb p.first q.last && leb q.first p.last) ≡ spans_overlap p.junction p.request q.request
spans_told p q one =
    let first = q.begins ∙ ap (λ j. first_tick_of j q.request) (sym one) in
    let last = q.ends ∙ ap (λ j. last_tick_of j q.request) (sym one) in
    ap₂ ◌&&◌ (ap₂ leb p.begins last) (ap₂ leb first p.ends)

-- the answer of a second test, behind a first that passed, and of a first that failed
pub passed : (x y r : Bool) → true ≡ x → r ≡ y → r ≡ (x && y)
passed x y r e is = is ∙ ap (λ t. t && y) e

pub failed : (x y r : Bool) → false ≡ x → r ≡ x → r ≡ (x && y)
failed x y r e is = is ∙ sym e ∙ sym (and_left x y (sym e))

-- what two requests have at a tick, each at its junction, where that is one
pub at_one : (j k : Junction) (p q : Request) (t : ℕ) → k ≡ j → some 64 (both_at j p k q t) ≡ some 64 (both j p q t)
at_one j k p q t one = ap (λ i. some 64 (both_at j p i q t)) one
