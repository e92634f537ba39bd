-- What is known of a book and of what stands in it. Assumes nothing.
use mathlib.Core.HLevel.{is_prop→PathP}
use Rattle.std.proofs.Common.{◌≡◌, ◌≤◌, true, false, List, is_some, Some, None, Option, refl, sym, ap, subst}
use Rattle.std.specs.List.{ContainsAt as Has}
use Rattle.std.proofs.Props.{props}
use Rattle.std.proofs.lemmas.Bool.{both_ways}
use Rattle.grid.specs.declared.junction.Junction.{Junction}
use Rattle.refusal.specs.declared.kinds.Name.{Name}
use Rattle.reservation.specs.declared.request.Request.{Request}
use Rattle.reservation.specs.Requests.{in_range}
use Rattle.policy.specs.Views.{found, released, with_ledger}
use Rattle.ledger.specs.declared.standing.Standing.{Standing}
use Rattle.ledger.specs.Entries.{entries}
use Rattle.ledger.specs.Standings.{requests}
use Rattle.ledger.proofs.Firsts.{not_found}
use Rattle.ledger.proofs.Requests.{has_standing}
use Rattle.book.specs.Booked.{view_of}
use Rattle.book.specs.Standing.{AllEnd, AllRanged}
use Rattle.book.specs.declared.book.Book.{Book}

pub none_of : (o : Option Standing) → is_some o ≡ false → o ≡ None
none_of None e = refl
none_of (Some s) e = absurd (both_ways true e refl)

-- the same of the requests alone
pub requests_ranged : (j : Junction) (xs : List Standing) → AllRanged j xs → (x : Request) → Has (requests xs) x → in_range j x ≡ true
requests_ranged j xs all x h = let w = has_standing xs x h in subst (λ y. in_range j y ≡ true) w.2 (all w.0 w.1)

-- each is in range
pub all_ranged : {C : Type 0} (b : Book C) (x : Request) → Has (view_of b).ledger x → in_range b.junction x ≡ true
all_ranged b = requests_ranged b.junction (entries b.ledger) b.ranged

-- a release of what does not stand takes nothing out
pub absent_stays : {C : Type 0} (b : Book C) (n : Name) → is_some (found n (view_of b).ledger) ≡ false → view_of b ≡ released (view_of b) n
absent_stays b n e = ap (with_ledger (view_of b)) (sym (not_found n (entries b.ledger) e))

-- two books whose plain fields are the same are the same
pub same_book : {C : Type 0} (b c : Book C) → b.junction ≡ c.junction → b.clock ≡ c.clock → b.ledger ≡ c.ledger → b.clash ≡ c.clash → b ≡ c
same_book b c junction clock ledger clash = λ i. record {
  junction = junction i;
  clock = clock i;
  ledger = ledger i;
  clash = clash i;
  early = is_prop→PathP (λ j. clock j ≤ 1000000) (λ j. hlevel props) b.early c.early i;
  ranged = is_prop→PathP (λ j. AllRanged (junction j) (entries (ledger j))) (λ j. hlevel props) b.ranged c.ranged i;
  ends = is_prop→PathP (λ j. AllEnd (junction j) (entries (ledger j))) (λ j. hlevel props) b.ends c.ends i;
}
