-- What a call makes of a policy that has no gate, and no memory that its view does not fix. Assumes nothing.
use Rattle.std.specs.Prelude.{◌≡◌, Bool, false, is_some, None, Err, Result}
use Rattle.grid.specs.declared.junction.Junction.{Junction}
use Rattle.refusal.specs.declared.kinds.CallFault.{CallFault}
use Rattle.refusal.specs.declared.kinds.Denial.{Denial}
use Rattle.refusal.specs.declared.kinds.Name.{Name}
use Rattle.reservation.specs.declared.request.Request.{Request}
use Rattle.policy.specs.Answers.{Answer}
use Rattle.policy.specs.Views.{Advanced, View, asked, found, released}

-- the answer is the table's, the view after it the one that the rules give, and a refusal leaves all as it was
pub record Asks {S : Type 0} (view_of : S → View) (clash : Junction → Request → Request → Type 0) (s : S) (r : Request) (a : Result (Unit {0}) Denial) (s' : S) : Type 0 where
  pub answer : Answer clash (view_of s) None r a
  pub after : view_of s' ≡ asked (view_of s) r a
  pub spares : (d : Denial) → a ≡ Err d → s' ≡ s

pub record Releases {S : Type 0} (view_of : S → View) (s : S) (n : Name) (a : Bool) (s' : S) : Type 0 where
  pub answer : a ≡ is_some (found n (view_of s).ledger)
  pub after : view_of s' ≡ released (view_of s) n
  pub spares : a ≡ false → s' ≡ s

pub record Advances {S : Type 0} (view_of : S → View) (s : S) (a : Result (Unit {0}) CallFault) (s' : S) : Type 0 where
  pub after : Advanced (view_of s) a (view_of s')
  pub spares : (e : CallFault) → a ≡ Err e → s' ≡ s
