-- A delivery leaves the policy's junction and clock as they are. Assumes nothing.
use Rattle.std.proofs.Common.{◌≡◌, ℕ, Bool, true, Some, None, Ok, Err, Option, Result, sym, refl, ap, ◌∙◌, subst}
use Rattle.refusal.specs.declared.kinds.Denial.{Denial}
use Rattle.refusal.specs.declared.kinds.Name.{Name}
use Rattle.reservation.specs.declared.request.Request.{Request}
use Rattle.policy.specs.Views.{View, asked, released}
use Rattle.message.specs.declared.row.MessageRow.{MessageRow}
use Rattle.message.specs.declared.row.MessageRow.TheVariants as message
use Rattle.vehicle.specs.declared.rows.VehicleRow.{VehicleRow}
use Rattle.run.specs.Manager.{Acts, Cleared, Judged, Outcome, baseless, judged, known, more, old, outcome, over}
use Rattle.run.specs.Worlds.{Conduct}

pub record Moment (w w' : View) : Type 0 where
  pub junction : w'.junction ≡ w.junction
  pub clock : w'.clock ≡ w.clock

still : (w : View) → Moment w w
still w = record { junction = refl; clock = refl }

after : (u v w : View) → Moment u v → Moment v w → Moment u w
after u v w x y = record { junction = y.junction ∙ x.junction; clock = y.clock ∙ x.clock }

asked_still : (w : View) (r : Request) (a : Result (Unit {0}) Denial) → Moment w (asked w r a)
asked_still w r (Ok _) = record { junction = refl; clock = refl }
asked_still w r (Err _) = still w

module _ {P : Type 0} (c : Conduct P)
    (records : (s : P) (r : Request) (a : Result (Unit {0}) Denial) (t : P) → c.asks s r a t → c.view t ≡ asked (c.view s) r a)
    (removes : (s : P) (n : Name) (a : Bool) (t : P) → c.releases s n a t → c.view t ≡ released (c.view s) n) where
  released_still : (s : P) (n : Name) (a : Bool) (t : P) → c.releases s n a t → Moment (c.view s) (c.view t)
  released_still s n a t h = subst (Moment (c.view s)) (sym (removes s n a t h)) (record { junction = refl; clock = refl })

  cleared_still : (v : ℕ) (base : Option ℕ) (s t : P) → Cleared c v base s t → Moment (c.view s) (c.view t)
  cleared_still v base s t (over _ none) = still (c.view s)
  cleared_still v base s t (more _ between _ x first out rest) =
      after (c.view s) (c.view between) (c.view t) (released_still s _ true between out) (cleared_still v base between t rest)

  module _ (p : P) (row : VehicleRow) where
    comes_to : (o : Outcome P) (r : VehicleRow) (t : P) (m : Option MessageRow) → o ≡ outcome r t m → Moment (c.view p) (c.view t) → Moment (c.view p) (c.view o.policy)
    comes_to o r t m is = subst (λ t. Moment (c.view p) (c.view t)) (sym (ap (λ o. o.policy) is))

    judged_still : (v q e d : ℕ) (base : Option ℕ) (o : Outcome P) → Judged c p row v q e d base o → Moment (c.view p) (c.view o.policy)
    judged_still v q e d base o (old lt is) = comes_to o _ p _ is (still (c.view p))
    judged_still v q e d base o (known at is) = comes_to o _ p _ is (still (c.view p))
    judged_still v q e d base o (baseless gt t clear gone is) = comes_to o _ t _ is (cleared_still v base p t clear)
    judged_still v q e d base o (judged gt between clear based a t asks is) =
        comes_to o _ t _ is (after (c.view p) (c.view between) (c.view t) (cleared_still v base p between clear)
        (subst (Moment (c.view between)) (sym (records between _ a t asks)) (asked_still (c.view between) _ a)))

    pub acts_still : (m : MessageRow) (o : Outcome P) → Acts c p row m o → Moment (c.view p) (c.view o.policy)
    acts_still (message.Request v q e d) o a = judged_still v q e d None o a
    acts_still (message.Change v q b e d) o a = judged_still v q e d (Some b) o a
    acts_still (message.Cancel v q) o a = released_still p _ a.0 o.policy a.1
    acts_still (message.Done v) o a = cleared_still v None p o.policy a.0
    acts_still (message.Confirm v q e) o a = subst (λ t. Moment (c.view p) (c.view t)) (sym a.policy_is) (still (c.view p))
    acts_still (message.Reject v q why) o a = subst (λ t. Moment (c.view p) (c.view t)) (sym a.policy_is) (still (c.view p))
