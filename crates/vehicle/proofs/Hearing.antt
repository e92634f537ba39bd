-- What a vehicle makes of a message is determined, and keeps its row good. Assumes nothing.
use Rattle.std.proofs.Common.{◌≡◌, ℕ, true, leb, ◌⊎◌, IfSome, Some, None, Option, sym, refl, ap, ◌∙◌, subst, inl, inr, arith}
use Rattle.std.proofs.lemmas.Bool.{and_from, and_parts}
use Rattle.grid.specs.declared.junction.Junction.{Junction}
use Rattle.message.specs.Rows as message
use Rattle.message.specs.declared.row.MessageRow.{MessageRow}
use Rattle.vehicle.specs.declared.rows.Claim.{Claim}
use Rattle.vehicle.specs.declared.rows.State.{State}
use Rattle.vehicle.specs.declared.rows.State.TheVariants.{Holding}
use Rattle.vehicle.specs.Hearing.{Ends, Hears, InTime, Reply, Told, ended, farewell, granted, grants, other, refuses, reply_of, settled}
use Rattle.vehicle.specs.Rows.{good_claim, good_state}
use Rattle.vehicle.specs.States.{awaited_of, held_of}
use Rattle.vehicle.proofs.Parts.{awaited_good, held_good}

-- there is one awaited claim
one_claim : (o : Option Claim) (c d : Claim) → o ≡ Some c → o ≡ Some d → c ≡ d
one_claim o c d p q = cc

-- a message grants or refuses, and not both
not_both : (y : Reply) (p q : ℕ) → y ≡ grants p → y ≡ refuses q → ⊥
not_both y p q e f = let z : ◌≡◌ {A = ℕ} 0 1 = cc in omega arith

module _ (j : Junction) (clock v : ℕ) (s : State) (m : MessageRow) where
  granted_or_ended : (c d : Claim) → awaited_of s ≡ Some c → awaited_of s ≡ Some d → reply_of m ≡ grants c.number → InTime j clock c
      → Ends j clock m d → ⊥
  granted_or_ended c d p q grant early (inl late) = late.1 (subst (InTime j clock) (one_claim _ c d p q) early)
  granted_or_ended c d p q grant early (inr refused) = not_both (reply_of m) c.number d.number grant refused

  answered : (c : Claim) → Ends j clock m c → (reply_of m ≡ grants c.number) ⊎ (reply_of m ≡ refuses c.number)
  answered c (inl late) = inl late.0
  answered c (inr refused) = inr refused

  told_once : (r : State × Option MessageRow) → Told j clock v s m r → (x : State × Option MessageRow) → Told j clock v s m x → x ≡ r
  told_once r (granted c p g t e) x (granted d q h u f) = f ∙ ap (λ c. (Holding c, farewell v (held_of s))) (one_claim _ d c q p) ∙ sym e
  told_once r (granted c p g t e) x (ended d q w f) = absurd (granted_or_ended c d p q g t w)
  told_once r (granted c p g t e) x (other never f) = absurd (never c p (inl g))
  told_once r (ended c p w e) x (granted d q h u f) = absurd (granted_or_ended d c q p h u w)
  told_once r (ended c p w e) x (ended d q z f) = f ∙ sym e
  told_once r (ended c p w e) x (other never f) = absurd (never c p (answered c w))
  told_once r (other never e) x (granted d q h u f) = absurd (never d q (inl h))
  told_once r (other never e) x (ended d q z f) = absurd (never d q (answered d z))
  told_once r (other never e) x (other also f) = f ∙ sym e

-- a good claim, or none, is held in a good state, and is cancelled by a good message
settled_good : (b : ℕ) (o : Option Claim) → ((c : Claim) → o ≡ Some c → good_claim c ≡ true) → good_state b (settled o) ≡ true
settled_good b None good = refl
settled_good b (Some c) good = good c refl

farewell_good : (v : ℕ) (o : Option Claim) → message.fits_vehicle v ≡ true → ((c : Claim) → o ≡ Some c → good_claim c ≡ true)
    → IfSome (farewell v o) (λ m. message.good_row m ≡ true)
farewell_good v None numbered good = tt
farewell_good v (Some c) numbered good =
    and_from (message.fits_vehicle v) (message.is_number c.number) numbered
    (and_parts (message.is_number c.number) (leb c.entry 1000127) (good c refl)).0

module _ (j : Junction) (clock v : ℕ) (s : State) (m : MessageRow) where
  abbrev Sound : State × Option MessageRow → Type 0
  Sound r = (good_state j.buffer r.0 ≡ true) × IfSome r.1 (λ m. message.good_row m ≡ true)

  told_good : (r : State × Option MessageRow) → Told j clock v s m r → (message.fits_vehicle v ≡ true) × (good_state j.buffer s ≡ true) → Sound r
  told_good r (granted c p g t e) h =
      subst Sound (sym e) (awaited_good j.buffer s h.1 c p, farewell_good v (held_of s) h.0 (held_good j.buffer s h.1))
  told_good r (ended c p w e) h = subst Sound (sym e) (settled_good j.buffer (held_of s) (held_good j.buffer s h.1), tt)
  told_good r (other never e) h = subst Sound (sym e) (h.1, tt)

  hears : (r : State × Option MessageRow) → Told j clock v s m r → Hears j clock v s m r
  hears r t = record { told = t; only = told_once j clock v s m r t; good = told_good r t }

-- the cases, by what vehicle v awaits and holds and by the number q in the message
module _ {j : Junction} {clock v : ℕ} {s : State} {m : MessageRow} {c : Claim} {held : Option Claim} {q : ℕ} {r : State × Option MessageRow}
    (awaits : awaited_of s ≡ Some c) (holds : held_of s ≡ held) (same : q ≡ c.number) where
  pub in_time : reply_of m ≡ grants q → InTime j clock c → r ≡ (Holding c, farewell v held) → Hears j clock v s m r
  in_time grant early is =
      hears j clock v s m r (granted c awaits (grant ∙ ap grants same) early (is ∙ ap (λ o. (Holding c, farewell v o)) (sym holds)))

  lapsed : Ends j clock m c → r ≡ (settled held, None) → Hears j clock v s m r
  lapsed ends is = hears j clock v s m r (ended c awaits ends (is ∙ ap (λ o. (settled o, None)) (sym holds)))

  pub too_late_lem : reply_of m ≡ grants q → (InTime j clock c → ⊥) → r ≡ (settled held, None) → Hears j clock v s m r
  too_late_lem grant late is = lapsed (inl (grant ∙ ap grants same, late)) is

  pub refused : reply_of m ≡ refuses q → r ≡ (settled held, None) → Hears j clock v s m r
  refused refusal is = lapsed (inr (refusal ∙ ap refuses same)) is
