-- What a state cannot hold or await. Assumes nothing.
use Rattle.std.proofs.Common.{◌≡◌, ℕ, true, ◌⊎◌, ℤ, is_some, Some, None, Option, refl, ap, inl, inr, arith}
use Rattle.std.proofs.lemmas.Bool.{both_ways, false≢true}
use Rattle.vehicle.specs.declared.rows.Claim.{Claim}
use Rattle.vehicle.specs.declared.rows.State.{State}
use Rattle.vehicle.specs.declared.rows.State.TheVariants.{Idle, Asking, Holding, Changing, Crossing, Done}
use Rattle.vehicle.specs.States.{awaited_of, done_at, held_of, is_in_lane}

pub none_some : {X : Type 0} {x : X} → ◌≡◌ {A = Option X} None (Some x) → ⊥
none_some is = let z : ◌≡◌ {A = ℕ} 0 1 = cc in omega arith

pub some_same : {X : Type 0} {x y : X} → ◌≡◌ {A = Option X} (Some x) (Some y) → x ≡ y
some_same is = cc

-- who is in lane is not crossing
pub outside : (s : State) → is_in_lane s ≡ true → (h : Claim) (l : ℤ) (t : ℕ) → s ≡ Crossing h l t → ⊥
outside s lane h l t is = both_ways _ (ap is_in_lane is) lane

-- who awaits an answer is in lane
pub awaits_in_lane : (s : State) (a : Claim) → awaited_of s ≡ Some a → is_in_lane s ≡ true
awaits_in_lane Idle a is = refl
awaits_in_lane (Asking c) a is = refl
awaits_in_lane (Holding c) a is = refl
awaits_in_lane (Changing held awaited) a is = refl
awaits_in_lane (Crossing held lag nudged) a is = absurd (none_some is)
awaits_in_lane (Done tick) a is = absurd (none_some is)

-- who has crossed neither holds nor awaits anything
pub done_holds_none : (s : State) → is_some (done_at s) ≡ true → held_of s ≡ None
done_holds_none Idle e = absurd (false≢true e)
done_holds_none (Asking c) e = absurd (false≢true e)
done_holds_none (Holding c) e = absurd (false≢true e)
done_holds_none (Changing held awaited) e = absurd (false≢true e)
done_holds_none (Crossing held lag nudged) e = absurd (false≢true e)
done_holds_none (Done tick) e = refl

pub done_awaits_none : (s : State) → is_some (done_at s) ≡ true → awaited_of s ≡ None
done_awaits_none Idle e = absurd (false≢true e)
done_awaits_none (Asking c) e = absurd (false≢true e)
done_awaits_none (Holding c) e = absurd (false≢true e)
done_awaits_none (Changing held awaited) e = absurd (false≢true e)
done_awaits_none (Crossing held lag nudged) e = absurd (false≢true e)
done_awaits_none (Done tick) e = refl

-- who holds something is in lane, or on its way across
pub held_where : (s : State) (h : Claim) → held_of s ≡ Some h → (is_in_lane s ≡ true) ⊎ ((lag : ℤ) × (nudged : ℕ) × (s ≡ Crossing h lag nudged))
held_where Idle h is = absurd (none_some is)
held_where (Asking c) h is = absurd (none_some is)
held_where (Holding c) h is = inl refl
held_where (Changing held awaited) h is = inl refl
held_where (Crossing held lag nudged) h is = inr (lag, nudged, cc)
held_where (Done tick) h is = absurd (none_some is)
