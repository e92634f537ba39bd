-- The calls but deliver and tick keep what holds of every world. Assumes nothing.
use Rattle.std.proofs.Common.{◌≡◌, ℕ, suc, ◌+◌, ◌-◌, ◌<◌, ◌≤◌, true, false, ◌⊎◌, List, [], ◌∷◌, ◌++◌, length, set, ℤ, is_some, Some, sym, refl, ap, ◌∙◌, subst, inl, inr, arith}
use Rattle.std.specs.List.{ContainsAt as Has, remove}
use Rattle.std.proofs.ByRecursion.{All-append, All-drop, all-has, all_has_itself, All-take, has_get_or, has_push_cases}
use Rattle.std.proofs.lemmas.List.{get_or_append_left, get_or_push, length_push}
use Rattle.std.proofs.lemmas.Bool.{both_ways, cases_eq}
use Rattle.grid.specs.declared.junction.Junction.{Junction}
use Rattle.grid.specs.declared.kinds.Body.{Body}
use Rattle.reservation.specs.declared.request.Request.{Request}
use Rattle.policy.specs.Views.{View}
use Rattle.message.specs.declared.row.MessageRow.{MessageRow}
use Rattle.message.specs.declared.row.MessageRow.TheVariants as message
use Rattle.message.specs.Rows.{vehicle_of}
use Rattle.vehicle.specs.declared.rows.Claim.{Claim}
use Rattle.vehicle.specs.declared.rows.State.{State}
use Rattle.vehicle.specs.declared.rows.State.TheVariants.{Idle, Asking, Holding, Changing, Crossing, Done}
use Rattle.vehicle.specs.declared.rows.VehicleRow.{VehicleRow}
use Rattle.vehicle.specs.Rows.{good_lag}
use Rattle.vehicle.specs.States.{awaited_of, done_at, held_of, is_in_lane, in_state}
use Rattle.run.specs.Calls.{MayAsk, arriving, keeping, next_claim, numbered}
use Rattle.run.specs.Worlds.{Arrived, blank, message_of, no_mail, row_of}
use Rattle.invariant.proofs.Inv.{Fits, Holds, Inv, Right, Sits}
use Rattle.invariant.proofs.Local.{Calmer, calmer_fits, calmer_right, calmer_sits, inv_local}
use Rattle.invariant.proofs.States.{none_some, outside, some_same}

-- who may ask is not done
ask_goes : (s : State) → MayAsk s → is_some (done_at s) ≡ true → ⊥
ask_goes s (inl is) done = both_ways _ (ap (λ s. is_some (done_at s)) is) done
ask_goes s (inr (c, is)) done = both_ways _ (ap (λ s. is_some (done_at s)) is) done

-- who keeps a claim holds it, is in lane, and is not done
record Keeps (s : State) (h : Claim) : Type 0 where
  pub held : held_of s ≡ Some h
  pub lane : is_in_lane s ≡ true
  pub going : is_some (done_at s) ≡ true → ⊥

keeps : (s : State) (h : Claim) → keeping s ≡ Some h → Keeps s h
keeps Idle h is = absurd (none_some is)
keeps (Asking _) h is = absurd (none_some is)
keeps (Holding _) h is = record { held = is; lane = refl; going = both_ways false refl }
keeps (Changing _ _) h is = record { held = is; lane = refl; going = both_ways false refl }
keeps (Crossing _ _ _) h is = absurd (none_some is)
keeps (Done _) h is = absurd (none_some is)

pub has_removed : {X : Type 0} (xs : List X) (i : ℕ) (x : X) → Has (remove xs i) x → Has xs x
has_removed xs i x = all-has (Has xs) (remove xs i) x
    (All-append (Has xs) _ _ (All-take (Has xs) i xs (all_has_itself xs)) (All-drop (Has xs) (suc i) xs (all_has_itself xs)))

module _ (clash : Junction → Request → Request → Type 0) (w : View) (vs : List VehicleRow) (ms : List MessageRow) (inv : Inv clash w vs ms) where
  module _ (v : ℕ) (here : Arrived vs v) where
    abbrev row : VehicleRow
    row = row_of vs v

    sits : Sits w v row
    sits = inv.own v here

    pub held_low : (h : Claim) → Holds row h → h.number ≤ row.heard
    held_low h k =
        let y = sits.reserved h k in
        let low : y.by.number ≤ (row_of vs y.by.vehicle).heard = (inv.ledger y.by y.stands).1.heard in
        let at : (row_of vs y.by.vehicle).heard ≡ row.heard = ap (λ u. (row_of vs u).heard) y.vehicle in
        omega (arith, low, at, y.number)

    -- v takes its next number, awaits it, holds what it held, and sends a message
    module _ (e : ℕ) (s : State) (m : MessageRow) (is : vehicle_of m ≡ v)
        (awaits : (a : Claim) → awaited_of s ≡ Some a → next_claim row e ≡ a)
        (holds : (h : Claim) → held_of s ≡ Some h → Holds row h × (is_in_lane row.state ≡ true))
        (going : is_some (done_at row.state) ≡ true → ⊥)
        (lane : is_in_lane s ≡ true)
        (fit : Fits w (numbered row s) m) where
      latest : (a : Claim) → awaited_of s ≡ Some a → row.used + 1 ≡ a.number
      latest a k = ap (λ (c : Claim). c.number) (awaits a k)

      -- no older number is awaited
      unawaited : (q : ℕ) (a : Claim) → q ≤ row.used → awaited_of s ≡ Some a → q ≡ a.number → ⊥
      unawaited q a low k eq = omega (arith, latest a k)

      fits_next : (n : MessageRow) → Fits w row n → Fits w (numbered row s) n
      fits_next (message.Request u q k d) f = (omega (arith, f.0), (λ h k. f.1 h (holds h k).0), λ a k eq. absurd (unawaited q a f.0 k eq))
      fits_next (message.Change u q b k d) f = (omega (arith, f.0), (λ h k. f.1 h (holds h k).0), λ a k eq. absurd (unawaited q a f.0 k eq))
      fits_next (message.Cancel u q) f = (omega (arith, f.0), (λ h k. f.1 h (holds h k).0), λ a k eq. unawaited q a f.0 k eq)
      fits_next (message.Done u) f = absurd (going f)
      fits_next (message.Confirm u q k) f = (f.0, λ a k eq. absurd (unawaited q a (omega (arith, f.0, sits.heard)) k eq))
      fits_next (message.Reject u q why) f = tt

      numbered_kept : Inv clash w (set vs (v - 1) (numbered row s)) (ms ++ m ∷ [])
      numbered_kept = inv_local w vs ms v (numbered row s) w (ms ++ m ∷ []) here (record {
        junction = refl;
        clock = refl;
        mail = λ n h. elim (has_push_cases ms m n h) [ inl k ↦ inl k | inr eq ↦ inr (subst (λ k. (vehicle_of k ≡ v) × Fits w (numbered row s) k) eq (is, fit)) ];
        fits = λ n h _ f. fits_next n f;
        ledger = λ x h. inl h;
        right = λ x h _ f. record {
          shape = f.shape;
          heard = f.heard;
          entry = λ a k eq. absurd (unawaited x.number a (omega (arith, f.heard, sits.heard)) k eq);
        };
        others = λ x h ne. h;
        sits = record {
          heard = omega (arith, sits.heard);
          latest = λ a k. sym (latest a k);
          apart = λ a h k l eq. unawaited h.number a (omega (arith, held_low h (holds h l).0, sits.heard)) k eq;
          ahead = λ h k _. sits.ahead h (holds h k).0 (holds h k).1;
          reserved = λ h k. sits.reserved h (holds h k).0;
          lag = λ h l t eq. absurd (outside s lane h l t eq);
        };
      }) clash inv.free inv

    pub asks_kept : (q e d : ℕ) → MayAsk row.state → q ≡ row.used + 1
        → Inv clash w (set vs (v - 1) (numbered row (Asking (next_claim row e)))) (ms ++ message.Request v q e d ∷ [])
    asks_kept q e d may is = numbered_kept e (Asking (next_claim row e)) (message.Request v q e d) refl (λ a k. some_same k) (λ h k. absurd (none_some k))
        (ask_goes row.state may) refl
        (omega (arith, is), (λ h k. absurd (none_some k)), λ a k eq. ap (λ (c : Claim). c.entry) (some_same k))

    pub changes_kept : (q e d : ℕ) (held : Claim) → keeping row.state ≡ Some held → q ≡ row.used + 1
        → Inv clash w (set vs (v - 1) (numbered row (Changing held (next_claim row e)))) (ms ++ message.Change v q held.number e d ∷ [])
    changes_kept q e d held kept is =
        let f = keeps row.state held kept in
        numbered_kept e (Changing held (next_claim row e)) (message.Change v q held.number e d) refl (λ a k. some_same k)
        (λ h k. (f.held ∙ k, f.lane)) f.going refl
        (omega (arith, is), (λ h k _. ap (λ (c : Claim). c.number) (some_same k)), λ a k eq. ap (λ (c : Claim). c.entry) (some_same k))

    -- v comes to hold and await no more than before
    pub calmer_kept : (r : VehicleRow) (ms' : List MessageRow) → Calmer row r
        → ((m : MessageRow) → Has ms' m → Has ms m ⊎ ((vehicle_of m ≡ v) × Fits w r m))
        → ((h : Claim) → Holds r h → is_in_lane r.state ≡ true → w.clock + w.junction.buffer < h.entry)
        → ((h : Claim) (l : ℤ) (t : ℕ) → r.state ≡ Crossing h l t → good_lag w.junction.buffer l ≡ true)
        → Inv clash w (set vs (v - 1) r) ms'
    calmer_kept r ms' c mail ahead lag = inv_local w vs ms v r w ms' here (record {
      junction = refl;
      clock = refl;
      mail = mail;
      fits = λ n h _ f. calmer_fits row r c w n f;
      ledger = λ x h. inl h;
      right = λ x h _ f. calmer_right row r c x f;
      others = λ x h ne. h;
      sits = calmer_sits row r c w v sits ahead lag;
    }) clash inv.free inv

    pub cancels_kept : (held : Claim) → keeping row.state ≡ Some held
        → Inv clash w (set vs (v - 1) (in_state row Idle)) (ms ++ message.Cancel v held.number ∷ [])
    cancels_kept held kept =
        let f = keeps row.state held kept in
        calmer_kept (in_state row Idle) (ms ++ message.Cancel v held.number ∷ [])
        (record { body = refl; used = refl; heard = refl; holds = λ h k. absurd (none_some k); awaits = λ a k. absurd (none_some k); done = λ g. absurd (f.going g) })
        (λ m h. elim (has_push_cases ms _ m h) [
          | inl k ↦ inl k
          | inr eq ↦ inr (subst (λ k. (vehicle_of k ≡ v) × Fits w (in_state row Idle) k) eq
              (refl, (omega (arith, held_low held f.held, sits.heard), (λ h k. absurd (none_some k)), λ a k. absurd (none_some k))))
        ])
        (λ h k. absurd (none_some k)) (λ h l t eq. absurd (outside Idle refl h l t eq))

    pub nudges_kept : (held : Claim) (lag lag' : ℤ) (nudged nudged' : ℕ) → row.state ≡ Crossing held lag nudged
        → good_lag w.junction.buffer lag' ≡ true → Inv clash w (set vs (v - 1) (in_state row (Crossing held lag' nudged'))) ms
    nudges_kept held lag lag' nudged nudged' is good =
        calmer_kept (in_state row (Crossing held lag' nudged')) ms
        (record {
          body = refl;
          used = refl;
          heard = refl;
          holds = λ h k. ap held_of is ∙ k;
          awaits = λ a k. absurd (none_some k);
          done = λ g. let e = ap done_at is in subst (λ o. is_some o ≡ true) e g;
        })
        (λ m h. inl h) (λ h k e. absurd (both_ways false refl e))
        (λ h l t eq. let e : lag' ≡ l = cc in subst (λ g. good_lag w.junction.buffer g ≡ true) e good)

  pub loses_kept : (i : ℕ) → Inv clash w vs (remove ms i)
  loses_kept i = record { mail = λ m h. inv.mail m (has_removed ms i m h); ledger = inv.ledger; own = inv.own; free = inv.free }

  pub repeats_kept : (i : ℕ) → i - 1 < length ms → Inv clash w vs (ms ++ message_of ms i ∷ [])
  repeats_kept i lt = record {
    mail = λ m h. elim (has_push_cases ms (message_of ms i) m h) [ inl k ↦ inv.mail m k | inr eq ↦ inv.mail m (subst (Has ms) eq (has_get_or ms (i - 1) no_mail lt)) ];
    ledger = inv.ledger;
    own = inv.own;
    free = inv.free;
  }

  pub arrives_kept : (clock : ℕ) (b : Body) (d : ℕ) → Inv clash w (vs ++ arriving clock b d ∷ []) ms
  arrives_kept clock b d =
      let new = arriving clock b d in
      let vs' = vs ++ new ∷ [] in
      let more : (u : ℕ) → Arrived vs u → Arrived vs' u = λ u a. (a.0, omega (arith, a.1, length_push vs new)) in
      let same : (u : ℕ) → Arrived vs u → row_of vs' u ≡ row_of vs u = λ u a. get_or_append_left vs (new ∷ []) blank (u - 1) (omega (arith, a.0, a.1)) in
      record {
        mail = λ m h. (let k = inv.mail m h in (more (vehicle_of m) k.0, subst (λ r. Fits w r m) (sym (same (vehicle_of m) k.0)) k.1));
        ledger = λ x h. (let k = inv.ledger x h in (more x.vehicle k.0, subst (λ r. Right r x) (sym (same x.vehicle k.0)) k.1));
        own = λ u a. elim (cases_eq u (length vs + 1)) [
          | inl e ↦ subst (Sits w u) (sym (get_or_push vs new blank (u - 1) (omega (arith, e)))) (record {
            heard = omega arith;
            latest = λ a k. absurd (none_some k);
            apart = λ a h k. absurd (none_some k);
            ahead = λ h k. absurd (none_some k);
            reserved = λ h k. absurd (none_some k);
            lag = λ h l t eq. absurd (outside Idle refl h l t eq);
          })
          | inr ne ↦ (let o : Arrived vs u = (a.0, omega (arith, a.1, length_push vs new, ne)) in subst (Sits w u) (sym (same u o)) (inv.own u o))
        ];
        free = inv.free;
      }

-- a run just opened over an empty ledger
pub inv_new : (clash : Junction → Request → Request → Type 0) (w : View) → w.ledger ≡ [] → Inv clash w [] []
inv_new clash w none = record {
  mail = λ m h. absurd (no_one h);
  ledger = λ x h. absurd (no_one (subst (λ xs. Has xs x) none h));
  own = λ v a. absurd (let z : ⊥ = omega (arith, a.0, a.1) in z);
  free = λ x y h. absurd (no_one (subst (λ xs. Has xs x) none h));
}
  where
    no_one : {X : Type 0} {x : X} → Has [] x → ⊥
    no_one h = omega (arith, h.1)
