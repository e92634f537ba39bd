-- A tick keeps what holds of every world. Assumes nothing.
use Rattle.std.proofs.Common.{◌≡◌, ℕ, ◌+◌, ◌-◌, ◌<◌, ◌≤◌, Bool, true, cond, not, leb, ◌⊎◌, List, [], ◌∷◌, length, get_or, ℤ, pos, is_some, Some, Ok, sym, ap, ◌∙◌, subst, inl, inr, add-one, arith}
use Rattle.std.specs.List.{ContainsAt as Has, AllByRecursion as All}
use Rattle.std.proofs.ByRecursion.{All-append, All-get_or, all-has, all_has_itself, All-take, All-weaker}
use Rattle.std.proofs.lemmas.Int.{ints}
use Rattle.std.proofs.lemmas.Bool.{and_parts, cases_lt, cond_both, false≢true, le-leb}
use Rattle.grid.specs.declared.junction.Junction.{Junction}
use Rattle.grid.specs.Steps.{duration_of}
use Rattle.grid.proofs.Fitting.{lasts_some}
use Rattle.reservation.specs.declared.request.Request.{Request}
use Rattle.reservation.specs.Requests.{last_tick_of}
use Rattle.policy.specs.Views.{View, moved}
use Rattle.message.specs.declared.row.MessageRow.{MessageRow}
use Rattle.message.specs.declared.row.MessageRow.TheVariants as message
use Rattle.message.specs.Rows.{vehicle_of}
use Rattle.vehicle.specs.declared.rows.Claim.{Claim}
use Rattle.vehicle.specs.declared.rows.State.{State}
use Rattle.vehicle.specs.declared.rows.State.TheVariants.{Crossing}
use Rattle.vehicle.specs.declared.rows.VehicleRow.{VehicleRow}
use Rattle.vehicle.specs.Records.{Good}
use Rattle.vehicle.specs.Rows.{good_lag}
use Rattle.vehicle.specs.States.{awaited_of, done_at, held_of, is_in_lane}
use Rattle.vehicle.proofs.Parts.{good_parts, lag_parts}
use Rattle.run.specs.Ticks.{Ticked, Turns, dones, enters, finished, finishes, goes_on}
use Rattle.run.specs.Worlds.{Arrived, Conduct, World, blank, row_of}
use Rattle.invariant.proofs.Clear.{has_kept, stays}
use Rattle.invariant.proofs.Inv.{Fits, Inv, Lawful, Right, Sits}
use Rattle.invariant.proofs.Local.{Calmer, calmer_fits, calmer_right}
use Rattle.invariant.proofs.States.{done_holds_none, held_where, none_some}

-- a DONE that is sent is of a vehicle that came to its end
abbrev Sent : ℕ → List VehicleRow → MessageRow → Type 0
Sent v rs m = (k : ℕ) × (k < length rs) × (m ≡ message.Done (v + k)) × (is_some (done_at (get_or rs k blank).state) ≡ true)

sent_more : (v : ℕ) (r : VehicleRow) (rs : List VehicleRow) (m : MessageRow) → Sent (v + 1) rs m → Sent v (r ∷ rs) m
sent_more v r rs m s =
    let e : v + 1 + s.0 ≡ v + (s.0 + 1) = omega arith in
    (s.0 + 1, omega (arith, s.1), s.2 ∙ ap message.Done e, rw (add-one s.0) s.3)

dones_cond : (b : Bool) (v : ℕ) (r : VehicleRow) (rs : List VehicleRow) (ms : List MessageRow)
    → (b ≡ true → is_some (done_at r.state) ≡ true) → All (Sent (v + 1) rs) ms → All (Sent v (r ∷ rs)) (cond b (message.Done v ∷ ms) ms)
dones_cond b v r rs ms ended all =
    let later = All-weaker (Sent (v + 1) rs) (Sent v (r ∷ rs)) (sent_more v r rs) ms all in
    cond_both b (message.Done v ∷ ms) ms (All (Sent v (r ∷ rs)))
    (λ e. ((0, omega arith, ap message.Done (let z : v ≡ v + 0 = omega arith in z), ended e), later)) (λ e. later)

dones_sent : (v : ℕ) (rs rs' : List VehicleRow) → All (Sent v rs') (dones v rs rs')
dones_sent v [] rs' = tt
dones_sent v (r ∷ rs) [] = tt
dones_sent v (r ∷ rs) (r' ∷ rs') =
    dones_cond (finished r r') v r' rs' (dones (v + 1) rs rs') (λ e. (and_parts (not (is_some (done_at r.state))) _ e).1) (dones_sent (v + 1) rs rs')

-- a state over the tick that comes from the clock to the next one
module _ (j : Junction) (d clock : ℕ) (s s' : State) where
  abbrev t : ℕ
  t = clock + 1

  turns_holds : Turns j d t s s' → (h : Claim) → held_of s' ≡ Some h → held_of s ≡ Some h
  turns_holds (enters held at is) h k = at.1 ∙ sym (ap held_of is) ∙ k
  turns_holds (finishes held lag nudged was end is) h k = absurd (none_some (sym (ap held_of is) ∙ k))
  turns_holds (goes_on outside crossing is) h k = sym (ap held_of is) ∙ k

  turns_awaits : Turns j d t s s' → (a : Claim) → awaited_of s' ≡ Some a → awaited_of s ≡ Some a
  turns_awaits (enters held at is) a k = absurd (none_some (sym (ap awaited_of is) ∙ k))
  turns_awaits (finishes held lag nudged was end is) a k = absurd (none_some (sym (ap awaited_of is) ∙ k))
  turns_awaits (goes_on outside crossing is) a k = sym (ap awaited_of is) ∙ k

  turns_done : Turns j d t s s' → is_some (done_at s) ≡ true → is_some (done_at s') ≡ true
  turns_done (enters held at is) e = absurd (none_some (sym (done_holds_none s e) ∙ at.1))
  turns_done (finishes held lag nudged was end is) e = ap (λ x. is_some (done_at x)) is
  turns_done (goes_on outside crossing is) e = ap (λ x. is_some (done_at x)) is ∙ e

  turns_lag : Turns j d t s s' → ((h : Claim) (g : ℤ) (n : ℕ) → s ≡ Crossing h g n → good_lag j.buffer g ≡ true)
      → (h : Claim) (g : ℤ) (n : ℕ) → s' ≡ Crossing h g n → good_lag j.buffer g ≡ true
  turns_lag (enters held at is) good h g n k = let same : pos 0 ≡ g = cc in subst (λ g. good_lag j.buffer g ≡ true) same (grind (arith, ints))
  turns_lag (finishes held lag nudged was end is) good h g n k = absurd (none_some (sym (ap held_of is) ∙ ap held_of k))
  turns_lag (goes_on outside crossing is) good h g n k = good h g n (sym is ∙ k)

  -- what is held in lane is still to come, since who holds what comes now enters
  turns_ahead : Turns j d t s s' → (h : Claim) → (held_of s ≡ Some h → is_in_lane s ≡ true → clock + j.buffer < h.entry)
      → held_of s' ≡ Some h → is_in_lane s' ≡ true → t + j.buffer < h.entry
  turns_ahead (enters held at is) h ahead k lane = absurd (false≢true (sym (ap is_in_lane is) ∙ lane))
  turns_ahead (finishes held lag nudged was end is) h ahead k lane = absurd (none_some (sym (ap held_of is) ∙ k))
  turns_ahead (goes_on outside crossing is) h ahead k lane =
      let held = sym (ap held_of is) ∙ k in
      let in_lane = sym (ap is_in_lane is) ∙ lane in
      let before = ahead held in_lane in
      let not-now : h.entry ≡ t + j.buffer → ⊥ = λ now. outside h (in_lane, held, now) in
      omega (arith, before, not-now)

  -- the reservation that is held lasts beyond the tick: who crosses is not over, and at most the buffer late
  turns_lasts : Turns j d t s s' → 1 ≤ d → (h : Claim) → (held_of s ≡ Some h → is_in_lane s ≡ true → clock + j.buffer < h.entry)
      → ((h : Claim) (g : ℤ) (n : ℕ) → s ≡ Crossing h g n → good_lag j.buffer g ≡ true)
      → held_of s' ≡ Some h → t < h.entry + d + j.buffer
  turns_lasts (enters held at is) some h ahead lag k =
      let same : held.entry ≡ h.entry = (let e = sym (ap held_of is) ∙ k in cc) in omega (arith, at.2, same, some)
  turns_lasts (finishes held lag nudged was end is) some h ahead good k = absurd (none_some (sym (ap held_of is) ∙ k))
  turns_lasts (goes_on outside crossing is) some h ahead good k =
      let held = sym (ap held_of is) ∙ k in
      elim (held_where s h held) [
        | inl lane ↦ omega (arith, ahead held lane, some)
        | inr at ↦ (let late = (lag_parts j.buffer at.0 (good h at.0 at.1 at.2)).late in
            elim (cases_lt t (h.entry + d + j.buffer)) [
              | inl before ↦ before
              | inr past ↦ absurd (crossing h at.0 at.1 at.2 (omega (arith, ints, late, past)))
            ])
      ]

module _ {P : Type 0} (clash : Junction → Request → Request → Type 0) (c : Conduct P) (law : Lawful clash c) (room : ℕ) (w w' : World P)
    (good : All (Good (c.view w.policy).junction) w.vehicles) (inv : Inv clash (c.view w.policy) w.vehicles w.mail)
    (tick : Ticked c room w w') where
  abbrev view : View
  view = c.view w.policy

  abbrev j : Junction
  j = (c.view w.policy).junction

  abbrev now : ℕ
  now = (c.view w.policy).clock + 1

  was : (v : ℕ) → Arrived w'.vehicles v → Arrived w.vehicles v
  was v a = (a.0, omega (arith, a.1, tick.vehicles.count))

  still : (v : ℕ) → Arrived w.vehicles v → Arrived w'.vehicles v
  still v a = (a.0, omega (arith, a.1, tick.vehicles.count))

  calmer : (v : ℕ) → Arrived w.vehicles v → Calmer (row_of w.vehicles v) (row_of w'.vehicles v)
  calmer v a = let y = tick.vehicles.each v a in record {
    body = y.body;
    used = y.used;
    heard = y.heard;
    holds = turns_holds j _ view.clock _ _ y.state;
    awaits = turns_awaits j _ view.clock _ _ y.state;
    done = turns_done j _ view.clock _ _ y.state;
  }

  some_ticks : (v : ℕ) → Arrived w.vehicles v → 1 ≤ duration_of j.lanes (row_of w.vehicles v).body
  some_ticks v a =
      let row = row_of w.vehicles v in
      let is-good = All-get_or (Good j) w.vehicles (v - 1) blank (omega (arith, a.0, a.1)) good in
      lasts_some j.lanes row.body j.few (good_parts j row is-good).body

  outlasts : (x : Request) → Has view.ledger x → now < x.entry + duration_of j.lanes x.body + j.buffer → Has (moved view).ledger x
  outlasts x h before = stays (λ x. leb now (last_tick_of j x)) view.ledger x (le-leb now (last_tick_of j x) (omega arith)) h

  stood : (x : Request) → Has (moved view).ledger x → Has view.ledger x
  stood x h = has_kept (λ x. leb now (last_tick_of j x)) view.ledger x h

  fits_on : (m : MessageRow) → Arrived w.vehicles (vehicle_of m)
      → Fits view (row_of w.vehicles (vehicle_of m)) m → Fits (moved view) (row_of w.vehicles (vehicle_of m)) m
  fits_on (message.Request u q e d) here f = f
  fits_on (message.Change u q b e d) here f = f
  fits_on (message.Cancel u q) here f = f
  fits_on (message.Done u) here f = f
  fits_on (message.Confirm u q e) here f = (
    f.0,
    λ a awaits is later. (
        let y = f.1 a awaits is (omega (arith, later)) in
        let r : Right (row_of w.vehicles u) y.by = subst (λ v. Right (row_of w.vehicles v) y.by) y.vehicle (inv.ledger y.by y.stands).1 in
        let entry = r.entry a awaits (y.number ∙ is) in
        record { by = y.by; stands = outlasts y.by y.stands (omega (arith, later, entry)); vehicle = y.vehicle; number = y.number }
        ),
  )
  fits_on (message.Reject u q why) here f = f

  sits_on : (v : ℕ) → Arrived w.vehicles v → Sits (moved view) v (row_of w'.vehicles v)
  sits_on v a =
      let s = inv.own v a in
      let calm = calmer v a in
      let y = tick.vehicles.each v a in
      record {
        heard = omega (arith, s.heard, calm.heard, calm.used);
        latest = λ a k. s.latest a (calm.awaits a k) ∙ sym calm.used;
        apart = λ a h k l. s.apart a h (calm.awaits a k) (calm.holds h l);
        ahead = λ h. turns_ahead j _ view.clock _ _ y.state h (s.ahead h);
        reserved = λ h k. (
            let z = s.reserved h (calm.holds h k) in
            let lasts = turns_lasts j _ view.clock _ _ y.state (some_ticks v a) h (s.ahead h) s.lag k in
            record {
              by = z.by;
              stands = outlasts z.by z.stands (subst (λ e. now < e + duration_of j.lanes z.by.body + j.buffer) (sym z.entry)
                  (subst (λ b. now < h.entry + duration_of j.lanes b + j.buffer) (sym z.shape) lasts));
              vehicle = z.vehicle;
              number = z.number;
              entry = z.entry;
              shape = z.shape ∙ sym calm.body;
            }
            );
        lag = turns_lag j _ view.clock _ _ y.state s.lag;
      }

  abbrev New : MessageRow → Type 0
  New m = Has w.mail m ⊎ Sent 1 w'.vehicles m

  mail_from : (m : MessageRow) → Has w'.mail m → New m
  mail_from m h =
      let old = All-weaker (Has w.mail) New (λ x k. inl k) w.mail (all_has_itself w.mail) in
      let new = All-weaker (Sent 1 w'.vehicles) New (λ x k. inr k) _ (dones_sent 1 w.vehicles w'.vehicles) in
      all-has New _ m (All-append New w.mail _ old (All-take New (room - length w.mail) _ new)) (subst (λ ms. Has ms m) tick.mail h)

  sent_fits : (m : MessageRow) → Sent 1 w'.vehicles m → Arrived w'.vehicles (vehicle_of m) × Fits (moved view) (row_of w'.vehicles (vehicle_of m)) m
  sent_fits m s =
      let k = s.0 in
      let e : k ≡ 1 + k - 1 = omega arith in
      subst (λ m. Arrived w'.vehicles (vehicle_of m) × Fits (moved view) (row_of w'.vehicles (vehicle_of m)) m) (sym s.2)
      ((omega arith, omega (arith, s.1)), subst (λ i. is_some (done_at (get_or w'.vehicles i blank).state) ≡ true) e s.3)

  pub ticked_kept : Inv clash (c.view w'.policy) w'.vehicles w'.mail
  ticked_kept =
      subst (λ u. Inv clash u w'.vehicles w'.mail) (sym (law.passes w.policy (Ok tt) w'.policy tick.policy).1) (record {
        mail = λ m h. elim (mail_from m h) [
          | inl old ↦ (let k = inv.mail m old in
              (still (vehicle_of m) k.0, calmer_fits _ _ (calmer (vehicle_of m) k.0) (moved view) m (fits_on m k.0 k.1)))
          | inr new ↦ sent_fits m new
        ];
        ledger = λ x h. (let k = inv.ledger x (stood x h) in
            (still x.vehicle k.0, calmer_right _ _ (calmer x.vehicle k.0) x k.1));
        own = λ v a. sits_on v (was v a);
        free = λ x y hx hy. inv.free x y (stood x hx) (stood y hy);
      })
