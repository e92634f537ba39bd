-- A delivery keeps what holds of every world. Assumes nothing.
use Rattle.std.proofs.Common.{◌≡◌, ℕ, ◌+◌, ◌-◌, ◌<◌, ◌≤◌, Bool, true, false, cond, eqb, ◌⊎◌, List, [], ◌∷◌, ◌++◌, set, IfSome, Some, None, Ok, Err, Option, Result, sym, refl, ap, ◌∙◌, subst, inl, inr, arith}
use Rattle.std.specs.List.{ContainsAt as Has}
use Rattle.std.proofs.ByRecursion.{all-has, all_has_itself, All-set, All-weaker, has_append_left, has_append_right, has_get_or, has_push, has_push_cases}
use Rattle.std.proofs.lemmas.Bool.{and_parts, eqb-true}
use Rattle.grid.specs.declared.junction.Junction.{Junction}
use Rattle.refusal.specs.declared.kinds.Denial.{Denial}
use Rattle.refusal.specs.declared.kinds.Denial.TheVariants.{Because}
use Rattle.refusal.specs.declared.kinds.Reason.{Reason}
use Rattle.refusal.specs.declared.kinds.Reason.TheVariants.{BaseGone}
use Rattle.reservation.specs.declared.request.Request.{Request}
use Rattle.policy.specs.Answers.{Answer, Bars}
use Rattle.policy.specs.Views.{View, asked, found, named, with_ledger}
use Rattle.message.specs.declared.row.MessageRow.{MessageRow}
use Rattle.message.specs.declared.row.MessageRow.TheVariants as message
use Rattle.message.specs.Rows.{vehicle_of}
use Rattle.vehicle.specs.declared.rows.Claim.{Claim}
use Rattle.vehicle.specs.declared.rows.State.{State}
use Rattle.vehicle.specs.declared.rows.State.TheVariants.{Holding}
use Rattle.vehicle.specs.declared.rows.VehicleRow.{VehicleRow}
use Rattle.vehicle.specs.Hearing.{Told, ended, farewell, granted, grants, other, reply_of, settled}
use Rattle.vehicle.specs.States.{awaited_of, held_of, is_in_lane, in_state}
use Rattle.run.specs.Manager.{Acts, Delivered, Judged, Outcome, Responds, Stale, acted, again, baseless, dropped, hearing, judged, known, name, old, outcome, replied, request, verdict}
use Rattle.run.specs.Worlds.{Arrived, Conduct, World, row_of}
use Rattle.invariant.specs.Promises.{Reserved}
use Rattle.invariant.proofs.Clear.{Bears, Fewer, cleared_fewer, fewer_apart, released_fewer}
use Rattle.invariant.proofs.Inv.{Apart, Awaits, Fits, Holds, Inv, Lawful, Named, Right, Sits}
use Rattle.invariant.proofs.Local.{Calmer, fits_moved, inv_local, sits_moved}
use Rattle.invariant.proofs.States.{awaits_in_lane, done_awaits_none, done_holds_none, none_some, outside, some_same}
use Rattle.invariant.proofs.Steps.{calmer_kept, has_removed, held_low, loses_kept}

has_set : {X : Type 0} (xs : List X) (i : ℕ) (y x : X) → Has (set xs i y) x → Has xs x ⊎ (y ≡ x)
has_set {X} xs i y x =
    let Either : X → Type 0 = λ z. Has xs z ⊎ (y ≡ z) in
    all-has Either (set xs i y) x (All-set Either xs i y (inr refl) (All-weaker (Has xs) Either (λ z h. inl h) xs (all_has_itself xs)))

-- a name that is found stands
found_head : (b : Bool) (x : Request) (xs : List Request) (v q e : ℕ) → named (name v q) x ≡ b → (found (name v q) xs ≡ Some e → Named xs v q)
    → cond b (Some x.entry) (found (name v q) xs) ≡ Some e → Named (x ∷ xs) v q
found_head true x xs v q e is rest h =
    let same = and_parts (eqb x.vehicle v) (eqb x.number q) is in
    record { by = x; stands = has_get_or (x ∷ xs) 0 x (omega arith); vehicle = eqb-true _ _ same.0; number = eqb-true _ _ same.1 }
found_head false x xs v q e is rest h =
    let n = rest h in record { by = n.by; stands = has_append_right (x ∷ []) xs n.by n.stands; vehicle = n.vehicle; number = n.number }

found_named : (xs : List Request) (v q e : ℕ) → found (name v q) xs ≡ Some e → Named xs v q
found_named [] v q e h = absurd (none_some h)
found_named (x ∷ xs) v q e h = found_head (named (name v q) x) x xs v q e refl (found_named xs v q e) h

ok_err : {d : Denial} → ◌≡◌ {A = Result (Unit {0}) Denial} (Ok tt) (Err d) → ⊥
ok_err is = let z : ◌≡◌ {A = ℕ} 0 1 = cc in omega arith

-- nothing stands in the way of what a policy grants
grant_unbarred : (clash : Junction → Request → Request → Type 0) (w : View) (gate : Option Reason) (r : Request)
    → Answer clash w gate r (Ok tt) → (x : Request) → Has w.ledger x → Bars clash w gate r x → ⊥
grant_unbarred clash w gate r (inl range) x h bars = ok_err range.1
grant_unbarred clash w gate r (inr (p, inl time)) x h bars = ok_err time.1
grant_unbarred clash w gate r (inr (p, inr (q, inl standing))) x h bars = ok_err standing.1
grant_unbarred clash w gate r (inr (p, inr (q, inr (s, inl (shut, told))))) x h bars = ok_err told.2
grant_unbarred clash w gate r (inr (p, inr (q, inr (s, inr (unlocked, inl (barred, told)))))) x h bars = ok_err told.2
grant_unbarred clash w gate r (inr (p, inr (q, inr (s, inr (unlocked, inr (free, rest)))))) x h bars = free (x, h, bars)

module _ (clash : Junction → Request → Request → Type 0) (symmetric : (j : Junction) (x y : Request) → clash j x y → clash j y x) where
  grant_apart : (w : View) (gate : Option Reason) (r : Request) → Answer clash w gate r (Ok tt) → Apart clash w → Apart clash (asked w r (Ok tt))
  grant_apart w gate r ans free x y hx hy ne meet =
      let unbarred = grant_unbarred clash w gate r ans in
      elim (has_push_cases w.ledger r x hx) [
        | inl in-x ↦ elim (has_push_cases w.ledger r y hy) [
          | inl in-y ↦ free x y in-x in-y ne meet
          | inr is_y ↦ unbarred x in-x ((λ e. ne (e ∙ ap (λ (z : Request). z.vehicle) is_y)), subst (λ z. clash w.junction x z) (sym is_y) meet)
        ]
        | inr is_x ↦ elim (has_push_cases w.ledger r y hy) [
          | inl in-y ↦ unbarred y in-y ((λ e. ne (sym (e ∙ ap (λ (z : Request). z.vehicle) is_x))), symmetric w.junction r y (subst (λ z. clash w.junction z y) (sym is_x) meet))
          | inr is_y ↦ absurd (ne (ap (λ (z : Request). z.vehicle) (sym is_x ∙ is_y)))
        ]
      ]

-- the state of who awaits nothing and holds that
settled_holds : (o : Option Claim) → held_of (settled o) ≡ o
settled_holds None = refl
settled_holds (Some c) = refl

settled_awaits : (o : Option Claim) → awaited_of (settled o) ≡ None
settled_awaits None = refl
settled_awaits (Some c) = refl

settled_in_lane : (o : Option Claim) → is_in_lane (settled o) ≡ true
settled_in_lane None = refl
settled_in_lane (Some c) = refl

-- message i is delivered, to vehicle v or to the manager about v
module _ {P : Type 0} (clash : Junction → Request → Request → Type 0) (c : Conduct P) (law : Lawful clash c) (p : P)
    (vs : List VehicleRow) (ms : List MessageRow) (i : ℕ) (inv : Inv clash (c.view p) vs ms) (v : ℕ) (here : Arrived vs v) where
  abbrev view : View
  view = c.view p

  abbrev row : VehicleRow
  row = row_of vs v

  sits : Sits view v row
  sits = inv.own v here

  -- what is to be shown of an outcome
  abbrev After : Outcome P → Type 0
  After o = Inv clash (c.view o.policy) (set vs (v - 1) o.row) (replied ms i o.reply)

  -- the reply, if there is one, is of v and fits
  abbrev Sends : View → VehicleRow → Option MessageRow → Type 0
  Sends w r reply = IfSome reply (λ n. (vehicle_of n ≡ v) × Fits w r n)

  mail_from : (w : View) (r : VehicleRow) (reply : Option MessageRow) → Sends w r reply
      → (m : MessageRow) → Has (replied ms i reply) m → Has ms m ⊎ ((vehicle_of m ≡ v) × Fits w r m)
  mail_from w r None sends m h = inl (has_removed ms (i - 1) m h)
  mail_from w r (Some n) sends m h = elim (has_set ms (i - 1) n m h) [
    | inl k ↦ inl k
    | inr e ↦ inr (subst (λ k. (vehicle_of k ≡ v) × Fits w r k) e sends)
  ]

  -- nothing but the mail changes
  same : (reply : Option MessageRow) → Sends view row reply → After (outcome row p reply)
  same reply sends =
      let still : Calmer row row = record { body = refl; used = refl; heard = refl; holds = λ h k. k; awaits = λ a k. k; done = λ e. e } in
      calmer_kept clash view vs ms inv v here row (replied ms i reply) still (mail_from view row reply sends) sits.ahead sits.lag

  -- some requests of v go out, and none that v holds or awaits
  shrunk : (Out : Request → Type 0) (p' : P) → Fewer Out view (c.view p') → ((x : Request) → Out x → x.vehicle ≡ v)
      → ((h : Claim) (x : Request) → Holds row h → x.number ≡ h.number → Out x → ⊥)
      → ((a : Claim) (x : Request) → Awaits row a → x.number ≡ a.number → Out x → ⊥)
      → After (outcome row p' None)
  shrunk Out p' f own held awaited =
      let w' = c.view p' in
      inv_local view vs ms v row w' (replied ms i None) here (record {
        junction = f.junction;
        clock = f.clock;
        mail = mail_from w' row None tt;
        fits = λ n h is. fits_moved view w' f.junction f.clock row n (λ a x k of number stood. f.stands x stood (awaited a x k number));
        ledger = λ x h. inl (f.stood x h);
        right = λ x h is k. k;
        others = λ x h ne. f.stands x h (λ out. ne (own x out));
        sits = sits_moved view w' f.junction f.clock v row (λ h x k of number stood. f.stands x stood (held h x k number)) sits;
      }) clash (fewer_apart clash Out view w' f inv.free) inv

  -- the manager hears the new number q, and keeps of v's requests the one that v holds
  module _ (q e d : ℕ) (base : Option ℕ) (new : row.heard < q) (low : q ≤ row.used)
      (keep : (h : Claim) → Holds row h → base ≡ Some h.number)
      (entry : (a : Claim) → Awaits row a → q ≡ a.number → e ≡ a.entry)
      (mid : View) (f : Fewer (Stale v base) view mid) where
    abbrev ask : Request
    ask = request row v q e d

    -- the awaited number, which is the last one used, is not below q, so no CONFIRM of before is of it
    fits_new : (w : View) (n : MessageRow) → Fits view row n → Fits w (hearing row q) n
    fits_new w (message.Request u p e' d') k = (k.0, (λ h l. omega (arith, k.1 h l)), k.2)
    fits_new w (message.Change u p b e' d') k = (k.0, (λ h l later. k.1 h l (omega arith)), k.2)
    fits_new w (message.Cancel u p) k = k
    fits_new w (message.Done u) k = k
    fits_new w (message.Confirm u p e') k =
        (omega (arith, k.0), λ a l is later. absurd (let z : ⊥ = omega (arith, k.0, sits.latest a l) in z))
    fits_new w (message.Reject u p why) k = tt

    fresh : (xs : List Request) (reply : Option MessageRow)
        → ((x : Request) → Has xs x → Has mid.ledger x ⊎ (ask ≡ x)) → ((x : Request) → Has mid.ledger x → Has xs x)
        → Sends (with_ledger mid xs) (hearing row q) reply → Apart clash (with_ledger mid xs)
        → Inv clash (with_ledger mid xs) (set vs (v - 1) (hearing row q)) (replied ms i reply)
    fresh xs reply from to sends free =
        let w' = with_ledger mid xs in
        let s = sits_moved view w' f.junction f.clock v row
        (λ h x k of number stood. to x (f.stands x stood (λ stale. stale.1 (keep h k ∙ ap Some (sym number))))) sits in
        inv_local view vs ms v (hearing row q) w' (replied ms i reply) here (record {
          junction = f.junction;
          clock = f.clock;
          mail = mail_from w' (hearing row q) reply sends;
          fits = λ n h is k. fits_new w' n k;
          ledger = λ x h. elim (from x h) [
            | inl k ↦ inl (f.stood x k)
            | inr is ↦ inr (ap (λ (y : Request). y.vehicle) (sym is), subst (Right (hearing row q)) is (record { shape = refl; heard = omega arith; entry = entry }))
          ];
          right = λ x h is k. record { shape = k.shape; heard = omega (arith, k.heard); entry = k.entry };
          others = λ x h ne. to x (f.stands x h (λ stale. ne stale.0));
          sits = record { heard = low; latest = s.latest; apart = s.apart; ahead = s.ahead; reserved = s.reserved; lag = s.lag };
        }) clash free inv

    mid_free : Apart clash mid
    mid_free = fewer_apart clash (Stale v base) view mid f inv.free

    refused : (why : Denial) → Inv clash mid (set vs (v - 1) (hearing row q)) (replied ms i (Some (message.Reject v q why)))
    refused why = fresh mid.ledger (Some (message.Reject v q why)) (λ x h. inl h) (λ x h. h) (refl, tt) mid_free

    answered : (gate : Option Reason) (a : Result (Unit {0}) Denial) → Answer clash mid gate ask a
        → Inv clash (asked mid ask a) (set vs (v - 1) (hearing row q)) (replied ms i (Some (verdict v q e a)))
    answered gate (Err why) ans = refused why
    answered gate (Ok tt) ans =
        fresh (mid.ledger ++ ask ∷ []) (Some (message.Confirm v q e)) (λ x h. has_push_cases mid.ledger ask x h) (λ x h. has_append_left mid.ledger (ask ∷ []) x h)
        (refl, (omega arith, λ a k is later. record { by = ask; stands = has_push mid.ledger ask; vehicle = refl; number = refl }))
        (grant_apart clash law.symmetric mid gate ask ans mid_free)

  again_fits : (q : ℕ) (f : Option ℕ) → found (name v q) view.ledger ≡ f → q ≤ row.heard → Sends view row (Some (again v q f))
  again_fits q None is heard = (refl, tt)
  again_fits q (Some e) is heard = (refl, (heard, λ a k eq later. found_named view.ledger v q e is))

  -- the manager hears a REQUEST, or a CHANGE with its base
  by_judged : (q e d : ℕ) (base : Option ℕ) (o : Outcome P) → q ≤ row.used
      → (row.heard < q → (h : Claim) → Holds row h → base ≡ Some h.number)
      → ((a : Claim) → Awaits row a → q ≡ a.number → e ≡ a.entry)
      → Judged c p row v q e d base o → After o
  by_judged q e d base o low keep entry (old lt is) = subst After (sym is) (same None tt)
  by_judged q e d base o low keep entry (known eq is) =
      let f = found (name v q) view.ledger in
      subst After (sym is) (same (Some (again v q f)) (again_fits q f refl (omega (arith, eq))))
  by_judged q e d base o low keep entry (baseless new p' clear gone is) =
      subst After (sym is) (refused q e d base new low (keep new) entry (c.view p') (cleared_fewer clash c law v base p p' clear) (Because BaseGone))
  by_judged q e d base o low keep entry (judged new between clear based a p' asks is) =
      let mid = c.view between in
      let f = cleared_fewer clash c law v base p between clear in
      let r = request row v q e d in
      let ans = law.answers between r a p' asks in
      subst After (sym is) (subst (λ w. Inv clash w (set vs (v - 1) (hearing row q)) (replied ms i (Some (verdict v q e a)))) (sym (law.records between r a p' asks))
      (answered q e d base new low (keep new) entry mid f ans.0 a ans.1))

  -- the vehicle hears an answer
  abbrev AfterTold : State × Option MessageRow → Type 0
  AfterTold r = Inv clash view (set vs (v - 1) (in_state row r.0)) (replied ms i r.1)

  -- its wait ends without a grant: it holds what it held, and awaits nothing
  lapsed : (a : Claim) → Awaits row a → AfterTold (settled (held_of row.state), None)
  lapsed a awaits =
      let held = held_of row.state in
      let r = in_state row (settled held) in
      let calm : Calmer row r = record {
        body = refl;
        used = refl;
        heard = refl;
        holds = λ h k. sym (settled_holds held) ∙ k;
        awaits = λ b k. absurd (none_some (sym (settled_awaits held) ∙ k));
        done = λ e. absurd (none_some (sym (done_awaits_none row.state e) ∙ awaits));
      } in
      calmer_kept clash view vs ms inv v here r (replied ms i None) calm (mail_from view r None tt)
      (λ h k lane. sits.ahead h (calm.holds h k) (awaits_in_lane row.state a awaits))
      (λ h l t is. absurd (outside (settled held) (settled_in_lane held) h l t is))

  -- it is told in time of the request that it awaits, which stands: it holds this one, and cancels what it held
  module _ (a : Claim) (awaits : Awaits row a) (heard : a.number ≤ row.heard) (stands : Named view.ledger v a.number)
      (early : view.clock + view.junction.buffer < a.entry) where
    abbrev r : VehicleRow
    r = in_state row (Holding a)

    -- every number that v used is heard
    fits_held : (n : MessageRow) → Fits view row n → Fits view r n
    fits_held (message.Request u q e d) k = (k.0, (λ h l. omega (arith, k.0, sits.latest a awaits)), λ b l. absurd (none_some l))
    fits_held (message.Change u q b e d) k =
        (k.0, (λ h l later. absurd (let z : ⊥ = omega (arith, k.0, sits.latest a awaits) in z)), λ b l. absurd (none_some l))
    fits_held (message.Cancel u q) k =
        (k.0, (λ h l eq. k.2 a awaits (eq ∙ ap (λ (x : Claim). x.number) (sym (some_same l)))), λ b l. absurd (none_some l))
    fits_held (message.Done u) k = absurd (none_some (sym (done_awaits_none row.state k) ∙ awaits))
    fits_held (message.Confirm u q e) k = (k.0, λ b l. absurd (none_some l))
    fits_held (message.Reject u q why) k = tt

    farewell_fits : (o : Option Claim) → held_of row.state ≡ o → Sends view r (farewell v o)
    farewell_fits None is = tt
    farewell_fits (Some h) is = (
      refl,
      (
        omega (arith, held_low clash view vs ms inv v here h is, sits.heard),
        (λ k l eq. sits.apart a h awaits is (eq ∙ ap (λ (x : Claim). x.number) (sym (some_same l)))),
        λ b l. absurd (none_some l),
      ),
    )

    reserved : Reserved view.ledger v a row.body
    reserved =
        let right : Right row stands.by = subst (λ u. Right (row_of vs u) stands.by) stands.vehicle (inv.ledger stands.by stands.stands).1 in
        record {
          by = stands.by;
          stands = stands.stands;
          vehicle = stands.vehicle;
          number = stands.number;
          entry = right.entry a awaits stands.number;
          shape = right.shape;
        }

    confirmed : AfterTold (Holding a, farewell v (held_of row.state))
    confirmed = inv_local view vs ms v r view (replied ms i (farewell v (held_of row.state))) here (record {
      junction = refl;
      clock = refl;
      mail = mail_from view r (farewell v (held_of row.state)) (farewell_fits (held_of row.state) refl);
      fits = λ n h is k. fits_held n k;
      ledger = λ x h. inl h;
      right = λ x h is k. record { shape = k.shape; heard = k.heard; entry = λ b l. absurd (none_some l) };
      others = λ x h ne. h;
      sits = record {
        heard = sits.heard;
        latest = λ b l. absurd (none_some l);
        apart = λ b h l. absurd (none_some l);
        ahead = λ h k lane. subst (λ (x : Claim). view.clock + view.junction.buffer < x.entry) (some_same k) early;
        reserved = λ h k. subst (λ x. Reserved view.ledger v x row.body) (some_same k) reserved;
        lag = λ h l t is. absurd (outside (Holding a) refl h l t is);
      };
    }) clash inv.free inv

  by_told : (m : MessageRow) (s : State) (reply : Option MessageRow)
      → ((n : ℕ) → reply_of m ≡ grants n → Fits view row (message.Confirm v n 0))
      → Told view.junction view.clock v row.state m (s, reply) → AfterTold (s, reply)
  by_told m s reply grant (other never is) = subst AfterTold (sym is) (same None tt)
  by_told m s reply grant (ended a awaits ends is) = subst AfterTold (sym is) (lapsed a awaits)
  by_told m s reply grant (granted a awaits confirm early is) =
      let k = grant a.number confirm in
      subst AfterTold (sym is) (confirmed a awaits k.0 (k.1 a awaits refl early) early)

  told_after : (m : MessageRow) (o : Outcome P) → ((n : ℕ) → reply_of m ≡ grants n → Fits view row (message.Confirm v n 0))
      → Responds c p row v m o → After o
  told_after m o grant t =
      let k = by_told m t.state o.reply grant t.told in
      subst (λ p'. Inv clash (c.view p') (set vs (v - 1) o.row) (replied ms i o.reply)) (sym t.policy_is)
      (subst (λ r. Inv clash view (set vs (v - 1) r) (replied ms i o.reply)) (sym t.row_is) k)

  -- the manager hears a CANCEL or a DONE, and replies nothing
  unreplied : (o : Outcome P) → After (outcome row o.policy None) → o.row ≡ row → o.reply ≡ None → After o
  unreplied o k row_is reply-is =
      subst (λ r. Inv clash (c.view o.policy) (set vs (v - 1) r) (replied ms i o.reply)) (sym row_is)
      (subst (λ m. Inv clash (c.view o.policy) (set vs (v - 1) row) (replied ms i m)) (sym reply-is) k)

  by_cancel : (q : ℕ) (o : Outcome P) → Fits view row (message.Cancel v q) → Acts c p row (message.Cancel v q) o → After o
  by_cancel q o f (b, out, row_is, reply-is) = unreplied o
      (shrunk (Bears (name v q)) o.policy (released_fewer clash c law p (name v q) b o.policy out) (λ x bears. bears.0)
      (λ h x k is bears. f.1 h k (sym bears.1 ∙ is)) (λ a x k is bears. f.2 a k (sym bears.1 ∙ is)))
      row_is reply-is

  by_done : (o : Outcome P) → Fits view row (message.Done v) → Acts c p row (message.Done v) o → After o
  by_done o f (clear, row_is, reply-is) = unreplied o
      (shrunk (Stale v None) o.policy (cleared_fewer clash c law v None p o.policy clear) (λ x stale. stale.0)
      (λ h x k. absurd (none_some (sym (done_holds_none row.state f) ∙ k))) (λ a x k. absurd (none_some (sym (done_awaits_none row.state f) ∙ k))))
      row_is reply-is

module _ {P : Type 0} (clash : Junction → Request → Request → Type 0) (c : Conduct P) (law : Lawful clash c) (w : World P) (i : ℕ)
    (inv : Inv clash (c.view w.policy) w.vehicles w.mail) where
  acts_kept : (m : MessageRow) → Arrived w.vehicles (vehicle_of m) → Fits (c.view w.policy) (row_of w.vehicles (vehicle_of m)) m
      → (o : Outcome P) → Acts c w.policy (row_of w.vehicles (vehicle_of m)) m o
      → Inv clash (c.view o.policy) (set w.vehicles (vehicle_of m - 1) o.row) (replied w.mail i o.reply)
  acts_kept (message.Request v q e d) here f o acts = by_judged clash c law w.policy w.vehicles w.mail i inv v here q e d None o f.0
      (λ new h k. absurd (let z : ⊥ = omega (arith, f.1 h k) in z)) f.2 acts
  acts_kept (message.Change v q b e d) here f o acts = by_judged clash c law w.policy w.vehicles w.mail i inv v here q e d (Some b) o f.0
      (λ new h k. ap Some (f.1 h k new)) f.2 acts
  acts_kept (message.Cancel v q) here f o acts = by_cancel clash c law w.policy w.vehicles w.mail i inv v here q o f acts
  acts_kept (message.Done v) here f o acts = by_done clash c law w.policy w.vehicles w.mail i inv v here o f acts
  acts_kept (message.Confirm v q e) here f o acts = told_after clash c law w.policy w.vehicles w.mail i inv v here (message.Confirm v q e) o
      (λ n is. let same : q ≡ n = cc in subst (λ n. Fits (c.view w.policy) (row_of w.vehicles v) (message.Confirm v n 0)) same f) acts
  acts_kept (message.Reject v q why) here f o acts = told_after clash c law w.policy w.vehicles w.mail i inv v here (message.Reject v q why) o
      (λ n is. absurd (let z : ◌≡◌ {A = ℕ} 0 1 = cc in let bad : ⊥ = omega arith in bad)) acts

  pub delivered_kept : (m : MessageRow) (w' : World P) → Has w.mail m → Delivered c w i m w'
      → Inv clash (c.view w'.policy) w'.vehicles w'.mail
  delivered_kept m w' has (acted here o acts is) =
      subst (λ (u : World P). Inv clash (c.view u.policy) u.vehicles u.mail) (sym is) (acts_kept m here (inv.mail m has).1 o acts)
  delivered_kept m w' has (dropped none is) =
      subst (λ (u : World P). Inv clash (c.view u.policy) u.vehicles u.mail) (sym is)
      (loses_kept clash (c.view w.policy) w.vehicles w.mail inv (i - 1))
