-- A step that concerns one vehicle keeps what holds of every world. Assumes nothing.
use Rattle.std.proofs.Common.{◌≡◌, ℕ, ◌+◌, ◌-◌, ◌<◌, ◌≤◌, true, ◌⊎◌, List, set, ℤ, is_some, sym, ap, ◌∙◌, subst, inl, inr, arith}
use Rattle.std.specs.List.{ContainsAt as Has}
use Rattle.std.proofs.lemmas.List.{length-set, get_or-set_same, get_or-set_other}
use Rattle.std.proofs.lemmas.Bool.{cases_eq}
use Rattle.grid.specs.declared.junction.Junction.{Junction}
use Rattle.reservation.specs.declared.request.Request.{Request}
use Rattle.policy.specs.Views.{View}
use Rattle.message.specs.declared.row.MessageRow.{MessageRow}
use Rattle.message.specs.declared.row.MessageRow.TheVariants as message
use Rattle.message.specs.Rows.{vehicle_of}
use Rattle.vehicle.specs.declared.rows.Claim.{Claim}
use Rattle.vehicle.specs.declared.rows.State.TheVariants.{Crossing}
use Rattle.vehicle.specs.declared.rows.VehicleRow.{VehicleRow}
use Rattle.vehicle.specs.Rows.{good_lag}
use Rattle.vehicle.specs.States.{done_at, is_in_lane}
use Rattle.run.specs.Worlds.{Arrived, blank, row_of}
use Rattle.invariant.specs.Promises.{Reserved}
use Rattle.invariant.proofs.Inv.{Apart, Awaits, Fits, Holds, Inv, Right, Sits}

-- from one view to another of the same junction and moment
module _ (w w' : View) (junction : w'.junction ≡ w.junction) (clock : w'.clock ≡ w.clock) where
  ends : w'.clock + w'.junction.buffer ≡ w.clock + w.junction.buffer
  ends = let b = ap (λ (j : Junction). j.buffer) junction in omega arith

  -- a message still fits where the request that its vehicle awaits still stands
  pub fits_moved : (r : VehicleRow) (m : MessageRow)
      → ((a : Claim) (x : Request) → Awaits r a → x.vehicle ≡ vehicle_of m → x.number ≡ a.number → Has w.ledger x → Has w'.ledger x)
      → Fits w r m → Fits w' r m
  fits_moved r (message.Request u q e d) stand f = f
  fits_moved r (message.Change u q b e d) stand f = f
  fits_moved r (message.Cancel u q) stand f = f
  fits_moved r (message.Done u) stand f = f
  fits_moved r (message.Confirm u q e) stand f = (
    f.0,
    λ a awaits is lt. (let n = f.1 a awaits is (omega (arith, lt, ends)) in record {
      by = n.by;
      stands = stand a n.by awaits n.vehicle (n.number ∙ is) n.stands;
      vehicle = n.vehicle;
      number = n.number;
    }),
  )
  fits_moved r (message.Reject u q why) stand f = f

  -- a row still sits well where the request that it holds still stands
  pub sits_moved : (v : ℕ) (r : VehicleRow)
      → ((h : Claim) (x : Request) → Holds r h → x.vehicle ≡ v → x.number ≡ h.number → Has w.ledger x → Has w'.ledger x)
      → Sits w v r → Sits w' v r
  sits_moved v r stand s = record {
    heard = s.heard;
    latest = s.latest;
    apart = s.apart;
    ahead = λ h k i. (let t = s.ahead h k i in omega (arith, t, ends));
    reserved = λ h k. (let y = s.reserved h k in record {
      by = y.by;
      stands = stand h y.by k y.vehicle y.number y.stands;
      vehicle = y.vehicle;
      number = y.number;
      entry = y.entry;
      shape = y.shape;
    });
    lag = λ h g t is. subst (λ (j : Junction). good_lag j.buffer g ≡ true) (sym junction) (s.lag h g t is);
  }

-- from the view w, the vehicles vs and the mail ms a step came to the view w' and the mail ms', and to `row` for vehicle v
module _ (w : View) (vs : List VehicleRow) (ms : List MessageRow) (v : ℕ) (row : VehicleRow) (w' : View) (ms' : List MessageRow) where
  -- what is new is of v, what was of v still fits, and the requests of others stand
  pub record Local : Type 0 where
    pub junction : w'.junction ≡ w.junction
    pub clock : w'.clock ≡ w.clock
    pub mail : (m : MessageRow) → Has ms' m → Has ms m ⊎ ((vehicle_of m ≡ v) × Fits w' row m)
    pub fits : (m : MessageRow) → Has ms m → vehicle_of m ≡ v → Fits w (row_of vs v) m → Fits w' row m
    pub ledger : (x : Request) → Has w'.ledger x → Has w.ledger x ⊎ ((x.vehicle ≡ v) × Right row x)
    pub right : (x : Request) → Has w.ledger x → x.vehicle ≡ v → Right (row_of vs v) x → Right row x
    pub others : (x : Request) → Has w.ledger x → (x.vehicle ≡ v → ⊥) → Has w'.ledger x
    pub sits : Sits w' v row

  module _ (here : Arrived vs v) (l : Local) where
    abbrev after : List VehicleRow
    after = set vs (v - 1) row

    row_here : row_of after v ≡ row
    row_here = get_or-set_same vs (v - 1) row blank (omega (arith, here.0, here.1))

    row_there : (u : ℕ) → 1 ≤ u → (u ≡ v → ⊥) → row_of after u ≡ row_of vs u
    row_there u h ne = get_or-set_other vs (v - 1) (u - 1) row blank (λ e. ne (omega (arith, e, h, here.0)))

    still : (u : ℕ) → Arrived vs u → Arrived after u
    still u a = (a.0, subst (λ n. u ≤ n) (sym (length-set vs (v - 1) row)) a.1)

    was : (u : ℕ) → Arrived after u → Arrived vs u
    was u a = (a.0, subst (λ n. u ≤ n) (length-set vs (v - 1) row) a.1)

    fits_there : (m : MessageRow) (r : VehicleRow) → (vehicle_of m ≡ v → ⊥) → Fits w r m → Fits w' r m
    fits_there m r ne = fits_moved w w' l.junction l.clock r m (λ a x _ of _ h. l.others x h (λ e. ne (sym of ∙ e)))

    sits_there : (u : ℕ) (r : VehicleRow) → (u ≡ v → ⊥) → Sits w u r → Sits w' u r
    sits_there u r ne = sits_moved w w' l.junction l.clock u r (λ h x _ of _ k. l.others x k (λ e. ne (sym of ∙ e)))

    own_mail : (m : MessageRow) → vehicle_of m ≡ v → Fits w' row m → Arrived after (vehicle_of m) × Fits w' (row_of after (vehicle_of m)) m
    own_mail m e f = (subst (Arrived after) (sym e) (still v here), subst (λ r. Fits w' r m) (sym (ap (row_of after) e ∙ row_here)) f)

    own_request : (x : Request) → x.vehicle ≡ v → Right row x → Arrived after x.vehicle × Right (row_of after x.vehicle) x
    own_request x e f = (subst (Arrived after) (sym e) (still v here), subst (λ r. Right r x) (sym (ap (row_of after) e ∙ row_here)) f)

    pub inv_local : (clash : Junction → Request → Request → Type 0) → Apart clash w' → Inv clash w vs ms → Inv clash w' (set vs (v - 1) row) ms'
    inv_local clash free i = record {
      mail = λ m h. elim (l.mail m h) [
        | inl old ↦ (let before = i.mail m old in elim (cases_eq (vehicle_of m) v) [
          | inl e ↦ own_mail m e (l.fits m old e (subst (λ u. Fits w (row_of vs u) m) e before.1))
          | inr ne ↦ (still (vehicle_of m) before.0, subst (λ r. Fits w' r m) (sym (row_there (vehicle_of m) before.0.0 ne)) (fits_there m (row_of vs (vehicle_of m)) ne before.1))
        ])
        | inr new ↦ own_mail m new.0 new.1
      ];
      ledger = λ x h. elim (l.ledger x h) [
        | inl old ↦ (let before = i.ledger x old in elim (cases_eq x.vehicle v) [
          | inl e ↦ own_request x e (l.right x old e (subst (λ u. Right (row_of vs u) x) e before.1))
          | inr ne ↦ (still x.vehicle before.0, subst (λ r. Right r x) (sym (row_there x.vehicle before.0.0 ne)) before.1)
        ])
        | inr new ↦ own_request x new.0 new.1
      ];
      own = λ u a. elim (cases_eq u v) [
        | inl e ↦ subst (λ y. Sits w' y (row_of after y)) (sym e) (subst (Sits w' v) (sym row_here) l.sits)
        | inr ne ↦ subst (Sits w' u) (sym (row_there u a.0 ne)) (sits_there u (row_of vs u) ne (i.own u (was u a)))
      ];
      free = free;
    }

-- a row that holds and awaits no more than before
pub record Calmer (r r' : VehicleRow) : Type 0 where
  pub body : r'.body ≡ r.body
  pub used : r'.used ≡ r.used
  pub heard : r'.heard ≡ r.heard
  pub holds : (h : Claim) → Holds r' h → Holds r h
  pub awaits : (a : Claim) → Awaits r' a → Awaits r a
  pub done : is_some (done_at r.state) ≡ true → is_some (done_at r'.state) ≡ true

module _ (r r' : VehicleRow) (c : Calmer r r') where
  pub calmer_fits : (w : View) (m : MessageRow) → Fits w r m → Fits w r' m
  calmer_fits w (message.Request u q e d) f =
      (omega (arith, f.0, c.used), (λ h k. omega (arith, f.1 h (c.holds h k), c.heard)), λ a k. f.2 a (c.awaits a k))
  calmer_fits w (message.Change u q b e d) f =
      (omega (arith, f.0, c.used), (λ h k lt. f.1 h (c.holds h k) (omega (arith, lt, c.heard))), λ a k. f.2 a (c.awaits a k))
  calmer_fits w (message.Cancel u q) f = (omega (arith, f.0, c.used), (λ h k. f.1 h (c.holds h k)), λ a k. f.2 a (c.awaits a k))
  calmer_fits w (message.Done u) f = c.done f
  calmer_fits w (message.Confirm u q e) f = (omega (arith, f.0, c.heard), λ a k. f.1 a (c.awaits a k))
  calmer_fits w (message.Reject u q why) f = tt

  pub calmer_right : (x : Request) → Right r x → Right r' x
  calmer_right x f = record { shape = f.shape ∙ sym c.body; heard = omega (arith, f.heard, c.heard); entry = λ a k. f.entry a (c.awaits a k) }

  -- where what is held in lane is still to come, and the lag stays good
  pub calmer_sits : (w : View) (v : ℕ) → Sits w v r
      → ((h : Claim) → Holds r' h → is_in_lane r'.state ≡ true → w.clock + w.junction.buffer < h.entry)
      → ((h : Claim) (g : ℤ) (t : ℕ) → r'.state ≡ Crossing h g t → good_lag w.junction.buffer g ≡ true)
      → Sits w v r'
  calmer_sits w v s ahead lag = record {
    heard = omega (arith, s.heard, c.heard, c.used);
    latest = λ a k. s.latest a (c.awaits a k) ∙ sym c.used;
    apart = λ a h k l. s.apart a h (c.awaits a k) (c.holds h l);
    ahead = ahead;
    reserved = λ h k. subst (Reserved w.ledger v h) (sym c.body) (s.reserved h (c.holds h k));
    lag = lag;
  }
