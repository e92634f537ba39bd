-- A layer over a policy is a policy. Assumes nothing.
use Rattle.std.proofs.Common.{◌≡◌, is_some, Some, None, Ok, Err, Option, Result, sym, ap, ◌∙◌, subst, inl, inr, refl}
use Rattle.std.specs.Result.{is_err}
use Rattle.std.proofs.lemmas.Bool.{true≢false}
use Rattle.grid.specs.declared.junction.Junction.{Junction}
use Rattle.refusal.specs.declared.kinds.Denial.{Denial}
use Rattle.refusal.specs.declared.kinds.Reason.{Reason}
use Rattle.reservation.specs.declared.request.Request.{Request}
use Rattle.reservation.specs.Requests.{name_of}
use Rattle.policy.specs.Answers.{Answer, Denied, Screened}
use Rattle.policy.specs.Layers.{Layered, Stopped, over, refused_by}
use Rattle.policy.specs.Views.{View, asked, found}

pub ok_err : {g : Reason} {u : Unit {0}} → Ok u ≡ Err g → ⊥
ok_err {g} {u} e = true≢false (sym (ap is_err e))

-- a request that no row stops, before a gate that is open, is answered by what comes after those rows
pub screened_past : {A : Type 0} (w : View) (r : Request) (told : Reason → A → Type 0) (below : A → Type 0) (a : A)
    → Stopped w None r (Ok tt) → below a → Screened w.junction w.clock (found (name_of r) w.ledger) r told below a
screened_past w r told below a (inl range) h = absurd (ok_err range.1)
screened_past w r told below a (inr (p, inl time)) h = absurd (ok_err time.1)
screened_past w r told below a (inr (p, inr (q, inl name))) h = absurd (ok_err name.1)
screened_past w r told below a (inr (p, inr (q, inr (s, e)))) h = inr (p, inr (q, inr (s, h)))

-- who is refused by a gate alone is refused by it, and who is not finds it open
gate_refuses : (own : Option Reason) (g : Reason) → Err g ≡ refused_by own → own ≡ Some g
gate_refuses None g e = absurd (ok_err (sym e))
gate_refuses (Some h) g e = cc

gate_opens : (own : Option Reason) (u : Unit {0}) → Ok u ≡ refused_by own → own ≡ None
gate_opens None u e = refl
gate_opens (Some h) u e = absurd (ok_err e)

module _ (clash : Junction → Request → Request → Type 0) (w : View) (own gate : Option Reason) (r : Request) where
  -- a request that the layer stops is answered by the row that stops it
  stopped_answer : (g : Reason) (a : Result (Unit {0}) Denial) → Stopped w own r (Err g) → Denied g a → Answer clash w (over own gate) r a
  stopped_answer g a (inl range) is = inl (range.0, let e = range.1 in cc)
  stopped_answer g a (inr (p, inl time)) is = inr (p, inl (time.0, let e = time.1 in cc))
  stopped_answer g a (inr (p, inr (q, inl name))) is = inr (p, inr (q, inl (name.0, let e = name.1 in cc)))
  stopped_answer g a (inr (p, inr (q, inr (s, e)))) is =
      let shut = ap (λ o. over o gate) (gate_refuses own g e) in
      inr (p, inr (q, inr (s, inl (ap is_some shut, (g, shut, is)))))

  -- a request that it does not stop passes its own gate
  unstopped : (u : Unit {0}) → Stopped w own r (Ok u) → own ≡ None
  unstopped u (inl range) = absurd (ok_err range.1)
  unstopped u (inr (p, inl time)) = absurd (ok_err time.1)
  unstopped u (inr (p, inr (q, inl name))) = absurd (ok_err name.1)
  unstopped u (inr (p, inr (q, inr (s, e)))) = gate_opens own u e

  pub layer_answers : (alone : Reason → Type 0) (below : Result (Unit {0}) Denial → Type 0) (a : Result (Unit {0}) Denial)
      → ((b : Result (Unit {0}) Denial) → below b → Answer clash w gate r b)
      → Layered w own r alone below a → Answer clash w (over own gate) r a
  layer_answers alone below a means (Err g, stopped, told) = stopped_answer g a stopped told.0
  layer_answers alone below a means (Ok u, passed, told) =
      subst (λ o. Answer clash w (over o gate) r a) (sym (unstopped u passed)) (means a told)

-- a layer's ledger is the one below
pub layer_records : (w w' : View) (own : Option Reason) (r : Request) (alone : Reason → Type 0) (below : Result (Unit {0}) Denial → Type 0) (a : Result (Unit {0}) Denial)
    → ((g : Reason) → alone g → w' ≡ w) → ((b : Result (Unit {0}) Denial) → below b → w' ≡ asked w r b)
    → Layered w own r alone below a → w' ≡ asked w r a
layer_records w w' own r alone below a stays means (Err g, stopped, told) = stays g told.1 ∙ ap (asked w r) (sym told.0)
layer_records w w' own r alone below a stays means (Ok u, passed, told) = means a told
