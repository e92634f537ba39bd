-- What is done with a new number is what the manager is to do with it. Assumes nothing.
use Rattle.std.proofs.Common.{◌≡◌, ℕ, Bool, Some, None, Option, sym, ap, ◌∙◌, subst}
use Rattle.refusal.specs.declared.kinds.Name.{Name}
use Rattle.reservation.specs.declared.request.Request.{Request}
use Rattle.message.specs.declared.row.MessageRow.{MessageRow}
use Rattle.message.specs.declared.row.MessageRow.TheVariants as message
use Rattle.policy.specs.Views.{released}
use Rattle.vehicle.specs.declared.rows.VehicleRow.{VehicleRow}
use Rattle.run.specs.Manager.{Acts, Based, Judged, Outcome, baseless, judged, name, outcome, request}
use Rattle.run.specs.Worlds.{Conduct}
use Rattle.manager.specs.Judging.{Denied, Renewed}
use Rattle.manager.proofs.Turns.{base_stays, still_based}

outcome_is : {P : Type 0} (o : Outcome P) (row : VehicleRow) (reply : Option MessageRow) → o.row ≡ row → o.reply ≡ reply → o ≡ outcome row o.policy reply
outcome_is o row reply is said = ap (λ r. outcome r o.policy o.reply) is ∙ ap (outcome row o.policy) said

module _ {P : Type 0} (c : Conduct P) (removes : (p : P) (n : Name) (a : Bool) (p' : P) → c.releases p n a p' → c.view p' ≡ released (c.view p) n)
    (p : P) (row : VehicleRow) (m : MessageRow) (o : Outcome P) (v q e d : ℕ) where
  renewed_judged : (base : Option ℕ) → Renewed c p row (request row v q e d) base o → Judged c p row v q e d base o
  renewed_judged base r =
      judged r.new r.between r.cleared (still_based c removes v base p r.between r.cleared r.based) r.asked.answer o.policy r.asked.asked
      (outcome_is o _ _ r.heard (r.told ∙ ap Some r.asked.told))

  pub request_judged : m ≡ message.Request v q e d → (r : Request) → r ≡ request row v q e d → Renewed c p row r None o → Acts c p row m o
  request_judged is r asked new = subst (λ m. Acts c p row m o) (sym is) (renewed_judged None (subst (λ r. Renewed c p row r None o) asked new))

  pub change_judged : (b : ℕ) → m ≡ message.Change v q b e d → (r : Request) → r ≡ request row v q e d → Renewed c p row r (Some b) o → Acts c p row m o
  change_judged b is r asked new =
      subst (λ m. Acts c p row m o) (sym is) (renewed_judged (Some b) (subst (λ r. Renewed c p row r (Some b) o) asked new))

  pub change_denied : (b : ℕ) → m ≡ message.Change v q b e d → Denied c p row (name v q) b o → Acts c p row m o
  change_denied b is r =
      let lost : Based (c.view o.policy) v (Some b) → ⊥ = λ based. r.gone (λ gone. based (base_stays c removes v b p o.policy r.cleared ∙ gone)) in
      subst (λ m. Acts c p row m o) (sym is) (baseless r.new o.policy r.cleared lost (outcome_is o _ _ r.heard r.told))
