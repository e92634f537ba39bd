-- The requests that stand under a name. Assumes nothing.
use Rattle.std.proofs.Common.{◌≡◌, ◌≤◌, true, false, not, eqb, List, [], ◌∷◌, is_some, Some, filter, sym, refl, ap, ◌∙◌, ⊎_elim, arith}
use Rattle.std.specs.List.{ContainsAt as Has}
use Rattle.std.proofs.lemmas.Bool.{and_parts, both_ways, cases_Bool, cond-true, cond-false, eqb-true, not_from_false}
use Rattle.grid.specs.declared.junction.Junction.{Junction}
use Rattle.refusal.specs.declared.kinds.Name.{Name}
use Rattle.reservation.specs.declared.request.Request.{Request}
use Rattle.reservation.proofs.Ranges.{range_parts}
use Rattle.policy.specs.Views.{found, named}
use Rattle.tile_table.specs.Holding.{Ranged}
use Rattle.tile_table.proofs.Givens.{has_head, has_tail}

-- a request that stands under that name
pub found_has : (n : Name) (rs : List Request) → is_some (found n rs) ≡ true → (r : Request) × Has rs r × (named n r ≡ true)
found_has n [] e = absurd (both_ways false refl e)
found_has n (r ∷ rs) e = ⊎_elim
    (λ (is : named n r ≡ true). (r, has_head r rs, is))
    (λ (no : named n r ≡ false).
    let w = found_has n rs (sym (ap is_some (cond-false _ _ _ no)) ∙ e) in
    (w.0, has_tail w.0 r rs w.1, w.2))
    (cases_Bool (named n r))

-- where none stands under the name, none is taken out
pub not_found : (n : Name) (rs : List Request) → is_some (found n rs) ≡ false → filter (λ r. not (named n r)) rs ≡ rs
not_found n [] e = refl
not_found n (r ∷ rs) e = ⊎_elim
    (λ (is : named n r ≡ true). absurd (both_ways _ e (ap is_some (cond-true (named n r) (Some r.entry) (found n rs) is))))
    (λ (no : named n r ≡ false).
    cond-true _ _ _ (not_from_false _ no) ∙ ap (λ l. r ∷ l) (not_found n rs (sym (ap is_some (cond-false (named n r) (Some r.entry) (found n rs) no)) ∙ e)))
    (cases_Bool (named n r))

pub named_vehicle : (n : Name) (r : Request) → named n r ≡ true → r.vehicle ≡ n.vehicle
named_vehicle n r e = eqb-true _ _ (and_parts (eqb r.vehicle n.vehicle) (eqb r.number n.number) e).0

pub found_vehicle : (j : Junction) (n : Name) (rs : List Request) → Ranged j rs → is_some (found n rs) ≡ true → n.vehicle ≤ 1024
found_vehicle j n rs ranged e =
    let w = found_has n rs e in
    let p = range_parts j w.0 (ranged w.0 w.1) in
    omega (arith, named_vehicle n w.0 w.2, p.vehicles)
