-- What a policy without a gate answers, once nothing stops the request. Assumes nothing.
use Rattle.std.proofs.Common.{◌≡◌, ℕ, ◌<◌, ◌≤◌, true, false, List, [], ◌∷◌, length, Some, None, Ok, Err, Option, Result, sym, refl, ap, subst, inl, inr, arith}
use Rattle.std.specs.List.{ContainsAt as Has}
use Rattle.std.proofs.ByRecursion.{has_append_left, has_append_right, has_push}
use Rattle.std.proofs.lemmas.Bool.{both_ways}
use Rattle.grid.specs.declared.junction.Junction.{Junction}
use Rattle.refusal.specs.declared.kinds.Denial.TheVariants.{Because, Clash}
use Rattle.refusal.specs.declared.kinds.Name.{Name}
use Rattle.refusal.specs.declared.kinds.Reason.{Reason}
use Rattle.refusal.specs.declared.kinds.Reason.TheVariants.{LedgerFull}
use Rattle.reservation.specs.declared.request.Request.{Request}
use Rattle.reservation.specs.Requests.{in_range, name_of}
use Rattle.ledger.specs.declared.standing.Standing.{Standing}
use Rattle.ledger.specs.Standings.{requests}
use Rattle.policy.specs.Answers.{Answer, Bars, Denied, Earliest, Judged, Screened}
use Rattle.policy.specs.Layers.{Stopped, refused_by}
use Rattle.policy.specs.Views.{View, found}
use Rattle.policy.proofs.Layers.{screened_past}
use Rattle.rivals.specs.Rivals.{Rival, Sought}

pub earliest_has : (P : Request → Type 0) (xs : List Request) (x : Request) → Earliest P xs x → Has xs x
earliest_has P xs x e =
    subst (λ ys. Has ys x) (sym e.split) (has_append_right e.before (x ∷ e.after) x (has_append_left (x ∷ []) e.after x (has_push [] x)))

before_has : (P : Request → Type 0) (xs : List Request) (x : Request) (e : Earliest P xs x) (y : Request) → Has e.before y → Has xs y
before_has P xs x e y h = subst (λ ys. Has ys y) (sym e.split) (has_append_left e.before (x ∷ e.after) y h)

module _ (clash : Junction → Request → Request → Type 0) (w : View) (r : Request)
    (ranged : (x : Request) → Has w.ledger x → in_range w.junction x ≡ true) (past : Stopped w None r (Ok tt)) where
  abbrev bars : Request → Type 0
  bars = Bars clash w None r

  abbrev rival : Request → Type 0
  rival = Rival clash w.junction r

  -- a standing request in the way is a rival
  a_rival : (x : Request) → Has w.ledger x → bars x → rival x
  a_rival x h b = (b.0, ranged x h, b.1)

  free : Sought rival w.ledger None → (x : Request) × Has w.ledger x × bars x → ⊥
  free none found = none found.0 found.1 (a_rival found.0 found.1 found.2)

  pub clash_verdict : (n : Name) → Sought rival w.ledger (Some n) → Answer clash w None r (Err (Clash n))
  clash_verdict n (x, e, is) =
      let b : bars x = (e.here.0, e.here.2) in
      screened_past w r Denied (Judged clash w None r) (Err (Clash n)) past (inr (
        (λ no. both_ways false refl no),
        inl (
          (x, earliest_has rival w.ledger x e, b),
          (
            x,
            record {
              before = e.before;
              after = e.after;
              split = e.split;
              here = b;
              none = λ y h barred. e.none y h (a_rival y (before_has rival w.ledger x e y h) barred);
            },
            ap (λ m. Err (Clash m)) is,
          ),
        ),
      ))

  pub full_verdict : Sought rival w.ledger None → 64 ≤ length w.ledger → Answer clash w None r (Err (Because LedgerFull))
  full_verdict none full =
      screened_past w r Denied (Judged clash w None r) (Err (Because LedgerFull)) past (inr ((λ no. both_ways false refl no), inr (free none, inl (full, refl))))

  pub grant_verdict : Sought rival w.ledger None → length w.ledger < 64 → Answer clash w None r (Ok tt)
  grant_verdict none room =
      screened_past w r Denied (Judged clash w None r) (Ok tt) past (inr ((λ no. both_ways false refl no), inr (free none, inr ((λ full. omega arith), refl))))

-- what was found of some requests, in other words for the same
pub sought_same : (clash : Junction → Request → Request → Type 0) (j k : Junction) (r q : Request) (xs ys : List Standing) (o : Option Name)
    → j ≡ k → r ≡ q → xs ≡ ys → Sought (Rival clash j r) (requests xs) o → Sought (Rival clash k q) (requests ys) o
sought_same clash j k r q xs ys o ej er ex h =
    subst (λ zs. Sought (Rival clash k q) (requests zs) o) ex
    (subst (λ s. Sought (Rival clash k s) (requests xs) o) er
    (subst (λ l. Sought (Rival clash l r) (requests xs) o) ej h))

pub stopped_same : (w : View) (own : Option Reason) (r : Request) (standing : Option ℕ) (o : Result (Unit {0}) Reason) → standing ≡ found (name_of r) w.ledger
    → Screened w.junction w.clock standing r (λ g p. p ≡ Err g) (λ p. p ≡ refused_by own) o → Stopped w own r o
stopped_same w own r standing o is h = subst (λ s. Screened w.junction w.clock s r (λ g p. p ≡ Err g) (λ p. p ≡ refused_by own) o) is h
