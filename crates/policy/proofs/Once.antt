-- The meaning of a policy fixes its answer: no two answers fit one state. Assumes nothing.
use Rattle.std.proofs.Common.{◌≡◌, List, [], ◌∷◌, ◌++◌, Some, Err, Option, Result, sym, ap, ◌∙◌, subst, inl, inr, arith}
use Rattle.std.specs.List.{ContainsAt as Has}
use Rattle.std.proofs.ByRecursion.{has_append_right, has_get_or}
use Rattle.grid.specs.declared.junction.Junction.{Junction}
use Rattle.refusal.specs.declared.kinds.Denial.{Denial}
use Rattle.refusal.specs.declared.kinds.Denial.TheVariants.{Clash}
use Rattle.refusal.specs.declared.kinds.Reason.{Reason}
use Rattle.reservation.specs.declared.request.Request.{Request}
use Rattle.reservation.specs.Requests.{name_of}
use Rattle.policy.specs.Rows.{Row}
use Rattle.policy.specs.Answers.{Answer, Denied, Earliest}
use Rattle.policy.specs.Views.{View}

-- a row tells one answer where it and the rows below it do
pub row_once : {A : Type 0} (holds : Type 0) (told below : A → Type 0)
    → ((a b : A) → told a → told b → a ≡ b) → ((a b : A) → below a → below b → a ≡ b)
    → (a b : A) → Row holds told below a → Row holds told below b → a ≡ b
row_once holds told below one rest a b (inl p) (inl q) = one a b p.1 q.1
row_once holds told below one rest a b (inl p) (inr q) = absurd (q.0 p.0)
row_once holds told below one rest a b (inr p) (inl q) = absurd (p.0 q.0)
row_once holds told below one rest a b (inr p) (inr q) = rest a b p.1 q.1

has_head : (x : Request) (xs : List Request) → Has (x ∷ xs) x
has_head x xs = has_get_or (x ∷ xs) 0 x (omega arith)

has_tail : (x y : Request) (xs : List Request) → Has xs x → Has (y ∷ xs) x
has_tail x y xs = has_append_right (y ∷ []) xs x

-- there is one earliest
module _ (P : Request → Type 0) where
  first_same : (b c a d : List Request) (x y : Request) → b ++ x ∷ a ≡ c ++ y ∷ d → P x → P y
      → ((z : Request) → Has b z → P z → ⊥) → ((z : Request) → Has c z → P z → ⊥) → x ≡ y
  first_same [] [] a d x y e p q n m = cc
  first_same [] (z ∷ c) a d x y e p q n m = let h : x ≡ z = cc in absurd (m z (has_head z c) (subst P h p))
  first_same (z ∷ b) [] a d x y e p q n m = let h : y ≡ z = cc in absurd (n z (has_head z b) (subst P h q))
  first_same (z ∷ b) (w ∷ c) a d x y e p q n m =
      let t : b ++ x ∷ a ≡ c ++ y ∷ d = cc in
      first_same b c a d x y t p q (λ u h. n u (has_tail u z b h)) (λ u h. m u (has_tail u w c h))

  pub earliest_same : (xs : List Request) (x y : Request) → Earliest P xs x → Earliest P xs y → x ≡ y
  earliest_same xs x y e f =
      first_same e.before f.before e.after f.after x y (sym e.split ∙ f.split) e.here f.here e.none f.none

denied_once : (g : Reason) (a b : Result (Unit {0}) Denial) → Denied g a → Denied g b → a ≡ b
denied_once g a b p q = p ∙ sym q

pub one_answer : (clash : Junction → Request → Request → Type 0) (w : View) (gate : Option Reason) (r : Request) (a b : Result (Unit {0}) Denial)
    → Answer clash w gate r a → Answer clash w gate r b → a ≡ b
one_answer clash w gate r =
    row_once _ _ _ (denied_once _)
    (row_once _ _ _ (denied_once _)
    (row_once _ _ _ (denied_once _)
    (row_once _ _ _ (λ a b p q. let same : Some p.0 ≡ Some q.0 = sym p.1 ∙ q.1 in let e = p.2 in let f = q.2 in cc)
    (row_once _ _ _ (λ a b p q. p.2 ∙ ap (λ x. Err (Clash (name_of x))) (earliest_same _ w.ledger p.0 q.0 p.1 q.1) ∙ sym q.2)
    (row_once _ _ _ (denied_once _)
    (λ a b p q. p ∙ sym q))))))

-- two of a kind that tell the same of a request answer it the same
pub one_answer_of_both : {S : Type 0} (view : S → View) (gate : S → Request → Option Reason) (clash : Junction → Request → Request → Type 0)
    (asks : S → Request → Result (Unit {0}) Denial → S → Type 0)
    (answers : (s : S) (r : Request) (a : Result (Unit {0}) Denial) (t : S) → asks s r a t → Answer clash (view s) (gate s r) r a)
    (s t u v : S) (r : Request) (a b : Result (Unit {0}) Denial)
    → asks s r a u → asks t r b v → view s ≡ view t → gate s r ≡ gate t r → a ≡ b
one_answer_of_both view gate clash asks answers s t u v r a b one other same gates =
    one_answer clash (view s) (gate s r) r a b (answers s r a u one)
    (subst (λ w. Answer clash w (gate s r) r b) (sym same)
    (subst (λ k. Answer clash (view t) k r b) (sym gates) (answers t r b v other)))
