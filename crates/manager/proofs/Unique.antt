-- A message has one outcome, up to any likeness of policies that their calls keep. Assumes nothing.
use Rattle.std.proofs.Common.{◌≡◌, ℕ, Bool, true, List, ◌∷◌, is_some, Some, None, Option, Result, sym, refl, ap, ◌∙◌, subst, inl, inr, arith}
use Rattle.std.specs.List.{ContainsAt as Has}
use Rattle.std.proofs.ByRecursion.{has_append_right, has_get_or}
use Rattle.grid.specs.declared.junction.Junction.{Junction}
use Rattle.refusal.specs.declared.kinds.Denial.{Denial}
use Rattle.refusal.specs.declared.kinds.Name.{Name}
use Rattle.refusal.specs.declared.kinds.Reason.{Reason}
use Rattle.reservation.specs.declared.request.Request.{Request}
use Rattle.reservation.specs.Requests.{name_of}
use Rattle.policy.specs.Answers.{Answer, Earliest}
use Rattle.policy.specs.Views.{asked, found, released}
use Rattle.policy.proofs.Once.{earliest_same, one_answer}
use Rattle.message.specs.declared.row.MessageRow.{MessageRow}
use Rattle.message.specs.declared.row.MessageRow.TheVariants as message
use Rattle.vehicle.specs.declared.rows.State.{State}
use Rattle.vehicle.specs.declared.rows.VehicleRow.{VehicleRow}
use Rattle.vehicle.specs.Hearing.{Told, ended, granted, other}
use Rattle.vehicle.specs.States.{in_state}
use Rattle.vehicle.proofs.Hearing.{in_time, refused, too_late_lem}
use Rattle.run.specs.Manager.{Acts, Based, Cleared, Judged, Outcome, Responds, Stale, baseless, judged, known, more, name, old, outcome, over, request, verdict}
use Rattle.run.specs.Worlds.{Conduct}
use Rattle.manager.specs.Once.{Alike, Functional, SameOutcome, Steady}

earliest_has : (P : Request → Type 0) (xs : List Request) (x : Request) → Earliest P xs x → Has xs x
earliest_has P xs x e =
    subst (λ ys. Has ys x) (sym e.split) (has_append_right e.before (x ∷ e.after) x (has_get_or (x ∷ e.after) 0 x (omega arith)))

module _ (j : Junction) (clock v : ℕ) (s : State) (m : MessageRow) where
  told_once : (x y : State × Option MessageRow) → Told j clock v s m x → Told j clock v s m y → x ≡ y
  told_once x y (granted c p g t e) w = sym ((in_time p refl refl g t e).only y w)
  told_once x y (ended c p (inl late) e) w = sym ((too_late_lem p refl refl late.0 late.1 e).only y w)
  told_once x y (ended c p (inr reject) e) w = sym ((refused p refl refl reject e).only y w)
  told_once x y (other never e) (granted c p g t f) = absurd (never c p (inl g))
  told_once x y (other never e) (ended c p (inl late) f) = absurd (never c p (inl late.0))
  told_once x y (other never e) (ended c p (inr reject) f) = absurd (never c p (inr reject))
  told_once x y (other never e) (other also f) = e ∙ sym f

-- a likeness of policies that their calls keep: those alike tell the same, answer the same, and stay alike
pub record Likeness {P : Type 0} (c : Conduct P) (alike : P → P → Type 0) : Type 0 where
  pub itself : (p : P) → alike p p
  pub tell : (p q : P) → alike p q → c.view p ≡ c.view q
  pub ask : (p q : P) (r : Request) (a b : Result (Unit {0}) Denial) (x y : P)
      → alike p q → c.asks p r a x → c.asks q r b y → (a ≡ b) × alike x y
  pub release : (p q : P) (n : Name) (a b : Bool) (x y : P) → alike p q → c.releases p n a x → c.releases q n b y → alike x y

-- then what is alike before a message is alike after it
module _ {P : Type 0} (c : Conduct P) (alike : P → P → Type 0) (like : Likeness c alike) where
  module _ (v : ℕ) (base : Option ℕ) where
    none_earliest : (p q : P) → c.view p ≡ c.view q → ((x : Request) → Has (c.view p).ledger x → Stale v base x → ⊥)
        → (x : Request) → Earliest (Stale v base) (c.view q).ledger x → ⊥
    none_earliest p q same none x first =
        none x (subst (λ w. Has w.ledger x) (sym same) (earliest_has (Stale v base) (c.view q).ledger x first)) first.here

    cleared_once : (p q x y : P) → alike p q → Cleared c v base p x → Cleared c v base q y → alike x y
    cleared_once p q x y same (over _ none) (over _ also) = same
    cleared_once p q x y same (over _ none) (more _ between _ r first out rest) = absurd (none_earliest p q (like.tell p q same) none r first)
    cleared_once p q x y same (more _ between _ r first out rest) (over _ none) = absurd (none_earliest q p (sym (like.tell p q same)) none r first)
    cleared_once p q x y same (more _ between _ r first out rest) (more _ between' _ r' first' out' rest') =
        let first'' = subst (λ w. Earliest (Stale v base) w.ledger r') (sym (like.tell p q same)) first' in
        let one = earliest_same (Stale v base) (c.view p).ledger r r' first first'' in
        let next = like.release p q (name_of r) true true between between' same out (subst (λ z. c.releases q (name_of z) true between') (sym one) out') in
        cleared_once between between' x y next rest rest'

  module _ (p : P) (row : VehicleRow) (v q e d : ℕ) (base : Option ℕ) where
    outcomes : (x y : Outcome P) (r : VehicleRow) (z w : P) (m n : MessageRow) → x ≡ outcome r z (Some m) → y ≡ outcome r w (Some n) → m ≡ n → alike z w → SameOutcome alike x y
    outcomes x y r z w m n is same one near = record {
      row = ap (λ o. o.row) is ∙ sym (ap (λ o. o.row) same);
      reply = ap (λ o. o.reply) is ∙ ap Some one ∙ sym (ap (λ o. o.reply) same);
      policy = subst (λ t. alike t y.policy) (sym (ap (λ o. o.policy) is)) (subst (alike z) (sym (ap (λ o. o.policy) same)) near);
    }

    equal : (x y : Outcome P) → x ≡ y → SameOutcome alike x y
    equal x y is = record {
      row = ap (λ o. o.row) is;
      reply = ap (λ o. o.reply) is;
      policy = subst (λ o. alike x.policy o.policy) is (like.itself x.policy);
    }

    -- of the four cases one applies, and has one outcome
    judged_once : (x y : Outcome P) → Judged c p row v q e d base x → Judged c p row v q e d base y → SameOutcome alike x y
    judged_once x y (old lt is) (old gt same) = equal x y (is ∙ sym same)
    judged_once x y (old lt is) (known at same) = absurd (omega arith)
    judged_once x y (old lt is) (baseless gt p' clear gone same) = absurd (omega arith)
    judged_once x y (old lt is) (judged gt between clear based a p' asks same) = absurd (omega arith)
    judged_once x y (known at is) (old gt same) = absurd (omega arith)
    judged_once x y (known at is) (known also same) = equal x y (is ∙ sym same)
    judged_once x y (known at is) (baseless gt p' clear gone same) = absurd (omega arith)
    judged_once x y (known at is) (judged gt between clear based a p' asks same) = absurd (omega arith)
    judged_once x y (baseless lt p₁ clear₁ gone₁ is) (old gt same) = absurd (omega arith)
    judged_once x y (baseless lt p₁ clear₁ gone₁ is) (known at same) = absurd (omega arith)
    judged_once x y (baseless lt p₁ clear₁ gone₁ is) (baseless gt p₂ clear₂ gone₂ same) =
        outcomes x y _ p₁ p₂ _ _ is same refl (cleared_once v base p p p₁ p₂ (like.itself p) clear₁ clear₂)
    judged_once x y (baseless lt p₁ clear₁ gone₁ is) (judged gt p₂ clear₂ based a p' asks same) =
        absurd (gone₁ (subst (λ w. Based w v base) (sym (like.tell p₁ p₂ (cleared_once v base p p p₁ p₂ (like.itself p) clear₁ clear₂))) based))
    judged_once x y (judged lt p₁ clear₁ based a p' asks is) (old gt same) = absurd (omega arith)
    judged_once x y (judged lt p₁ clear₁ based a p' asks is) (known at same) = absurd (omega arith)
    judged_once x y (judged lt p₁ clear₁ based a p' asks is) (baseless gt p₂ clear₂ gone₂ same) =
        absurd (gone₂ (subst (λ w. Based w v base) (like.tell p₁ p₂ (cleared_once v base p p p₁ p₂ (like.itself p) clear₁ clear₂)) based))
    judged_once x y (judged lt p₁ clear₁ based₁ a p' asks₁ is) (judged gt p₂ clear₂ based₂ b p'' asks₂ same) =
        let both = like.ask p₁ p₂ (request row v q e d) a b p' p'' (cleared_once v base p p p₁ p₂ (like.itself p) clear₁ clear₂) asks₁ asks₂ in
        outcomes x y _ p' p'' _ _ is same (ap (verdict v q e) both.0) both.1

  module _ (p : P) (row : VehicleRow) where
    responds_once : (v : ℕ) (m : MessageRow) (x y : Outcome P) → Responds c p row v m x → Responds c p row v m y → SameOutcome alike x y
    responds_once v m x y r s =
        let same = told_once (c.view p).junction (c.view p).clock v row.state m (r.state, x.reply) (s.state, y.reply) r.told s.told in
        record {
          row = r.row_is ∙ ap (λ t. in_state row t.0) same ∙ sym s.row_is;
          reply = ap (λ t. t.1) same;
          policy = subst (alike x.policy) (r.policy_is ∙ sym s.policy_is) (like.itself x.policy);
        }

    acts_once : (m : MessageRow) (x y : Outcome P) → Acts c p row m x → Acts c p row m y → SameOutcome alike x y
    acts_once (message.Request v q e d) x y a b = judged_once p row v q e d None x y a b
    acts_once (message.Change v q n e d) x y a b = judged_once p row v q e d (Some n) x y a b
    acts_once (message.Cancel v q) x y a b = record {
      row = a.2 ∙ sym b.2;
      reply = a.3 ∙ sym b.3;
      policy = like.release p p (name v q) a.0 b.0 x.policy y.policy (like.itself p) a.1 b.1;
    }
    acts_once (message.Done v) x y a b = record {
      row = a.1 ∙ sym b.1;
      reply = a.2 ∙ sym b.2;
      policy = cleared_once v None p p x.policy y.policy (like.itself p) a.0 b.0;
    }
    acts_once (message.Confirm v q e) x y a b = responds_once v (message.Confirm v q e) x y a b
    acts_once (message.Reject v q why) x y a b = responds_once v (message.Reject v q why) x y a b

-- the laws of a policy, by which its view fixes what it answers, but for its gate
pub record Lawful {P : Type 0} (c : Conduct P) (gate : P → Request → Option Reason) (clash : Junction → Request → Request → Type 0) : Type 0 where
  pub answers : (p : P) (r : Request) (a : Result (Unit {0}) Denial) (x : P) → c.asks p r a x → Answer clash (c.view p) (gate p r) r a
  pub records : (p : P) (r : Request) (a : Result (Unit {0}) Denial) (x : P) → c.asks p r a x → c.view x ≡ asked (c.view p) r a
  pub finds : (p : P) (n : Name) (a : Bool) (x : P) → c.releases p n a x → a ≡ is_some (found n (c.view p).ledger)
  pub removes : (p : P) (n : Name) (a : Bool) (x : P) → c.releases p n a x → c.view x ≡ released (c.view p) n

module _ {P : Type 0} (c : Conduct P) (gate : P → Request → Option Reason) (clash : Junction → Request → Request → Type 0) (law : Lawful c gate clash) where
  answer_once : (p q : P) (r : Request) (a b : Result (Unit {0}) Denial) (x y : P) → Alike c gate p q → c.asks p r a x → c.asks q r b y → a ≡ b
  answer_once p q r a b x y same h k =
      one_answer clash (c.view p) (gate p r) r a b (law.answers p r a x h)
      (subst (λ w. Answer clash w (gate p r) r b) (sym same.0) (subst (λ g. Answer clash (c.view q) g r b) (sym (same.1 r)) (law.answers q r b y k)))

  release_once : (p q : P) (n : Name) (a b : Bool) (x y : P) → c.view p ≡ c.view q → c.releases p n a x → c.releases q n b y → a ≡ b
  release_once p q n a b x y same h k = law.finds p n a x h ∙ ap (λ w. is_some (found n w.ledger)) same ∙ sym (law.finds q n b y k)

  -- to tell and to refuse the same is such a likeness, where the gates are steady
  steady_likeness : Steady c gate → Likeness c (Alike c gate)
  steady_likeness steady = record {
    itself = λ p. (refl, λ s. refl);
    tell = λ p q same. same.0;
    ask = λ p q r a b x y same h k.
        let one = answer_once p q r a b x y same h k in
        let told = law.records p r a x h ∙ ap (λ w. asked w r a) same.0 ∙ ap (asked (c.view q) r) one ∙ sym (law.records q r b y k) in
        (one, (told, steady.ask p q r a x y same h (subst (λ t. c.asks q r t y) (sym one) k)));
    release = λ p q n a b x y same h k.
        let one = release_once p q n a b x y same.0 h k in
        let told = law.removes p n a x h ∙ ap (λ w. released w n) same.0 ∙ sym (law.removes q n b y k) in
        (told, steady.release p q n a x y same h (subst (λ t. c.releases q n t y) (sym one) k));
  }

  -- and so is to be equal, where the calls are functions
  equal_likeness : Functional c → Likeness c (λ p q. p ≡ q)
  equal_likeness fixed = record {
    itself = λ p. refl;
    tell = λ p q same. ap c.view same;
    ask = λ p q r a b x y same h k.
        let k' = subst (λ z. c.asks z r b y) (sym same) k in
        let one = answer_once p p r a b x y (refl, λ s. refl) h k' in
        (one, fixed.ask p r a x y h (subst (λ t. c.asks p r t y) (sym one) k'));
    release = λ p q n a b x y same h k.
        let k' = subst (λ z. c.releases z n b y) (sym same) k in
        fixed.release p n a x y h (subst (λ t. c.releases p n t y) (sym (release_once p p n a b x y refl h k')) k');
  }

  module _ (p : P) (row : VehicleRow) (m : MessageRow) (x y : Outcome P) (fits : Acts c p row m x) (also : Acts c p row m y) where
    pub only : Steady c gate → SameOutcome (Alike c gate) x y
    only steady = acts_once c (Alike c gate) (steady_likeness steady) p row m x y fits also

    pub once : Functional c → x ≡ y
    once fixed =
        let same = acts_once c (λ p q. p ≡ q) (equal_likeness fixed) p row m x y fits also in
        ap (λ r. outcome r x.policy x.reply) same.row ∙ ap (λ z. outcome y.row z x.reply) same.policy
        ∙ ap (outcome y.row y.policy) same.reply
