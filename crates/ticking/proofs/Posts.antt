-- Messages that are put behind others while there is room, and the DONE messages of a tick. Assumes nothing.
use Rattle.std.proofs.Common.{◌≡◌, ℕ, ◌+◌, ◌-◌, ◌<◌, ◌≤◌, min, Bool, true, false, cond, List, [], ◌∷◌, ◌++◌, length, get_or, take, drop, set, sym, refl, ap, ◌∙◌, inl, inr, arith}
use Rattle.std.proofs.lemmas.List.{append_assoc, append-nil, drop_more, length-append, length_push, length-take, length-take-le, set-append_right, take_all, take-append-drop, take-append-le}
use Rattle.std.proofs.lemmas.Bool.{cases_lt}
use Rattle.message.specs.declared.row.MessageRow.{MessageRow}
use Rattle.message.specs.declared.row.MessageRow.TheVariants as message
use Rattle.vehicle.specs.declared.rows.VehicleRow.{VehicleRow}
use Rattle.run.specs.Ticks.{dones, finished}
use Rattle.ticking.specs.Turning.{Posted, Posting}

module _ (ms : List MessageRow) (n : ℕ) (within : n ≤ length ms) where
  pub posting_none : Posting ms n [] ms n
  posting_none =
      let nil : take (length ms - n) [] ≡ [] = take_all (length ms - n) [] (omega arith) in
      let front : take n ms ++ take (length ms - n) [] ≡ take n ms = ap (λ xs. take n ms ++ xs) nil ∙ append-nil (take n ms) in
      record {
        counted = sym (ap length front ∙ length-take-le n ms within);
        memory = sym (ap (λ xs. xs ++ drop n ms) front ∙ take-append-drop n ms);
      }

  module _ (xs ms' : List MessageRow) (count : ℕ) (p : Posting ms n xs ms' count) where
    long : count ≡ n + min (length ms - n) (length xs)
    long = p.counted ∙ length-append (take n ms) (take (length ms - n) xs) ∙ ap (λ k. k + length (take (length ms - n) xs)) (length-take-le n ms within) ∙ ap (λ k. n + k) (length-take (length ms - n) xs)

    posting_free : (x : MessageRow) → count < length ms → Posting ms n (xs ++ x ∷ []) (set ms' count x) (count + 1)
    posting_free x free =
        let k = length ms - n in
        let few : length xs < k = omega (arith, long) in
        let now' : take k xs ≡ xs = take_all k xs (omega arith) in
        let then' : take k (xs ++ x ∷ []) ≡ xs ++ x ∷ [] = take_all k (xs ++ x ∷ []) (omega (arith, length_push xs x)) in
        let front = take n ms ++ take k xs in
        let whole : take n ms ++ take k (xs ++ x ∷ []) ≡ front ++ x ∷ [] =
        ap (λ ys. take n ms ++ ys) then' ∙ sym (append_assoc (take n ms) xs (x ∷ [])) ∙ ap (λ ys. (take n ms ++ ys) ++ x ∷ []) (sym now') in
        let none : count - count ≡ 0 = omega arith in
        record {
          counted = sym (ap length whole ∙ length_push front x ∙ ap (λ j. j + 1) (sym p.counted));
          memory = ap (λ ys. set ys count x) p.memory ∙ set-append_right front (drop count ms) count count x (sym p.counted) (omega arith)
              ∙ ap (λ ys. front ++ set ys (count - count) x) (drop_more ms count x free)
              ∙ ap (λ j. front ++ set (get_or ms count x ∷ drop (count + 1) ms) j x) none
              ∙ sym (append_assoc front (x ∷ []) (drop (count + 1) ms))
              ∙ ap (λ ys. ys ++ drop (count + 1) ms) (sym whole);
        }

    posting_full : (x : MessageRow) → length ms ≤ count → Posting ms n (xs ++ x ∷ []) ms' count
    posting_full x full =
        let k = length ms - n in
        let same : take k xs ≡ take k (xs ++ x ∷ []) = sym (take-append-le k xs (x ∷ []) (omega (arith, long))) in
        record {
          counted = p.counted ∙ ap (λ ys. length (take n ms ++ ys)) same;
          memory = p.memory ∙ ap (λ ys. (take n ms ++ ys) ++ drop count ms) same;
        }

    -- one more, whether there is room or not
    pub posting_push : (x : MessageRow) (ms'' : List MessageRow) (count' : ℕ) → length ms' ≡ length ms → Posted ms' count x ms'' count' → Posting ms n (xs ++ x ∷ []) ms'' count'
    posting_push x ms'' count' same posted =
        elim (cases_lt count (length ms)) [
          | inl free ↦ (
              let e = posted.free (omega arith) in
              let q = posting_free x free in
              record {
                counted = e.1 ∙ q.counted;
                memory = e.0 ∙ q.memory ∙ ap (λ k. (take n ms ++ take (length ms - n) (xs ++ x ∷ [])) ++ drop k ms) (sym e.1);
              })
          | inr full ↦ (
              let e = posted.full (omega arith) in
              let q = posting_full x full in
              record {
                counted = e.1 ∙ q.counted;
                memory = e.0 ∙ q.memory ∙ ap (λ k. (take n ms ++ take (length ms - n) (xs ++ x ∷ [])) ++ drop k ms) (sym e.1);
              })
        ]

done_first : (b : Bool) (v : ℕ) (ms ns : List MessageRow) → cond b (message.Done v ∷ (ms ++ ns)) (ms ++ ns) ≡ cond b (message.Done v ∷ ms) ms ++ ns
done_first true v ms ns = refl
done_first false v ms ns = refl

-- one vehicle more
pub dones-push : (v : ℕ) (rs rs' : List VehicleRow) (r r' : VehicleRow) → length rs ≡ length rs'
    → dones v (rs ++ r ∷ []) (rs' ++ r' ∷ []) ≡ dones v rs rs' ++ cond (finished r r') (message.Done (v + length rs) ∷ []) []
dones-push v [] [] r r' e = let z : v ≡ v + 0 = omega arith in ap (λ k. cond (finished r r') (message.Done k ∷ []) []) z
dones-push v [] (b ∷ rs') r r' e = absurd (let k : ⊥ = omega (arith, e) in k)
dones-push v (a ∷ rs) [] r r' e = absurd (let k : ⊥ = omega (arith, e) in k)
dones-push v (a ∷ rs) (b ∷ rs') r r' e =
    let z : v + 1 + length rs ≡ v + length (a ∷ rs) = omega arith in
    ap (λ ms. cond (finished a b) (message.Done v ∷ ms) ms) (dones-push (v + 1) rs rs' r r' (omega (arith, e)) ∙ ap (λ k. dones (v + 1) rs rs' ++ cond (finished r r') (message.Done k ∷ []) []) z)
    ∙ done_first (finished a b) v (dones (v + 1) rs rs') (cond (finished r r') (message.Done (v + length (a ∷ rs)) ∷ []) [])
