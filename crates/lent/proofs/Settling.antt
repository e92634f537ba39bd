-- What `settle` leaves. Assumes nothing.
use Rattle.std.proofs.Common.{◌≡◌, ℕ, ◌+◌, ◌-◌, List, ◌++◌, length, take, drop, set, Some, None, Option, sym, ap, ◌∙◌, subst, arith}
use Rattle.std.specs.List.{remove}
use Rattle.std.proofs.lemmas.List.{length-set, length-take-le}
use Rattle.std.proofs.lemmas.List.Edits.{length-remove}
use Rattle.message.specs.declared.row.MessageRow.{MessageRow}
use Rattle.lent.specs.Moves.{Among, Settled}
use Rattle.lent.proofs.Memory.{put_part}

module _ (ms : List MessageRow) (n i : ℕ) (at : Among ms n i) (reply : Option MessageRow) where
  pub replaced : (m : MessageRow) → reply ≡ Some m → Settled ms n i reply n (set ms (i - 1) m)
  replaced m is =
      let len = length-set (take n ms) (i - 1) m ∙ length-take-le n ms at.2 in
      subst (λ r. Settled ms n i r n (set ms (i - 1) m)) (sym is) (record {
        counted = sym len;
        memory = put_part ms n (i - 1) m (omega (arith, at.0, at.1)) at.2 ∙ ap (λ k. set (take n ms) (i - 1) m ++ drop k ms) len;
      })

  pub gone : reply ≡ None → (ms' : List MessageRow) → ms' ≡ remove (take n ms) (i - 1) ++ drop (n - 1) ms → Settled ms n i reply (n - 1) ms'
  gone is ms' is' =
      let len = length-take-le n ms at.2 in
      let one : length (remove (take n ms) (i - 1)) + 1 ≡ length (take n ms) =
      length-remove (take n ms) (i - 1) (omega (arith, len, at.0, at.1)) in
      subst (λ r. Settled ms n i r (n - 1) ms') (sym is) (record { counted = omega (arith, one, len); memory = is' })
