-- How each call keeps what always holds of a tile table. Assumes nothing.
use Rattle.std.proofs.Common.{◌≡◌, ℕ, ◌+◌, ◌%◌, ◌<◌, ◌≤◌, Bool, true, false, not, eqb, ltb, leb, List, [], ◌∷◌, ◌++◌, None, Ok, filter, sym, ap, ◌∙◌, subst, inl, inr, ⊎_elim, arith}
use Rattle.std.specs.List.{ContainsAt as Has}
use Rattle.std.proofs.ByRecursion.{all-has, has_push, has_push_cases, kept_by_passes}
use Rattle.std.proofs.lemmas.Bool.{and_from, and_parts, cases_Bool, cases_eq, cases_lt, cond-true, cond-false, eq-eqb, eqb-true, leb-false, leb-true, ltb-true, ne_eqb, not-false, not_from_false}
use Rattle.grid.specs.declared.junction.Junction.{Junction}
use Rattle.refusal.specs.declared.kinds.Name.{Name}
use Rattle.reservation.specs.declared.footprint.Footprint.{Footprint}
use Rattle.reservation.specs.declared.request.Request.{Request}
use Rattle.reservation.specs.Cells.{has, share}
use Rattle.reservation.specs.Requests.{in_range, last_tick_of, span_end}
use Rattle.reservation.proofs.Laws.{has_tile_lem, has_within, share_found, share_from, share_symmetric}
use Rattle.reservation.proofs.Ranges.{range_parts}
use Rattle.policy.specs.Answers.{is_in_time}
use Rattle.policy.specs.Layers.{Stopped}
use Rattle.policy.specs.Views.{View, lasting, named}
use Rattle.policy.proofs.Layers.{ok_err}
use Rattle.marks.specs.declared.marks.Marks.{Marks}
use Rattle.marks.specs.Marked.{mark}
use Rattle.marks.proofs.Rings.{mark_around}
use Rattle.ledger.specs.Entries.{entries}
use Rattle.ledger.specs.Standings.{requests}
use Rattle.ledger.proofs.Kept.{has_kept_by}
use Rattle.rivals.specs.Rivals.{CellClash, Rival, Sought}
use Rattle.rivals.specs.Screening.{Screens}
use Rattle.rivals.proofs.Screens.{screened_footprint}
use Rattle.tile_table.specs.declared.table.TileTable.{TileTable}
use Rattle.tile_table.specs.Holding.{Agree, Ahead, Apart, Ranged}
use Rattle.tile_table.specs.Painting.{Foreign, Painted, covers}
use Rattle.tile_table.proofs.Covers.{covers_found, covers_not}
use Rattle.tile_table.proofs.Found.{named_vehicle}
use Rattle.tile_table.proofs.Givens.{given_kept, given_none, given_owner, given_push_not}
use Rattle.tile_table.proofs.Rings.{ring_apart}
use Rattle.tile_table.proofs.Spans.{after_last}

pub record Sound (j : Junction) (clock : ℕ) (rs : List Request) (m : Marks) : Type 0 where
  pub ranged : Ranged j rs
  pub ahead : Ahead j clock rs
  pub apart : Apart j rs
  pub agree : Agree j clock rs m

pub record Timely (j : Junction) (clock : ℕ) (r : Request) : Type 0 where
  pub early : clock + j.buffer < r.entry
  pub late : span_end j r ≤ clock + 128

pub timely : (j : Junction) (clock : ℕ) (r : Request) → is_in_time j clock r ≡ true → Timely j clock r
timely j clock r e =
    let parts = and_parts (ltb (clock + j.buffer) r.entry) (leb (span_end j r) (clock + 128)) e in
    record { early = ltb-true _ _ parts.0; late = leb-true _ _ parts.1 }

pub sound_of : (s : TileTable) → Sound s.window.junction s.window.clock (requests (entries s.ledger)) s.marks
sound_of s = record { ranged = s.ranged; ahead = s.ahead; apart = s.apart; agree = s.agree }

-- a request that nothing stops is in time
pub in_time : (w : View) (r : Request) → Stopped w None r (Ok tt) → is_in_time w.junction w.clock r ≡ true
in_time w r (inl range) = absurd (ok_err range.1)
in_time w r (inr (p, inl time)) = absurd (ok_err time.1)
in_time w r (inr (p, inr (q, rest))) = ⊎_elim
    (λ (e : is_in_time w.junction w.clock r ≡ true). e)
    (λ (e : is_in_time w.junction w.clock r ≡ false). absurd (q e))
    (cases_Bool (is_in_time w.junction w.clock r))

-- so is the request of a footprint that the rows let pass
pub screened_time : (w : View) (r : Request) (f : Footprint) → Screens w r (Ok f) → is_in_time w.junction w.clock f.request ≡ true
screened_time w r f screens =
    let (past, one, same) = screened_footprint w r f screens in
    subst (λ x. is_in_time w.junction w.clock x ≡ true) (sym same) (in_time w r past)

module _ (j : Junction) (clock : ℕ) (rs : List Request) (m : Marks) (sound : Sound j clock rs m) where
  -- where no mark of r's cells is another vehicle's, nobody is in its way
  pub nobody : (r : Request) → is_in_time j clock r ≡ true → (Foreign m j r r.vehicle → ⊥) → Sought (Rival CellClash j r) rs None
  nobody r time none x inside w =
      let cell = share_found j x r w.2 in
      let tile = cell.0 in
      let t = cell.1 in
      let within = has_within j r tile t cell.3 in
      let when = timely j clock r time in
      let small = has_tile_lem j r tile t cell.3 in
      let is = sound.agree tile t (small, omega arith, omega arith) ∙ given_owner j tile t rs sound.apart x inside cell.2 in
      let some = (range_parts j x (sound.ranged x inside)).vehicle in
      none (
        t,
        (
          tile,
          small,
          cell.3,
          and_from (not (eqb (mark m tile t) 0)) (not (eqb (mark m tile t) r.vehicle))
              (not_from_false _ (ne_eqb (mark m tile t) 0 (λ e. omega arith)))
              (not_from_false _ (ne_eqb (mark m tile t) r.vehicle (λ e. w.0 (sym is ∙ e)))),
        ),
      )

  module _ (r : Request) (in-range : in_range j r ≡ true) (time : is_in_time j clock r ≡ true) (alone : Sought (Rival CellClash j r) rs None) where
    own : (p : Request) → Has rs p → share j p r ≡ true → p.vehicle ≡ r.vehicle
    own p inside shared = ⊎_elim
        (λ (e : p.vehicle ≡ r.vehicle). e)
        (λ (ne : p.vehicle ≡ r.vehicle → ⊥). absurd (alone p inside (ne, sound.ranged p inside, shared)))
        (cases_eq p.vehicle r.vehicle)

    apart_push : Apart j (rs ++ r ∷ [])
    apart_push p q both =
        let shared = both.2 in
        ⊎_elim
        (λ (hp : Has rs p). ⊎_elim
        (λ (hq : Has rs q). sound.apart p q (hp, hq, shared))
        (λ (eq : r ≡ q). own p hp (subst (λ x. share j p x ≡ true) (sym eq) shared) ∙ ap (λ (x : Request). x.vehicle) eq)
        (has_push_cases rs r q both.1))
        (λ (ep : r ≡ p). ⊎_elim
        (λ (hq : Has rs q). sym (own q hq (subst (λ x. share j q x ≡ true) (sym ep) (share_symmetric j q p ∙ shared)) ∙ ap (λ (x : Request). x.vehicle) ep))
        (λ (eq : r ≡ q). ap (λ (x : Request). x.vehicle) (sym ep ∙ eq))
        (has_push_cases rs r q both.1))
        (has_push_cases rs r p both.0)

    pub sound_asked : (new : Marks) → Painted clock (has j r) r.vehicle m new → Sound j clock (rs ++ r ∷ []) new
    sound_asked new painted = record {
      ranged = λ p inside. ⊎_elim
          (λ h. sound.ranged p h)
          (λ (e : r ≡ p). subst (λ x. in_range j x ≡ true) e in-range)
          (has_push_cases rs r p inside);
      ahead = λ p inside. ⊎_elim
          (λ h. sound.ahead p h)
          (λ (e : r ≡ p).
          let when = timely j clock r time in
          let parts = range_parts j r in-range in
          let here : (clock ≤ last_tick_of j r) × (last_tick_of j r ≤ clock + 127) = (omega arith, omega arith) in
          subst (λ x. (clock ≤ last_tick_of j x) × (last_tick_of j x ≤ clock + 127)) e here)
          (has_push_cases rs r p inside);
      apart = apart_push;
      agree = λ tile t w. painted tile t w ∙ ⊎_elim
          (λ (e : has j r tile t ≡ true). cond-true _ _ _ e ∙ sym (given_owner j tile t (rs ++ r ∷ []) apart_push r (has_push rs r) e))
          (λ (e : has j r tile t ≡ false). cond-false _ _ _ e ∙ sound.agree tile t w ∙ sym (given_push_not j tile t rs r e))
          (cases_Bool (has j r tile t));
    }

  -- fewer requests, with other marks at another clock
  apart_kept : (p : Request → Bool) → Apart j (filter p rs)
  apart_kept p x y both = sound.apart x y (has_kept_by p rs x both.0, has_kept_by p rs y both.1, both.2)

  module _ (n : Name) (mid new : Marks) where
    abbrev of_vehicle : Request → Bool
    of_vehicle r = eqb r.vehicle n.vehicle

    abbrev rest : List Request
    rest = filter (λ r. not (named n r)) rs

    -- the cells of the requests of that name are cleared, and those that the vehicle still has are marked again
    pub sound_released : Painted clock (covers (named n) j rs) 0 m mid → Painted clock (covers of_vehicle j rest) n.vehicle mid new
        → Sound j clock rest new
    sound_released cleared again = record {
      ranged = λ r inside. sound.ranged r (has_kept_by (λ x. not (named n x)) rs r inside);
      ahead = λ r inside. sound.ahead r (has_kept_by (λ x. not (named n x)) rs r inside);
      apart = apart_kept (λ x. not (named n x));
      agree = λ tile t w. again tile t w ∙ ⊎_elim
          (λ (e : covers of_vehicle j rest tile t ≡ true).
          let o = covers_found of_vehicle j tile t rest e in
          cond-true _ _ _ e ∙ sym (given_owner j tile t rest (apart_kept (λ x. not (named n x))) o.one o.inside o.holds ∙ eqb-true _ _ o.picked))
          (λ (e : covers of_vehicle j rest tile t ≡ false). cond-false _ _ _ e ∙ cleared tile t w ∙ ⊎_elim
          (λ (f : covers (named n) j rs tile t ≡ true).
          let o = covers_found (named n) j tile t rs f in
          cond-true _ _ _ f ∙ sym (given_none j tile t rest (λ r inside. ⊎_elim
          (λ (h : has j r tile t ≡ true).
          let was = has_kept_by (λ x. not (named n x)) rs r inside in
          let same = sound.apart r o.one (was, o.inside, share_from j r o.one (tile, t, h, o.holds)) in
          absurd (covers_not of_vehicle j tile t rest e r inside (eq-eqb _ _ (same ∙ named_vehicle n o.one o.picked)) (sound.ranged r was) h))
          (λ (h : has j r tile t ≡ false). h)
          (cases_Bool (has j r tile t)))))
          (λ (f : covers (named n) j rs tile t ≡ false).
          cond-false _ _ _ f ∙ sound.agree tile t w ∙ sym (given_kept j tile t (λ x. not (named n x)) rs (λ r inside gone. ⊎_elim
          (λ (h : has j r tile t ≡ true). absurd (covers_not (named n) j tile t rs f r inside (not-false _ gone) (sound.ranged r inside) h))
          (λ (h : has j r tile t ≡ false). h)
          (cases_Bool (has j r tile t)))))
          (cases_Bool (covers (named n) j rs tile t)))
          (cases_Bool (covers of_vehicle j rest tile t));
    }

  -- a tick later, with the marks of the tick that has passed cleared
  pub sound_advanced : (new : Marks) → ((tile : ℕ) → tile < 64 → mark new tile clock ≡ 0)
      → ((tile u : ℕ) → tile < 64 → (u % 128 ≡ clock % 128 → ⊥) → mark new tile u ≡ mark m tile u)
      → Sound j (clock + 1) (lasting j (clock + 1) rs) new
  sound_advanced new here others =
      let p : Request → Bool = λ x. leb (clock + 1) (last_tick_of j x) in
      record {
        ranged = λ r inside. sound.ranged r (has_kept_by p rs r inside);
        ahead = λ r inside.
            let was = sound.ahead r (has_kept_by p rs r inside) in
            let stays = leb-true _ _ (all-has (λ x. p x ≡ true) (filter p rs) r (kept_by_passes p rs) inside) in
            (stays, omega arith);
        apart = apart_kept p;
        agree = λ tile t w. ⊎_elim
            (λ (before : t < clock + 128).
            let from : clock ≤ t = omega (arith, w.1) in
            let later : t ≡ clock → ⊥ = λ e. omega (arith, w.1) in
            others tile t w.0 (ring_apart clock clock t (omega arith) (omega arith) from before later)
            ∙ sound.agree tile t (w.0, from, before)
            ∙ sym (given_kept j tile t p rs (λ r inside gone. let le = leb-false _ _ gone in after_last j r tile t (omega (arith, w.1)))))
            (λ (last : clock + 128 ≤ t).
            let same : t % 128 ≡ clock % 128 = omega (arith, w.2) in
            let none : (r : Request) → Has rs r → has j r tile t ≡ false =
            λ r inside. let reach = sound.ahead r inside in after_last j r tile t (omega arith) in
            mark_around new tile t clock same ∙ here tile w.0
            ∙ sym (given_none j tile t (filter p rs) (λ r inside. none r (has_kept_by p rs r inside))))
            (cases_lt t (clock + 128));
      }
