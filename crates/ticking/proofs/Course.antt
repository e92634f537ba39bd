-- How far a tick has come. Assumes nothing.
use Rattle.std.proofs.Common.{◌≡◌, ℕ, ◌+◌, ◌-◌, ◌<◌, ◌≤◌, Bool, true, false, cond, List, [], ◌∷◌, ◌++◌, length, get_or, take, drop, set, None, MatchBool, Option, sym, refl, ap, ◌∙◌, subst, inl, inr, arith}
use Rattle.std.specs.Option.{option_map}
use Rattle.std.proofs.lemmas.List.{append-nil, drop-drop, drop-set-lt, get_or-drop, get_or-set_other, get_or-set_same, length-take-le, take_all, take_more, take_more_set}
use Rattle.std.proofs.ByRecursion.{All-get_or}
use Rattle.std.proofs.lemmas.Bool.{cases_lt}
use Rattle.grid.specs.declared.junction.Junction.{Junction}
use Rattle.grid.specs.Bodies.{fits, lane_number_of}
use Rattle.message.specs.declared.row.MessageRow.{MessageRow}
use Rattle.message.specs.declared.row.MessageRow.TheVariants as message
use Rattle.vehicle.specs.declared.rows.VehicleRow.{VehicleRow}
use Rattle.vehicle.specs.Records.{Good}
use Rattle.vehicle.specs.States.{is_in_lane}
use Rattle.vehicle.proofs.Parts.{good_parts}
use Rattle.run.specs.Ticks.{Turned, closer, dones, finished}
use Rattle.run.specs.Worlds.{ahead_of, blank, last_of_lane, place_behind_of, row_of}
use Rattle.ticking.specs.Turning.{Fit, Passed, Posted, Posting, TurnedAll, TurnedAt, noted}
use Rattle.ticking.proofs.Ahead.{Seen, lane_below, seen_push}
use Rattle.ticking.proofs.Posts.{dones-push, posting_none, posting_push}

-- the first i vehicles are over the tick, and the others as they were
pub record Course (j : Junction) (clock : ℕ) (vs vs' : List VehicleRow) (ms ms' : List MessageRow) (places : List (Option ℕ)) (sent count i : ℕ) : Type 0 where
  pub rows : (v : ℕ) → 1 ≤ v → v ≤ i → Turned j clock (ahead_of vs v) (row_of vs v) (row_of vs' v)
  pub rest : drop i vs' ≡ drop i vs
  pub seen : Seen places (take i vs)
  pub mail : Posting ms sent (dones 1 (take i vs) (take i vs')) ms' count

turned_behind : (j : Junction) (clock : ℕ) (place : Option ℕ) (ahead : Option VehicleRow) (r r' : VehicleRow) → TurnedAt j clock place r r' → place ≡ option_map place_behind_of ahead → Turned j clock ahead r r'
turned_behind j clock place ahead r r' t e = record {
  body = t.body;
  first = t.first;
  arrival = t.arrival;
  used = t.used;
  heard = t.heard;
  distance = t.distance ∙ ap (λ p. cond (is_in_lane r.state) (closer r p) r.distance) e;
  state = t.state;
}

module _ (j : Junction) (clock : ℕ) (vs : List VehicleRow) (ms : List MessageRow) (sent : ℕ) (fit : Fit j vs ms sent) where
  pub course_none : (places : List (Option ℕ)) → ((lane : ℕ) → get_or places lane None ≡ None) → Course j clock vs vs ms ms places sent sent 0
  course_none places none = record {
    rows = λ v some le. absurd (let k : ⊥ = omega arith in k);
    rest = refl;
    seen = λ lane lt. none lane;
    mail = posting_none ms sent fit.within;
  }

  module _ (vs' : List VehicleRow) (ms' : List MessageRow) (places : List (Option ℕ)) (count i : ℕ) (so_far : Course j clock vs vs' ms ms' places sent count i)
      (within : i < length vs') (long : length vs' ≡ length vs) (eight : length places ≡ 8)
      (r r' : VehicleRow) (here : r ≡ get_or vs' i blank) (places' : List (Option ℕ)) (ended : Bool) (passed : Passed j clock places places' r r' ended) where
    was_here : r ≡ get_or vs i blank
    was_here =
        let z : i ≡ i + 0 = omega arith in
        here ∙ ap (λ k. get_or vs' k blank) z ∙ sym (get_or-drop i vs' 0 blank) ∙ ap (λ rs. get_or rs 0 blank) so_far.rest ∙ get_or-drop i vs 0 blank ∙ ap (λ k. get_or vs k blank) (sym z)

    fitting : fits j.lanes r.body ≡ true
    fitting =
        let good : Good j (get_or vs i blank) = All-get_or (Good j) vs i blank (omega arith) fit.rows in
        subst (λ row. fits j.lanes row.body ≡ true) (sym was_here) (good_parts j (get_or vs i blank) good).fitting

    over : Turned j clock (last_of_lane (lane_number_of r.body) (take i vs)) r r'
    over = turned_behind j clock _ _ r r' (passed.row fitting) (so_far.seen (lane_number_of r.body) (lane_below j r.body fitting))

    abbrev At : ℕ → Type 0
    At v = Turned j clock (ahead_of vs v) (row_of vs v) (row_of (set vs' i r') v)

    row_on : (v : ℕ) → v - 1 ≡ i → At v
    row_on v at =
        let back : i ≡ v - 1 = sym at in
        let was : r ≡ row_of vs v = was_here ∙ ap (λ k. get_or vs k blank) back in
        let is : r' ≡ row_of (set vs' i r') v = sym (get_or-set_same vs' i r' blank within) ∙ ap (λ k. get_or (set vs' i r') k blank) back in
        subst (λ row. Turned j clock (ahead_of vs v) (row_of vs v) row) is
        (subst (λ row. Turned j clock (last_of_lane (lane_number_of row.body) (take (v - 1) vs)) row r') was
        (subst (λ k. Turned j clock (last_of_lane (lane_number_of r.body) (take k vs)) r r') back over))

    rows_on : (v : ℕ) → 1 ≤ v → v ≤ i + 1 → At v
    rows_on v some le =
        elim (cases_lt i v) [
          | inl new ↦ row_on v (omega arith)
          | inr old ↦ subst (λ row. Turned j clock (ahead_of vs v) (row_of vs v) row) (sym (get_or-set_other vs' i (v - 1) r' blank (λ e. let k : ⊥ = omega arith in k))) (so_far.rows v some old)
        ]

    rest_on : drop (i + 1) (set vs' i r') ≡ drop (i + 1) vs
    rest_on = drop-set-lt (i + 1) vs' i r' (omega arith) ∙ sym (drop-drop 1 i vs') ∙ ap (drop 1) so_far.rest ∙ drop-drop 1 i vs

    before_on : take (i + 1) vs ≡ take i vs ++ r ∷ []
    before_on = take_more vs i blank (omega arith) ∙ ap (λ row. take i vs ++ row ∷ []) (sym was_here)

    after_on : take (i + 1) (set vs' i r') ≡ take i vs' ++ r' ∷ []
    after_on = take_more_set vs' i r' within

    seen_on : Seen places' (take (i + 1) vs)
    seen_on = subst (λ ps. Seen ps (take (i + 1) vs)) (sym passed.seen) (subst (Seen (noted places r)) (sym before_on) (seen_push places (take i vs) r eight so_far.seen))

    dones_on : dones 1 (take (i + 1) vs) (take (i + 1) (set vs' i r')) ≡ dones 1 (take i vs) (take i vs') ++ cond ended (message.Done (i + 1) ∷ []) []
    dones_on =
        let same : length (take i vs) ≡ length (take i vs') = length-take-le i vs (omega arith) ∙ sym (length-take-le i vs' (omega arith)) in
        let this : 1 + length (take i vs) ≡ i + 1 = omega (arith, length-take-le i vs (omega arith)) in
        ap (λ rs. dones 1 rs (take (i + 1) (set vs' i r'))) before_on ∙ ap (dones 1 (take i vs ++ r ∷ [])) after_on
        ∙ dones-push 1 (take i vs) (take i vs') r r' same
        ∙ ap (λ k. dones 1 (take i vs) (take i vs') ++ cond (finished r r') (message.Done k ∷ []) []) this
        ∙ ap (λ b. dones 1 (take i vs) (take i vs') ++ cond b (message.Done (i + 1) ∷ []) []) (sym passed.ended_is)

    course_on : (ms'' : List MessageRow) (count' : ℕ) → Posting ms sent (dones 1 (take i vs) (take i vs') ++ cond ended (message.Done (i + 1) ∷ []) []) ms'' count'
        → Course j clock vs (set vs' i r') ms ms'' places' sent count' (i + 1)
    course_on ms'' count' p = record {
      rows = rows_on;
      rest = rest_on;
      seen = seen_on;
      mail = subst (λ xs. Posting ms sent xs ms'' count') (sym dones_on) p;
    }

    -- a DONE was put behind the messages, or nothing was
    pub course_more : length ms' ≡ length ms → (ms'' : List MessageRow) (count' : ℕ) → MatchBool ended (Posted ms' count (message.Done (i + 1)) ms'' count') ((ms'' ≡ ms') × (count' ≡ count))
        → Course j clock vs (set vs' i r') ms ms'' places' sent count' (i + 1)
    course_more same ms'' count' sends =
        let before = dones 1 (take i vs) (take i vs') in
        course_on ms'' count'
        (elim ended as (λ b. MatchBool b (Posted ms' count (message.Done (i + 1)) ms'' count') ((ms'' ≡ ms') × (count' ≡ count)) → Posting ms sent (before ++ cond b (message.Done (i + 1) ∷ []) []) ms'' count') [
          | true ↦ posting_push ms sent fit.within before ms' count so_far.mail (message.Done (i + 1)) ms'' count' same
          | false ↦ λ still. simp (append-nil, still.0, still.1) so_far.mail
        ] sends)

  pub course_all : (vs' : List VehicleRow) (ms' : List MessageRow) (places : List (Option ℕ)) (count i : ℕ) → Course j clock vs vs' ms ms' places sent count i
      → length vs' ≡ length vs → length vs ≤ i → TurnedAll j clock vs vs' ms ms' sent count
  course_all vs' ms' places count i whole same end =
      let before : take i vs ≡ vs = take_all i vs end in
      let after : take i vs' ≡ vs' = take_all i vs' (omega arith) in
      record {
        rows = record { count = same; each = λ v arrived. whole.rows v arrived.0 (omega (arith, arrived.1)) };
        mail = subst (λ rs. Posting ms sent (dones 1 rs vs') ms' count) before (subst (λ rs. Posting ms sent (dones 1 (take i vs) rs) ms' count) after whole.mail);
      }
