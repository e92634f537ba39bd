-- The rows of the table are those of the paths. Assumes nothing.
use Rattle.std.proofs.Common.{◌≡◌, ℕ, zero, suc, ◌+◌, ◌-◌, ◌*◌, ◌<◌, ◌≤◌, Bool, true, false, ◌&&◌, ltb, leb, List, [], ◌∷◌, ◌++◌, length, get_or, sym, refl, ap, ◌∙◌, subst, ap₂, arith, lit<}
use lib.Bits.{bit_and}
use Rattle.std.proofs.lemmas.List.{get_or_append_left, get_or-append-add}
use Rattle.std.proofs.lemmas.Bool.{and_from, and_parts, both_ways, lt-ltb}
use Rattle.grid.specs.declared.kinds.Approach.{Approach}
use Rattle.grid.specs.declared.kinds.Approach.TheVariants.{North, East, South, West}
use Rattle.grid.specs.declared.kinds.Movement.{Movement}
use Rattle.grid.specs.declared.kinds.Movement.TheVariants.{Left, Through, Right}
use Rattle.grid.specs.declared.kinds.Body.{Body}
use Rattle.grid.specs.Bodies.{approach_number, lane_rule, fits}
use Rattle.grid.specs.Paths.{last_point_of, point_of_path, point_touches}
use Rattle.grid.specs.Sets.{bit}
use Rattle.grid.specs.Steps.{points_touch}
use Rattle.grid.specs.Tables.{Route, route, routes, rows, row_of, joined_up, joined_down, words, up_row, down_row, up_table, down_table, point_word, movement_number}
use Rattle.grid.proofs.Digits.{bit_word}
use Rattle.grid.proofs.Fitting.{fits_parts}
use Rattle.grid.proofs.Joins.{listed, join_below, join_from, unbroken, unbroken_at, length-listed, length_up, length-down, listed_at, up_at, down_at, between}
use Rattle.grid.proofs.Somes.{same_tests, some_tests}
use Rattle.grid.proofs.Sweeps.{touched_below}

-- a row of the table by the row's number, where each has 48 points
row_at : (f : Route → List ℕ) → ((r : Route) → length (f r) ≡ 48) → (rs : List Route) (k i : ℕ) (d : Route) → k < length rs → i < 48
    → get_or (rows f rs) (48 * k + i) 0 ≡ get_or (f (get_or rs k d)) i 0
row_at f long [] k i d h p = absurd (omega arith)
row_at f long (r ∷ rs) zero i d h p =
    let e : 48 * 0 + i ≡ i = omega arith in
    ap (λ x. get_or (f r ++ rows f rs) x 0) e ∙ get_or_append_left (f r) (rows f rs) 0 i (omega (arith, long r))
row_at f long (r ∷ rs) (suc k) i d h p =
    let e : 48 * suc k + i ≡ length (f r) + (48 * k + i) = omega (arith, long r) in
    ap (λ x. get_or (f r ++ rows f rs) x 0) e ∙ get_or-append-add (f r) (rows f rs) (48 * k + i) 0 ∙ row_at f long rs k i d (omega arith) p

-- the words of a path's points, in a form that the lemmas on joins know
words_listed : (r : Route) (m i : ℕ) → words r i m ≡ listed (point_word r) i m
words_listed r zero i = refl
words_listed r (suc m) i = ap (λ x. point_word r i ∷ x) (words_listed r m (suc i))

-- the entries of a row
module _ (r : Route) where
  abbrev word_of : ℕ → ℕ
  word_of = point_word r

  long_up : length (up_row r) ≡ 48
  long_up = ap (λ l. length (joined_up 0 l)) (words_listed r 48 0) ∙ length_up word_of 48 0 0

  long_down : length (down_row r) ≡ 48
  long_down = ap (λ l. length (joined_down l)) (words_listed r 48 0) ∙ length-down word_of 48 0

  long_words : length (words r 0 48) ≡ 48
  long_words = ap length (words_listed r 48 0) ∙ length-listed word_of 48 0

  word_entry : (i : ℕ) → i < 48 → get_or (words r 0 48) i 0 ≡ word_of i
  word_entry i h =
      let e : 0 + i ≡ i = omega arith in
      ap (λ l. get_or l i 0) (words_listed r 48 0) ∙ listed_at word_of 48 0 i h ∙ ap word_of e

  up_entry : (i : ℕ) → i < 48 → get_or (up_row r) i 0 ≡ join_below word_of (suc i)
  up_entry i h =
      let e : suc (0 + i) ≡ suc i = omega arith in
      ap (λ l. get_or (joined_up 0 l) i 0) (words_listed r 48 0) ∙ up_at word_of 48 0 i h ∙ ap (join_below word_of) e

  down_entry : (i : ℕ) → i < 48 → get_or (down_row r) i 0 ≡ join_from word_of i (48 - i)
  down_entry i h =
      let e : 0 + i ≡ i = omega arith in
      ap (λ l. get_or (joined_down l) i 0) (words_listed r 48 0) ∙ down_at word_of 48 0 i h ∙ ap (λ x. join_from word_of x (48 - i)) e

-- the test that no tile is left and touched again, on every path: antt computes it
whole_row : Route → Bool
whole_row r = unbroken (words r 0 48) (up_row r) (down_row r)

every_row : List Route → Bool
every_row [] = true
every_row (r ∷ rs) = whole_row r && every_row rs

no_gap : every_row routes ≡ true
unfolding every_row whole_row point_word point_touches last_point_of point_of_path
no_gap = refl

every_row_at : (rs : List Route) (k : ℕ) (d : Route) → every_row rs ≡ true → k < length rs → whole_row (get_or rs k d) ≡ true
unfolding every_row
every_row_at [] k d e h = absurd (omega arith)
every_row_at (r ∷ rs) zero d e h = (and_parts _ _ e).0
every_row_at (r ∷ rs) (suc k) d e h = every_row_at rs k d (and_parts _ _ e).1 (omega arith)

-- the row of each path, by its number in the table
abbrev place : ℕ → Approach → Movement → ℕ → ℕ
place n a m k = 12 * (n - 1) + (2 + n) * approach_number a + movement_number m + k

abbrev any : Route
any = route 1 North Left 0

abbrev Placed : ℕ → Movement → ℕ → Approach → Type 0
Placed n m k a = (place n a m k < 28) × (get_or routes (place n a m k) any ≡ route n a m k)

each_side : (P : Approach → Type 0) → P North → P East → P South → P West → (a : Approach) → P a
each_side P n e s w North = n
each_side P n e s w East = e
each_side P n e s w South = s
each_side P n e s w West = w

placed : (n : ℕ) (m : Movement) (k : ℕ) → 1 ≤ n → n ≤ 2 → k < n → lane_rule n k m ≡ true → (a : Approach) → Placed n m k a
placed zero m k h p q rule a = absurd (omega arith)
placed (suc (suc (suc n))) m k h p q rule a = absurd (omega arith)
placed (suc zero) m (suc k) h p q rule a = absurd (omega arith)
placed (suc zero) Left zero h p q rule a = each_side (Placed 1 Left 0) (lit< tt, refl) (lit< tt, refl) (lit< tt, refl) (lit< tt, refl) a
placed (suc zero) Through zero h p q rule a = each_side (Placed 1 Through 0) (lit< tt, refl) (lit< tt, refl) (lit< tt, refl) (lit< tt, refl) a
placed (suc zero) Right zero h p q rule a = each_side (Placed 1 Right 0) (lit< tt, refl) (lit< tt, refl) (lit< tt, refl) (lit< tt, refl) a
placed (suc (suc zero)) m (suc (suc k)) h p q rule a = absurd (omega arith)
placed (suc (suc zero)) Left zero h p q rule a = each_side (Placed 2 Left 0) (lit< tt, refl) (lit< tt, refl) (lit< tt, refl) (lit< tt, refl) a
placed (suc (suc zero)) Left (suc zero) h p q rule a = absurd (both_ways false refl rule)
placed (suc (suc zero)) Through zero h p q rule a = each_side (Placed 2 Through 0) (lit< tt, refl) (lit< tt, refl) (lit< tt, refl) (lit< tt, refl) a
placed (suc (suc zero)) Through (suc zero) h p q rule a = each_side (Placed 2 Through 1) (lit< tt, refl) (lit< tt, refl) (lit< tt, refl) (lit< tt, refl) a
placed (suc (suc zero)) Right zero h p q rule a = absurd (both_ways false refl rule)
placed (suc (suc zero)) Right (suc zero) h p q rule a = each_side (Placed 2 Right 1) (lit< tt, refl) (lit< tt, refl) (lit< tt, refl) (lit< tt, refl) a

module _ (n : ℕ) (body : Body) (fit : fits n body ≡ true) (from : 1 ≤ n) (few : n ≤ 2) where
  here : Placed n body.movement body.lane body.approach
  here = let f = fits_parts n body fit in placed n body.movement body.lane from few f.lane f.rule body.approach

  pub row_below : row_of n body < 28
  unfolding row_of
  row_below = here.0

  abbrev r : Route
  r = route n body.approach body.movement body.lane

  abbrev w : ℕ → ℕ
  w = point_word r

  -- the word of a point has the bits of the tiles that are touched from there
  word_bits : (i tile : ℕ) → bit (w i) tile ≡ point_touches n body i tile
  unfolding point_word point_touches last_point_of point_of_path
  word_bits i tile = bit_word 64 (point_touches n r.body i) tile ∙ same_tests (ltb tile 64 && point_touches n body i tile) (point_touches n body i tile)
      (λ e. (and_parts (ltb tile 64) (point_touches n body i tile) e).1)
      (λ e. and_from _ _ (lt-ltb tile 64 (touched_below n body i tile few e)) e)

  up_here : (i : ℕ) → i < 48 → get_or up_table (48 * row_of n body + i) 0 ≡ join_below w (suc i)
  unfolding row_of up_table
  up_here i h = row_at up_row long_up routes (row_of n body) i any here.0 h ∙ ap (λ x. get_or (up_row x) i 0) here.1 ∙ up_entry r i h

  down_here : (i : ℕ) → i < 48 → get_or down_table (48 * row_of n body + i) 0 ≡ join_from w i (48 - i)
  unfolding row_of down_table
  down_here i h = row_at down_row long_down routes (row_of n body) i any here.0 h ∙ ap (λ x. get_or (down_row x) i 0) here.1 ∙ down_entry r i h

  gapless : (i : ℕ) → i < 48 → bit_and (join_below w (suc i)) (join_from w i (48 - i)) ≡ w i
  unfolding whole_row
  gapless i h =
      let whole : whole_row r ≡ true = subst (λ x. whole_row x ≡ true) here.1 (every_row_at routes (place n body.approach body.movement body.lane) any no_gap here.0) in
      let below : i < length (words r 0 48) = omega (arith, long_words r) in
      sym (ap₂ bit_and (up_entry r i h) (down_entry r i h)) ∙ unbroken_at (words r 0 48) (up_row r) (down_row r) i whole below ∙ word_entry r i h

  pub row_tells : (a b tile : ℕ) → a ≤ b → b < 48
      → bit (bit_and (get_or up_table (48 * row_of n body + b) 0) (get_or down_table (48 * row_of n body + a) 0)) tile ≡ points_touch n body a b tile
  row_tells a b tile order within =
      ap₂ (λ x y. bit (bit_and x y) tile) (up_here b within) (down_here a (omega arith))
      ∙ between w tile 48 a b (gapless a (omega arith)) order within
      ∙ some_tests (suc b) (λ i. leb a i && bit (w i) tile) (λ i. leb a i && point_touches n body i tile) (λ i. ap (λ x. leb a i && x) (word_bits i tile))
