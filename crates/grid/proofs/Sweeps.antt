-- The tiles of steps are those of the points between them. Assumes nothing.
use Rattle.std.proofs.Common.{◌≡◌, ℕ, suc, ◌+◌, ◌-◌, ◌*◌, ◌/◌, ◌%◌, ◌<◌, ◌≤◌, min, Bool, true, false, ◌&&◌, ltb, leb, ap, subst, ⊎_elim, mul-le-mul_right, mod-lt, suc-mul, div-add-mod', arith}
use Rattle.std.proofs.lemmas.Nat.{div_below}
use Rattle.std.proofs.lemmas.Bool.{and_from, and_parts, cases_lt, le-leb, leb-true, lt-ltb, ltb-true}
use Rattle.grid.specs.declared.kinds.Body.{Body}
use Rattle.grid.specs.Some.{some}
use Rattle.grid.specs.Bodies.{Fits}
use Rattle.grid.specs.Paths.{half, inside, last_point_of, point_of_path, point_touches, touches}
use Rattle.grid.specs.Steps.{duration_of, passes, points_touch, step_touches, steps_touch}
use Rattle.grid.proofs.Fitting.{last_below, lasts_some}
use Rattle.grid.proofs.Somes.{same_tests, some_at, some_found, some_never, some_same, some_tests}

-- the range of one number
pub some_single : (i : ℕ) (f : ℕ → Bool) → some (suc i) (λ k. leb i k && f k) ≡ f i
some_single i f = same_tests _ (f i)
    (λ e.
    let w = some_found (suc i) (λ k. leb i k && f k) e in
    let parts = and_parts (leb i w.0) (f w.0) w.2 in
    let low = leb-true _ _ parts.0 in
    let same : w.0 ≡ i = omega (arith, w.1) in
    subst (λ k. f k ≡ true) same parts.1)
    (λ e. some_at (suc i) (λ k. leb i k && f k) i (omega arith) (and_from _ _ (le-leb i i (omega arith)) e))

-- the range from 0
pub some_whole : (n : ℕ) (f : ℕ → Bool) → some n (λ k. leb 0 k && f k) ≡ some n f
some_whole n f = some_tests n _ _ (λ k. ap (λ x. x && f k) (le-leb 0 k (omega arith)))

module _ (n : ℕ) (body : Body) (i tile : ℕ) where
  abbrev on_path : Bool
  on_path = leb i (last_point_of n body)

  abbrev touching : Bool
  touching = touches (half body) (point_of_path n body i) tile

  pub touched_point : point_touches n body i tile ≡ true → i ≤ last_point_of n body
  unfolding point_touches
  touched_point e = leb-true _ _ (and_parts on_path touching (and_parts (inside n tile) (on_path && touching) e).1).0

  pub touched_inside : point_touches n body i tile ≡ true → inside n tile ≡ true
  unfolding point_touches
  touched_inside e = (and_parts (inside n tile) (on_path && touching) e).0

  -- a tile of the square has a number below 64
  pub touched_below : n ≤ 2 → point_touches n body i tile ≡ true → tile < 64
  touched_below few e =
      let row = ltb-true (tile / 8) (4 * n) (and_parts (ltb (tile % 8) (4 * n)) (ltb (tile / 8) (4 * n)) (touched_inside e)).1 in
      omega arith

-- a point from which the vehicle touches the tile in step s
pub record Passing (n : ℕ) (body : Body) (s tile : ℕ) : Type 0 where
  pub point : ℕ
  pub step : s < duration_of n body
  pub rear : s * body.speed ≤ point + body.length
  pub front : point < s * body.speed + body.speed
  pub touched : point_touches n body point tile ≡ true

pub step_found : (n : ℕ) (body : Body) (s tile : ℕ) → step_touches n body s tile ≡ true → Passing n body s tile
unfolding step_touches
step_found n body s tile e =
    let on : ℕ → Bool = λ i. passes body s i && point_touches n body i tile in
    let parts = and_parts (ltb s (duration_of n body)) (some (suc (last_point_of n body)) on) e in
    let w = some_found (suc (last_point_of n body)) on parts.1 in
    let both = and_parts (passes body s w.0) (point_touches n body w.0 tile) w.2 in
    let pass = and_parts (leb (s * body.speed) (w.0 + body.length)) (ltb w.0 (s * body.speed + body.speed)) both.0 in
    record {
      point = w.0;
      step = ltb-true _ _ parts.0;
      rear = leb-true _ _ pass.0;
      front = ltb-true _ _ pass.1;
      touched = both.1;
    }

pub step_at : (n : ℕ) (body : Body) (s tile : ℕ) → Passing n body s tile → step_touches n body s tile ≡ true
unfolding step_touches
step_at n body s tile p =
    let last = touched_point n body p.point tile p.touched in
    and_from _ _ (lt-ltb _ _ p.step)
    (some_at (suc (last_point_of n body)) (λ i. passes body s i && point_touches n body i tile) p.point (omega arith)
    (and_from _ _ (and_from _ _ (le-leb _ _ p.rear) (lt-ltb _ _ p.front)) p.touched))

module _ (n : ℕ) (body : Body) (few : n ≤ 2) (fit : Fits n body) (a b tile : ℕ) where
  abbrev v : ℕ
  v = body.speed

  -- the steps that there are, of a to b
  abbrev top : ℕ
  top = min b (duration_of n body - 1)

  abbrev in_steps : ℕ → Bool
  in_steps s = leb a s && step_touches n body s tile

  pub no_steps : top < a → steps_touch n body a b tile ≡ false
  no_steps h = some_never (suc b) in_steps (λ s below e.
      let parts = and_parts _ _ (e) in
      let low = leb-true a s parts.0 in
      let p = step_found n body s tile parts.1 in
      omega (arith, p.step))

  abbrev first : ℕ
  first = a * v - body.length

  abbrev last : ℕ
  last = min (top * v + v - 1) 47

  abbrev in_points : ℕ → Bool
  in_points i = leb first i && point_touches n body i tile

  to_point : (s : ℕ) → s < suc b → in_steps s ≡ true → some (suc last) in_points ≡ true
  to_point s below e =
      let parts = and_parts (leb a s) (step_touches n body s tile) e in
      let low = leb-true a s parts.0 in
      let p = step_found n body s tile parts.1 in
      let under : s ≤ top = omega (arith, p.step) in
      let rising = mul-le-mul_right v low in
      let bounded = mul-le-mul_right v under in
      let end = touched_point n body p.point tile p.touched in
      let within = last_below n body few in
      some_at (suc last) in_points p.point (omega (arith, p.front)) (and_from _ _ (le-leb _ _ (omega (arith, p.rear))) p.touched)

  -- the step in which the front passes the point, or the first one if it came before
  to_step : a ≤ top → (i : ℕ) → i < suc last → in_points i ≡ true → some (suc b) in_steps ≡ true
  to_step order i below e =
      let parts = and_parts (leb first i) (point_touches n body i tile) e in
      let low = leb-true first i parts.0 in
      let some-steps = lasts_some n body few fit in
      let moving = fit.moving in
      let whole = div-add-mod' i v in
      let rest = mod-lt i {m = v} (omega arith) in
      ⊎_elim
      (λ (before : i / v < a).
      let later = mul-le-mul_right v before in
      some_at (suc b) in_steps a (omega arith) (and_from _ _ (le-leb a a (omega arith)) (step_at n body a tile (record {
        point = i;
        step = omega arith;
        rear = omega arith;
        front = omega (arith, suc-mul (i / v) v);
        touched = parts.1;
      }))))
      (λ (after : a ≤ i / v).
      let under : i / v < suc top = div_below i v (suc top) (omega arith) (omega (arith, suc-mul top v)) in
      some_at (suc b) in_steps (i / v) (omega arith) (and_from _ _ (le-leb a (i / v) after) (step_at n body (i / v) tile (record {
        point = i;
        step = omega arith;
        rear = omega arith;
        front = omega arith;
        touched = parts.1;
      }))))
      (cases_lt (i / v) a)

  pub steps_points : a ≤ top → steps_touch n body a b tile ≡ points_touch n body first last tile
  steps_points order = some_same (suc b) (suc last) in_steps in_points to_point (to_step order)
