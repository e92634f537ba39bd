-- The numbers of a body that fits its junction, and of its path. Assumes nothing.
use Rattle.std.proofs.Common.{◌≡◌, ℕ, zero, suc, ◌+◌, ◌-◌, ◌*◌, ◌/◌, ◌%◌, ◌<◌, ◌≤◌, min, true, sym, ap, ◌∙◌, mul-le-mul_right, suc-mul, div-mul-le_self, arith}
use Rattle.std.specs.Int.{div_ceil}
use Rattle.std.proofs.Math.Nat.{mod-lt}
use Rattle.std.proofs.Math.Arith.{digits_div}
use Rattle.std.proofs.lemmas.Nat.{div_below, div-add-mod', le-div}
use Rattle.std.proofs.lemmas.Bool.Decides.{nat_tests}
use Rattle.grid.specs.declared.kinds.Movement.{Movement}
use Rattle.grid.specs.declared.kinds.Movement.TheVariants.{Left, Through, Right}
use Rattle.grid.specs.declared.kinds.Body.{Body}
use Rattle.grid.specs.Bodies.{fits, Fits}
use Rattle.grid.specs.Paths.{last_of, last_point_of}
use Rattle.grid.specs.Steps.{duration_of}

pub fits_parts : (n : ℕ) (body : Body) → fits n body ≡ true → Fits n body
unfolding fits
fits_parts n body e = record {
  lane = grind (arith, nat_tests);
  rule = grind (arith, nat_tests);
  long = grind (arith, nat_tests);
  short = grind (arith, nat_tests);
  moving = grind (arith, nat_tests);
  slow = grind (arith, nat_tests);
}

last_of_below : (n : ℕ) (m : Movement) → n ≤ 2 → last_of n m ≤ 46
last_of_below n Left few = omega arith
last_of_below n Through few = omega arith
last_of_below n Right few = omega arith

pub last_below : (n : ℕ) (body : Body) → n ≤ 2 → last_point_of n body ≤ 46
unfolding last_point_of
last_below n body few = last_of_below n body.movement few

module _ (n : ℕ) (body : Body) (few : n ≤ 2) (fit : Fits n body) where
  pub lasts_some : 1 ≤ duration_of n body
  unfolding duration_of
  lasts_some =
      le-div 1 (last_point_of n body + body.length + body.speed - 1) body.speed (omega (arith, fit.moving)) (omega (arith, fit.moving, fit.long))

  pub lasts_few : duration_of n body ≤ 39
  unfolding duration_of
  lasts_few =
      let below : (last_point_of n body + body.length + body.speed - 1) / body.speed < 40 =
      div_below (last_point_of n body + body.length + body.speed - 1) body.speed 40 (omega (arith, fit.moving)) (omega (arith, last_below n body few, fit.short, fit.moving)) in
      omega arith

  -- a step of the crossing starts before the rear has left
  pub step_starts : (s : ℕ) → s < duration_of n body → s * body.speed < last_point_of n body + body.length
  unfolding duration_of
  step_starts s below =
      let whole = div-mul-le_self (last_point_of n body + body.length + body.speed - 1) body.speed in
      let steps = mul-le-mul_right body.speed below in
      omega (arith, suc-mul s body.speed, fit.moving)

-- a quotient that the library rounds up is the one that the rules name
ceil_parts : (q r b : ℕ) → r < b → q + min 1 r ≡ (q * b + r + b - 1) / b
ceil_parts q zero b below =
    let sum : q * b + 0 + b - 1 ≡ q * b + (b - 1) = omega arith in
    let none : q + min 1 0 ≡ q = omega arith in
    none ∙ sym (ap (λ n. n / b) sum ∙ digits_div q {m = b} {r = b - 1} (omega arith))
ceil_parts q (suc r) b below =
    let sum : q * b + suc r + b - 1 ≡ (q + 1) * b + r = omega (arith, suc-mul q b) in
    let one : q + min 1 (suc r) ≡ q + 1 = omega arith in
    one ∙ sym (ap (λ n. n / b) sum ∙ digits_div (q + 1) {m = b} {r = r} (omega arith))

pub ceil_is : (a b : ℕ) → 0 < b → div_ceil a b ≡ (a + b - 1) / b
ceil_is a b some = ceil_parts (a / b) (a % b) b (mod-lt a some) ∙ ap (λ n. (n + b - 1) / b) (div-add-mod' a b)
