-- What is known of every path. Assumes nothing.
use Rattle.std.proofs.Common.{ℕ, ◌+◌, ◌*◌, ◌<◌, ◌≤◌, arith}
use Rattle.grid.specs.declared.path.Path.{Path}
use Rattle.grid.specs.Bodies.{Fits}
use Rattle.grid.proofs.Fitting.{fits_parts, last_below, lasts_some, lasts_few, step_starts}
use Rattle.grid.proofs.Rows.{row_below}

pub record Known (p : Path) : Type 0 where
  pub lanes : p.junction.lanes ≤ 2
  pub fit : Fits p.junction.lanes p.body
  pub last : p.last_point ≤ 46
  pub row : p.row < 28
  pub some : 1 ≤ p.duration
  pub few : p.duration ≤ 39
  pub slow : p.body.speed ≤ 8
  pub moving : 2 ≤ p.body.speed
  pub starts : (s : ℕ) → s < p.duration → s * p.body.speed < p.last_point + p.body.length

pub known : (p : Path) → Known p
known p =
    let n = p.junction.lanes in
    let lanes : n ≤ 2 = p.junction.few in
    let fit = fits_parts n p.body p.fitting in
    let ends = p.ends in
    let lasts = p.lasts in
    let stands = p.stands in
    record {
      lanes = lanes;
      fit = fit;
      last = omega (arith, last_below n p.body lanes);
      row = omega (arith, row_below n p.body p.fitting p.junction.some lanes);
      some = omega (arith, lasts_some n p.body lanes fit);
      few = omega (arith, lasts_few n p.body lanes fit);
      slow = fit.slow;
      moving = fit.moving;
      starts = λ s below. omega (arith, step_starts n p.body lanes fit s (omega arith));
    }
