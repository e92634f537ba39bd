-- Junctions of as many lanes and the same buffer are one. Assumes nothing.
use Rattle.std.proofs.Common.{◌≡◌, ◌≤◌}
use mathlib.Core.HLevel.{is_prop→PathP}
use native.Mathlib.Bridge.{le_prop}
use Rattle.grid.specs.declared.junction.Junction.{Junction}

pub same_junction : (j k : Junction) → j.lanes ≡ k.lanes → j.buffer ≡ k.buffer → j ≡ k
same_junction j k p q = λ i. record {
  lanes = p i;
  buffer = q i;
  some = is_prop→PathP (λ x. 1 ≤ p x) (λ x. le_prop) j.some k.some i;
  few = is_prop→PathP (λ x. p x ≤ 2) (λ x. le_prop) j.few k.few i;
  short = is_prop→PathP (λ x. q x ≤ 4) (λ x. le_prop) j.short k.short i;
}
