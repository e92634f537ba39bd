-- Junctions that compare equal are one. Assumes nothing.
use Rattle.std.proofs.Common.{◌≡◌, true, ◌&&◌, nat_eq}
use Rattle.std.proofs.lemmas.Bool.{and_parts, eqb-true}
use Rattle.grid.specs.declared.junction.Junction.{Junction}
use Rattle.grid.proofs.Same.{same_junction}

pub one_junction : (j k : Junction) → (nat_eq j.lanes k.lanes && nat_eq j.buffer k.buffer) ≡ true → j ≡ k
one_junction j k e =
    let same = and_parts (nat_eq j.lanes k.lanes) (nat_eq j.buffer k.buffer) e in
    same_junction j k (eqb-true _ _ same.0) (eqb-true _ _ same.1)
