use Rattle.std.proofs.Common.{refl}
use Rattle.ticking.proofs.turning.turned.Goals as goal

pub returns : goal.returns
returns c = λ f. record { body = refl; first = refl; arrival = refl; used = refl; heard = refl; distance = cc; state = c.state_after.ensures f }
