use Rattle.std.proofs.Common.{◌&&◌, ◌∙◌, ap₂}
use Rattle.grid.proofs.Somes.{some_tests}
use Rattle.reservation.proofs.footprint.Footprint.share_at.Goals as goal

pub returns : goal.returns
returns c =
    c.meets.ensures.answer
    ∙ some_tests 64 _ _ (λ tile. ap₂ ◌&&◌ (c.tiles_at.ensures.cells tile) (c.tiles_at-2.ensures.cells tile))
