use Rattle.std.proofs.Common.{◌∙◌, rules, tests}
use Rattle.std.proofs.lemmas.Iterator.Adapters.{YieldsList-from_rev_slice}
use Rattle.std.proofs.lemmas.Iterator.Search.{find_from_yields_List}
use Rattle.run.specs.Worlds.{is_of_lane}
use Rattle.vehicle_calls.proofs.LastIn.{found_last}
use Rattle.vehicle_calls.proofs.lanes.last_in.Goals as goal

pub returns : goal.returns
returns c =
    c.copied.ensures
    ∙ find_from_yields_List (is_of_lane c.args.lane) _ _ c.find.result c.find.ensures.ran (YieldsList-from_rev_slice c.args.rows.now cc)
    (λ x b q k. search (rules, tests))
    ∙ found_last c.args.lane c.args.rows.now
