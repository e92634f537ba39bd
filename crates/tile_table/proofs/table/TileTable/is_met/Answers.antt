use Rattle.std.proofs.Common.{sym, subst}
use Rattle.std.proofs.lemmas.Bool.{both_ways}
use Rattle.ledger.specs.Entries.{entries}
use Rattle.ledger.specs.Standings.{requests}
use Rattle.tile_table.specs.Painting.{Foreign}
use Rattle.tile_table.proofs.Sound.{nobody, sound_of}
use Rattle.tile_table.proofs.table.TileTable.is_met.Goals as goal

pub returns : goal.returns
returns c none =
    let s = c.args.self.now in
    let f = c.args.footprint.now in
    nobody s.window.junction s.window.clock (requests (entries s.ledger)) s.marks (sound_of s) f.request c.requires.time
    (λ w. both_ways _ none (c.meets_other.ensures.1 (subst (λ j. Foreign s.marks j f.request f.request.vehicle) (sym c.requires.one) w)))
