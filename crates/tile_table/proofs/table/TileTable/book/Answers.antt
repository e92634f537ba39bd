use Rattle.std.proofs.Common.{◌≡◌, true, [], ◌∷◌, ◌++◌, sym, ap, ◌∙◌, subst}
use Rattle.reservation.specs.Cells.{has}
use Rattle.reservation.specs.Requests.{in_range, last_tick_of}
use Rattle.ledger.specs.Entries.{entries}
use Rattle.ledger.specs.Standings.{requests}
use Rattle.ledger.proofs.Requests.{requests-append}
use Rattle.tile_table.specs.Painting.{Painted}
use Rattle.tile_table.specs.Tables.{standing_of}
use Rattle.ledger.proofs.Each.{each_more}
use Rattle.tile_table.proofs.Sound.{Sound, sound_asked, sound_of}
use Rattle.tile_table.proofs.table.TileTable.book.Goals as goal
use Rattle.tile_table.proofs.table.TileTable.book.Goals.{After-enter}

more : (c : goal.After-enter) → requests (entries c.enter.new.ledger) ≡ requests (entries c.args.self.now.ledger) ++ c.args.footprint.now.request ∷ []
more c = ap requests c.enter.ensures.entries ∙ requests-append (entries c.args.self.now.ledger) (standing_of c.args.footprint.now ∷ [])

pub invariant_of-self : goal.invariant_of-self
invariant_of-self c =
    let s = c.args.self.now in
    let f = c.args.footprint.now in
    let rs = requests (entries s.ledger) in
    let new = c.enter.new.marks in
    let painted = subst (λ j. Painted s.window.clock (has j f.request) f.request.vehicle s.marks new) c.requires.one c.enter.ensures.marks in
    let in_range = subst (λ j. in_range j f.request ≡ true) c.requires.one f.ranged in
    let sound = subst (λ l. Sound s.window.junction s.window.clock l new) (sym (more (goal.at.invariant_of-self c).After-enter))
    (sound_asked s.window.junction s.window.clock rs s.marks (sound_of s) f.request in_range c.requires.time c.requires.alone new painted) in
    let ends : last_tick_of f.junction f.request ≡ last_tick_of s.window.junction f.request = ap (λ j. last_tick_of j f.request) c.requires.one in
    record {
      ranged = sound.ranged;
      ending =
          each_more (λ x. x.last_tick ≡ last_tick_of s.window.junction x.request) (entries s.ledger) (entries c.enter.new.ledger) (standing_of f)
          c.enter.ensures.entries s.ending ends;
      ahead = sound.ahead;
      apart = sound.apart;
      agree = sound.agree;
    }
