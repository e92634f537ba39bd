use Rattle.std.proofs.Common.{◌≡◌, ◌+◌, List, sym, ap, ◌∙◌, subst}
use Rattle.reservation.specs.declared.request.Request.{Request}
use Rattle.reservation.specs.Requests.{last_tick_of}
use Rattle.policy.specs.Views.{View, lasting}
use Rattle.ledger.specs.Entries.{entries}
use Rattle.ledger.specs.Standings.{lasts, requests}
use Rattle.ledger.proofs.Requests.{requests_lasting}
use Rattle.ledger.proofs.Each.{each_kept}
use Rattle.tile_table.proofs.Sound.{Sound, sound_advanced, sound_of}
use Rattle.tile_table.proofs.table.TileTable.move_on.Goals as goal
use Rattle.tile_table.proofs.table.TileTable.move_on.Goals.{After-pass_tick}

fewer : (c : goal.After-pass_tick) → requests (entries c.pass_tick.new.ledger) ≡ lasting c.args.self.now.window.junction (c.args.self.now.window.clock + 1) (requests (entries c.args.self.now.ledger))
fewer c =
    let s = c.args.self.now in
    ap requests c.pass_tick.ensures.entries ∙ requests_lasting (last_tick_of s.window.junction) (s.window.clock + 1) (entries s.ledger) s.ending

pub invariant_of-self-2 : goal.invariant_of-self-2
invariant_of-self-2 c =
    let s = c.args.self.now in
    let at = (goal.at.invariant_of-self-2 c).After-pass_tick in
    let new = c.pass_tick.new.marks in
    let sound = subst (λ l. Sound s.window.junction (s.window.clock + 1) l new) (sym (fewer at))
    (sound_advanced s.window.junction s.window.clock (requests (entries s.ledger)) s.marks (sound_of s) new c.pass_tick.ensures.here c.pass_tick.ensures.others) in
    record {
      ranged = sound.ranged;
      ending =
          each_kept (λ x. x.last_tick ≡ last_tick_of s.window.junction x.request) (lasts (s.window.clock + 1)) (entries s.ledger) (entries c.pass_tick.new.ledger) c.pass_tick.ensures.entries s.ending;
      ahead = sound.ahead;
      apart = sound.apart;
      agree = sound.agree;
    }

pub returns : goal.returns
returns c =
    let s = c.args.self.now in
    let later : List Request → View = λ l. record { junction = s.window.junction; clock = s.window.clock + 1; ledger = l } in
    ap later (fewer (goal.at.returns c).After-pass_tick)
