use Rattle.std.proofs.Common.{◌≡◌, not, eqb, filter, sym, ap, ◌∙◌, subst}
use Rattle.reservation.specs.Requests.{last_tick_of}
use Rattle.policy.specs.Views.{named, with_ledger}
use Rattle.ledger.specs.Entries.{entries}
use Rattle.ledger.specs.Standings.{other, requests}
use Rattle.ledger.proofs.Requests.{requests-other}
use Rattle.tile_table.specs.Painting.{Painted, covers}
use Rattle.tile_table.specs.Tables.{view_of}
use Rattle.tile_table.proofs.Found.{found_vehicle}
use Rattle.ledger.proofs.Each.{each_kept}
use Rattle.tile_table.proofs.Sound.{Sound, sound_of, sound_released}
use Rattle.tile_table.proofs.table.TileTable.take_out.Goals as goal
use Rattle.tile_table.proofs.table.TileTable.take_out.Goals.{After-remove}

fewer : (c : goal.After-remove) → requests (entries c.remove.new.self) ≡ filter (λ r. not (named c.args.name r)) (requests (entries c.args.self.now.ledger))
fewer c = ap requests c.remove.ensures.after ∙ requests-other c.args.name (entries c.args.self.now.ledger)

pub mark_vehicle-requires : goal.mark_vehicle-requires
mark_vehicle-requires c =
    let s = c.args.self.now in
    found_vehicle s.window.junction c.args.name (requests (entries s.ledger)) s.ranged c.requires

pub invariant_of-self : goal.invariant_of-self
invariant_of-self c =
    let s = c.args.self.now in
    let n = c.args.name in
    let at = (goal.at.invariant_of-self c).After-remove in
    let rs = requests (entries s.ledger) in
    let mid = c.clear_named.new.marks in
    let new = c.mark_vehicle.new.marks in
    let cleared = subst (λ l. Painted s.window.clock (covers (named n) s.window.junction (requests l)) 0 s.marks mid) c.as_slice.ensures.entries c.clear_named.ensures in
    let again = subst (λ l. Painted s.window.clock (covers (λ r. eqb r.vehicle n.vehicle) s.window.junction l) n.vehicle mid new) (ap requests c.as_slice-2.ensures.entries ∙ fewer at) c.mark_vehicle.ensures in
    let sound = subst (λ l. Sound s.window.junction s.window.clock l new) (sym (fewer at))
    (sound_released s.window.junction s.window.clock rs s.marks (sound_of s) n mid new cleared again) in
    record {
      ranged = sound.ranged;
      ending =
          each_kept (λ x. x.last_tick ≡ last_tick_of s.window.junction x.request) (other n) (entries s.ledger) (entries c.remove.new.self) c.remove.ensures.after s.ending;
      ahead = sound.ahead;
      apart = sound.apart;
      agree = sound.agree;
    }

pub returns : goal.returns
returns c = ap (with_ledger (view_of c.args.self.now)) (fewer (goal.at.returns c).After-remove)
