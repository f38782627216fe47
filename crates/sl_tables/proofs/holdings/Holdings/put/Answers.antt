use Rattle.indexmap.specs.IndexMap.{get, spare}
use Rattle.sl_tables.proofs.HoldingsStand.{index_push}
use Rattle.sl_tables.proofs.holdings.Holdings.put.Goals as goal
use Rattle.sl_tables.specs.SpotsCompare.{spot_equiv}
use Rattle.sl_trace.specs.Traces.{same_spot, spot_of_grant}
use Rattle.std.proofs.Common.{nat_eq, refl, subst, sym, ◌<◌, ◌∙◌}
use Rattle.std.specs.Cmp.{nat_eq_equiv}

pub invariant_of-self : goal.invariant_of-self
invariant_of-self c =
    let held = c.self.inside.held in
    let n = c.next-number.result in
    let room = subst (λ v. 0 < v.room) (sym c.self.view_is) c.requires.room in (
      index_push same_spot spot_equiv spot_of_grant (get same_spot c.self.inside.areas) (get same_spot c.note_first.new.firsts) (spare c.self.inside.areas) (spare c.note_first.new.firsts) held c.put.new.self n c.args.grant c.at.result
          (c.at.ensures ∙ c.area_of.ensures) c.next-number.ensures c.put.ensures.state room c.note_first.ensures.room c.note_first.ensures.firsts c.self.invariant.0,
      index_push nat_eq nat_eq_equiv (λ g. g.process) (get nat_eq c.self.inside.processes) (get nat_eq c.note_first-2.new.firsts) (spare c.self.inside.processes) (spare c.note_first-2.new.firsts) held c.put.new.self n c.args.grant c.args.grant.process
          refl c.next-number.ensures c.put.ensures.state room c.note_first-2.ensures.room c.note_first-2.ensures.firsts c.self.invariant.1,
    )
