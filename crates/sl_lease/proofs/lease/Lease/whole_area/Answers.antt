use Rattle.sl_lease.proofs.lease.Lease.whole_area.Goals as goal
use Rattle.sl_lease.specs.Side.{known_with, place_of}
use Rattle.sl_trace.specs.LeaseDecisions.{LeasePlace, begin_or_refuse}
use Rattle.sl_trace.specs.Leases.{LeaseKnown, instance_for}
use Rattle.sl_trace.specs.declared.lease.LeaseNext.TheVariants.{Nothing}
use Rattle.std.proofs.Common.{ap, sym, ◌∙◌}
use Rattle.std.specs.Option.{option_map_or}

pub returns-in-Begins-clause-exact : goal.returns-in-Begins-clause-exact
returns-in-Begins-clause-exact g c =
    let p : LeasePlace = place_of c.args.side.now in
    let k : LeaseKnown = known_with c.args.side.now c.args.self.now c.args.held (g.E.Evidence.over c.args.evidence.now) c.args.read.now in
    c.begin.ensures.exact (g.E.Evidence.over c.args.evidence.now)
    ∙ ap (λ i. begin_or_refuse p k c.args.aim i) (sym c.in-Begins.is ∙ c.instance_for.ensures.exact)
    ∙ ap (λ o. option_map_or (λ own. begin_or_refuse p k c.args.aim (instance_for k c.args.leader.now own c.args.read.now)) o Nothing)
    (sym c.in-Some.is ∙ c.own_known.ensures.exact)
