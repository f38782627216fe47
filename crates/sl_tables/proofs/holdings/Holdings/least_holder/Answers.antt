use Rattle.indexmap.specs.IndexMap.{get}
use Rattle.sl_tables.proofs.HoldingsStand.{begun_at, from_start, no_holders, none_begun}
use Rattle.sl_tables.proofs.holdings.Holdings.least_holder.Goals as goal
use Rattle.sl_tables.specs.Holdings.{fits, least_holder}
use Rattle.sl_trace.specs.Traces.{same_spot}
use Rattle.std.proofs.Common.{ap, nat_eq, sym, ◌∙◌}

pub least_holder-requires : goal.least_holder-requires
least_holder-requires c = from_start (λ p. fits c.args.sought.now p.1) c.self.inside.held.items

pub least_holder-requires-in-Some : goal.least_holder-requires-in-Some
least_holder-requires-in-Some c =
    begun_at c.args.sought.now (get same_spot c.self.inside.areas) (get nat_eq c.self.inside.processes) c.self.inside.held.items c.in-Some.first c.self.invariant.0.0 c.self.invariant.1.0 (sym c.in-Some.ensures)

pub returns-in-None : goal.returns-in-None
returns-in-None c =
    no_holders c.args.sought.now c.self.inside.held.items
    (none_begun c.args.sought.now (get same_spot c.self.inside.areas) (get nat_eq c.self.inside.processes) c.self.inside.held.items c.self.invariant.0.0 c.self.invariant.1.0 (sym c.in-None.ensures))
    ∙ ap (λ v. least_holder c.args.sought.now v.held) c.self.view_is
