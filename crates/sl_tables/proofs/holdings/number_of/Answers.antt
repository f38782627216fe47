use Rattle.indexmap.specs.IndexMap.{get}
use Rattle.sl_tables.proofs.HoldingsStand.{begun_at, from_start, none_begun}
use Rattle.sl_tables.proofs.holdings.number_of.Goals as goal
use Rattle.sl_tables.specs.Holdings.{fits}
use Rattle.sl_trace.specs.Traces.{same_spot}
use Rattle.std.proofs.Common.{ap, nat_eq, option_map, sym}

pub seek-requires : goal.seek-requires
seek-requires c = from_start (λ p. fits c.args.sought.now p.1) c.args.held.now.items

pub seek-requires-in-Some : goal.seek-requires-in-Some
seek-requires-in-Some c =
    begun_at c.args.sought.now (get same_spot c.args.areas.now) (get nat_eq c.args.processes.now) c.args.held.now.items c.in-Some.first c.requires.areas c.requires.processes (sym c.in-Some.ensures)

pub returns-in-None : goal.returns-in-None
returns-in-None c =
    sym
    (ap (λ o. option_map (λ p. p.0) o)
    (none_begun c.args.sought.now (get same_spot c.args.areas.now) (get nat_eq c.args.processes.now) c.args.held.now.items c.requires.areas c.requires.processes (sym c.in-None.ensures)))
