use Rattle.sl_lease.proofs.KnownLaws.{decides}
use Rattle.sl_lease.proofs.lease.Lease.settle.Goals as goal
use Rattle.sl_lease.specs.Side.{layout_in, place_of}
use Rattle.sl_trace.specs.LeaseDecisions.{settle_begin}
use Rattle.sl_trace.specs.Leases.{last_blocks}
use Rattle.sl_trace.specs.declared.lease.Aim.TheVariants.{Settles}

pub returns-clause-decides : goal.returns-clause-decides
returns-clause-decides c =
    λ over ms k.
    decides c.args.side.now c.args.self.now c.args.held over ms k Settles (λ x. settle_begin (place_of c.args.side.now) x) c.within_turn.result c.settle_first-next.result
    (c.within_turn.ensures.exact c.args.held over (last_blocks (layout_in c.args.side.now) ms))
    (λ stands. c.settle_first-next.ensures.exact over (last_blocks (layout_in c.args.side.now) ms) stands)
