use Rattle.sl_lease.proofs.KnownLaws.{write_decides}
use Rattle.sl_lease.proofs.lease.Lease.after_write.Goals as goal
use Rattle.sl_lease.specs.Side.{layout_in}
use Rattle.sl_trace.specs.Leases.{last_blocks}

pub returns-clause-decides : goal.returns-clause-decides
returns-clause-decides c =
    λ call over ms named k.
    write_decides c.args.side.now c.args.self.now c.args.held over ms k c.args.aim call c.args.n c.args.step c.within_turn.result c.write_next-next.result
    (c.within_turn.ensures.exact c.args.held over (last_blocks (layout_in c.args.side.now) ms))
    (λ stands. c.write_next-next.ensures.exact named over (last_blocks (layout_in c.args.side.now) ms) stands)
