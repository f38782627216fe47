use Rattle.sl_lease.proofs.KnownLaws.{decides}
use Rattle.sl_lease.proofs.lease.Lease.convert.Goals as goal
use Rattle.sl_lease.specs.Side.{layout_in}
use Rattle.sl_trace.specs.Conversions.{convert_next}
use Rattle.sl_trace.specs.Leases.{last_blocks}
use Rattle.sl_trace.specs.declared.lease.Aim.TheVariants.{Converts}

pub returns-clause-decides : goal.returns-clause-decides
returns-clause-decides c =
    λ held over ms k.
    decides c.args.side.now c.args.self.now held over ms k (Converts c.args.mode) (λ x. convert_next x c.args.mode c.args.resource) c.within_turn.result c.convert_known-next.result
    (c.within_turn.ensures.exact held over (last_blocks (layout_in c.args.side.now) ms))
    (λ stands. c.convert_known-next.ensures.exact held over (last_blocks (layout_in c.args.side.now) ms))
