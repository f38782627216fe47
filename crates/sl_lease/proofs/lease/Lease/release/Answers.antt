use Rattle.sl_lease.proofs.KnownLaws.{decides}
use Rattle.sl_lease.proofs.lease.Lease.release.Goals as goal
use Rattle.sl_lease.specs.Side.{layout_in, place_of}
use Rattle.sl_trace.specs.Releases.{release_next}
use Rattle.sl_trace.specs.Leases.{last_blocks}
use Rattle.sl_trace.specs.declared.lease.Aim.TheVariants.{Releases}

pub returns-clause-decides : goal.returns-clause-decides
returns-clause-decides c =
    λ named held over ms k.
    decides c.args.side.now c.args.self.now held over ms k Releases (λ x. release_next (place_of c.args.side.now) x c.args.mode c.args.lver) c.within_turn.result c.release_known-next.result
    (c.within_turn.ensures.exact held over (last_blocks (layout_in c.args.side.now) ms))
    (λ stands. c.release_known-next.ensures.exact named held over (last_blocks (layout_in c.args.side.now) ms))
