use Rattle.sl_lease.proofs.KnownLaws.{read_decides}
use Rattle.sl_lease.proofs.lease.Lease.after_read.Goals as goal

pub returns-clause-decides : goal.returns-clause-decides
returns-clause-decides g c =
    λ call n bytes ms named k is.
    read_decides c.args.side.now c.args.self.now c.args.held (g.E.Evidence.over c.args.evidence.now) ms k c.args.aim call n bytes c.args.step c.args.leader.now c.args.read.now
    c.within_turn.result c.read_next-next.result is
    (c.within_turn.ensures.exact c.args.held (g.E.Evidence.over c.args.evidence.now) c.args.read.now)
    (λ stands. c.read_next-next.ensures.exact named stands)
