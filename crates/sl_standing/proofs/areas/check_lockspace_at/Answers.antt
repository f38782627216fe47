-- The line's disk is this one.
use Rattle.sl_standing.proofs.AreaLaws.{stands_not_label}
use Rattle.sl_standing.proofs.areas.check_lockspace_at.Goals as goal
use Rattle.std.proofs.Common.{rules}

pub returns-then-eq-clause-lacks : goal.returns-then-eq-clause-lacks
returns-then-eq-clause-lacks g c =
    stands_not_label c.check_lockspace.result c.args.header.now c.args.path _ _ _ c.args.line.now c.requires.line (search rules) c.check_lockspace.ensures.lacks
