-- The line's disk is this one.
use Rattle.sl_standing.proofs.AreaLaws.{stands_not_leader}
use Rattle.sl_standing.proofs.areas.check_resource_at.Goals as goal
use Rattle.std.proofs.Common.{rules}

pub returns-then-eq-clause-lacks : goal.returns-then-eq-clause-lacks
returns-then-eq-clause-lacks g c =
    stands_not_leader c.check_resource.result c.args.header.now c.args.path _ _ _ c.args.line.now c.requires.line (search rules) c.check_resource.ensures.lacks
