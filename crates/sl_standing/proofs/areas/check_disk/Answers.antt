-- What was compared last was read of a disk that was as before.
use Rattle.sl_standing.proofs.AreaLaws.{all_standing, if_stands_not}
use Rattle.sl_standing.proofs.areas.check_disk.Goals as goal

pub returns-clause-ok : goal.returns-clause-ok
returns-clause-ok g c =
    all_standing c.check_resources.result c.args.header.now c.args.path _ _ c.in_ok-check_lockspaces.ensures.kept c.in_ok-check_lockspaces.ensures.ok c.check_resources.ensures.ok

pub returns-clause-lacks : goal.returns-clause-lacks
returns-clause-lacks g c =
    if_stands_not c.check_resources.result c.args.header.now c.args.path _ _ _ _ _ c.in_ok-check_lockspaces.ensures.kept c.in_ok-check_lockspaces.ensures.later c.check_resources.ensures.lacks
