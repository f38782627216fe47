-- The header has the clock's reading.
use Rattle.sl_own.proofs.GroundLaws.{own_header, own_same}
use Rattle.sl_own.proofs.ground.start_of.Goals as goal

pub returns-clause-lawful : goal.returns-clause-lawful
returns-clause-lawful g c =
    own_header c.args.header c.in_ok-header.header c.args.machine c.read_once-reading.result _ c.requires.header c.requires.machine c.read_once-reading.ensures c.in_ok-header.ensures

pub returns-clause-same : goal.returns-clause-same
returns-clause-same g c = own_same c.args.header c.in_ok-header.header _ c.in_ok-header.ensures
