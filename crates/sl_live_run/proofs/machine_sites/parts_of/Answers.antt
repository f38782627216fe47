-- Nothing but a spawner is handed out.
use Rattle.sl_live_run.proofs.machine_sites.parts_of.Goals as goal
use Rattle.sl_outside.proofs.ActLaws.{grows_between}

pub returns-clause-lendings : goal.returns-clause-lendings
returns-clause-lendings g c = grows_between _ _ _ _ _ c.clocks_of.ensures.lendings c.spawner.ensures.lendings c.device.ensures.lendings
