use Rattle.sl_run_law.proofs.Course.DaemonNamesApart.{daemon_names_are_apart}
use Rattle.sl_run_law.proofs.laws.premises.daemon_names_are_apart.Goals as goal

pub returns : goal.returns
returns c = daemon_names_are_apart
