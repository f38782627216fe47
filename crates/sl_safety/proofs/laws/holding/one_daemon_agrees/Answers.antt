use Rattle.sl_safety.proofs.Holding.OneDaemonAgrees.{one_daemon_agrees}
use Rattle.sl_safety.proofs.laws.holding.one_daemon_agrees.Goals as goal

pub returns : goal.returns
returns c = one_daemon_agrees
