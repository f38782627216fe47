use Rattle.sl_due_facts.proofs.Connections.WatchdogIsLawful as its
use Rattle.sl_due_facts.proofs.laws.connections.watchdog_is_lawful.Goals as goal

pub returns : goal.returns
returns c = its.watchdog_is_lawful
