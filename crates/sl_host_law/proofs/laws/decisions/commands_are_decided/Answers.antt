use Rattle.sl_host_law.proofs.Decisions.CommandsAreDecided as its
use Rattle.sl_host_law.proofs.laws.decisions.commands_are_decided.Goals as goal

pub returns : goal.returns
returns c = its.commands_are_decided
