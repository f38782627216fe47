use Rattle.sl_host_law.proofs.Steps.SettlingsWake.{wakes_follow}
use Rattle.sl_host_law.proofs.laws.steps.wakes_follow.Goals as goal

pub returns : goal.returns
returns c = wakes_follow
