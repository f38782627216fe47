use Rattle.sl_host_law.proofs.Answers.SettlingsMay as its
use Rattle.sl_host_law.proofs.laws.answers.settlings_may.Goals as goal

pub returns : goal.returns
returns c = its.settlings_may
