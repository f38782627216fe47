use Rattle.sl_step_law.proofs.CallsAsk as its
use Rattle.sl_step_law.proofs.laws.calls_ask.Goals as goal

pub returns : goal.returns
returns c = its.calls_ask
