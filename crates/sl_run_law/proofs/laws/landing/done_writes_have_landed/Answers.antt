use Rattle.sl_run_law.proofs.Landing.LandingLaws.{done_writes_have_landed}
use Rattle.sl_run_law.proofs.laws.landing.done_writes_have_landed.Goals as goal

pub returns : goal.returns
returns c = done_writes_have_landed
