use Rattle.sl_run_law.proofs.Landing.LandingOrder.{come_in_order}
use Rattle.sl_run_law.proofs.laws.landing.landings_come_in_order.Goals as goal

pub returns : goal.returns
returns c = come_in_order
