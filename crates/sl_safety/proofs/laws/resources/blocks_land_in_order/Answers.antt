use Rattle.sl_safety.proofs.GivenReads.LandingOrder.{in_order}
use Rattle.sl_safety.proofs.laws.resources.blocks_land_in_order.Goals as goal

pub returns : goal.returns
returns c = in_order
