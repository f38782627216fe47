use Rattle.sl_request.proofs.laws.bits_in_order.Goals as goal
use Rattle.sl_request.proofs.OrderFacts.{bits_in_order}

pub returns : goal.returns
returns c = bits_in_order
