use Rattle.sl_request.proofs.bitmap.are_bytes.Goals as goal
use Rattle.sl_sector.proofs.ByteLaws.{test_from_bytes}
use Rattle.std.proofs.Common.{refl}

pub returns : goal.returns
returns c = (refl, test_from_bytes c.args.bytes.now (λ i. (c.type_inv.bytes i).fits))
