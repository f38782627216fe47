-- Each element of a list of bytes is one.
use Rattle.sl_label.proofs.label.are_bytes.Goals as goal
use Rattle.sl_sector.proofs.ByteLaws.{test_from_bytes}

pub returns : goal.returns
returns c = test_from_bytes c.args.bytes.now (λ i. (c.type_inv.bytes i).fits)
