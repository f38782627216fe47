use Rattle.sl_safety.proofs.Torn.TornBlocksNamed.{torn_blocks_are_named}
use Rattle.sl_safety.proofs.laws.pairs_have_blocks.torn_blocks_are_named.Goals as goal

pub returns : goal.returns
returns c = torn_blocks_are_named
