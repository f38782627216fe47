use Rattle.sl_sector.proofs.TextLaws.{block_back_written}
use Rattle.sl_sector.proofs.texts.push_block_back.Goals as goal
use Rattle.std.proofs.Common.{◌∙◌}

pub returns : goal.returns
returns c =
    block_back_written c.args.block.now _ _ _ _ _ _ _ _ c.from.ensures (c.from-2.ensures ∙ c.flag.ensures) c.in_ok-push_ballots.ensures c.in_ok-push_labelled.ensures
    c.in_ok-push_behind.ensures c.in_ok-push_labelled-2.ensures c.in_ok-push_behind-2.ensures
