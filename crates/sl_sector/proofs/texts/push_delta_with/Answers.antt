use Rattle.sl_sector.proofs.TextLaws.{delta_line}
use Rattle.sl_sector.proofs.texts.push_delta_with.Goals as goal

pub returns : goal.returns
returns c = delta_line c.args.delta.now _ _ _ _ _ _ _ c.in_ok-push_delta_front.ensures c.host_word.ensures c.requires c.in_ok-push_word.ensures c.in_ok-push_delta_back.ensures c.in_ok-push_bits.ensures
