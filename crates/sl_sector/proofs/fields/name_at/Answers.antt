use Rattle.sl_sector.proofs.RuleLaws.{chosen_read}
use Rattle.sl_sector.proofs.fields.name_at.Goals as goal

pub returns : goal.returns
returns c = chosen_read c.args.at _ _ c.name_in.result c.ok_or.result c.name_in.ensures c.ok_or.ensures.value
