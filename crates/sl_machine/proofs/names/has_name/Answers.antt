use Rattle.sl_machine.proofs.NameLaws.{any_name}
use Rattle.sl_machine.proofs.names.has_name.Goals as goal
use Rattle.std.proofs.Common.{◌∙◌}

pub returns : goal.returns
returns c = c.contains.ensures ∙ any_name c.args.names.now c.args.name
