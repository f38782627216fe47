use Rattle.sl_machine.proofs.NameLaws.{name_added}
use Rattle.sl_machine.proofs.names.add_name.Goals as goal

pub returns : goal.returns
returns c = name_added c.args.name _ _ c.requires.new c.in-Ok.ensures.keys
