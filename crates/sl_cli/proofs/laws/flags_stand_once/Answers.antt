use Rattle.sl_cli.proofs.LiveFlags as its
use Rattle.sl_cli.proofs.laws.flags_stand_once.Goals as goal

pub returns : goal.returns
returns c = its.flags_stand_once
