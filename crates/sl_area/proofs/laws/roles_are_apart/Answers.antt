use Rattle.sl_area.proofs.RoleLaws.{roles_are_apart}
use Rattle.sl_area.proofs.laws.roles_are_apart.Goals as goal

pub returns : goal.returns
returns c = roles_are_apart
