use Rattle.sl_member.proofs.PartsHear.{parts_hear}
use Rattle.sl_member.proofs.laws.parts_hear.Goals as goal

pub returns : goal.returns
returns c = parts_hear
