use Rattle.sl_request.proofs.laws.set_changes_one.Goals as goal
use Rattle.sl_request.proofs.BitmapFacts.{set_changes_one}

pub returns : goal.returns
returns c = set_changes_one
