use Rattle.sl_request.proofs.laws.clear_changes_one.Goals as goal
use Rattle.sl_request.proofs.BitmapFacts.{clear_changes_one}

pub returns : goal.returns
returns c = clear_changes_one
