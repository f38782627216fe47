use Rattle.sl_world_law.proofs.DrawsAreKept.{draws_are_kept}
use Rattle.sl_world_law.proofs.drawn_candidates.draws_are_kept.Goals as goal

pub returns : goal.returns
returns c = draws_are_kept
