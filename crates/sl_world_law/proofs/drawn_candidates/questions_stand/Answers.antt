use Rattle.sl_world_law.proofs.DrawsAreKept.{questions_stand}
use Rattle.sl_world_law.proofs.drawn_candidates.questions_stand.Goals as goal

pub returns : goal.returns
returns c = questions_stand
