use Rattle.sl_world_law.proofs.RefusalCases.{refusals_are_kept}
use Rattle.sl_world_law.proofs.refusals.refusals_are_kept.Goals as goal

pub returns : goal.returns
returns c = refusals_are_kept
