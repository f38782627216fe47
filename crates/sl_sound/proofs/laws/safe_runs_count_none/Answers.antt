use Rattle.sl_sound.proofs.GrantsUncounted.{safe_runs_count_none}
use Rattle.sl_sound.proofs.laws.safe_runs_count_none.Goals as goal

pub returns : goal.returns
returns c = safe_runs_count_none
