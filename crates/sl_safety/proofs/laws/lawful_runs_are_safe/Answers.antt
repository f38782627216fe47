use Rattle.sl_safety.proofs.RunsAreSafe.{lawful_runs_are_safe}
use Rattle.sl_safety.proofs.laws.lawful_runs_are_safe.Goals as goal

pub returns : goal.returns
returns c = lawful_runs_are_safe
