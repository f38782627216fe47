use Rattle.sl_safety.proofs.RunsAreSafe.{invariants_hold}
use Rattle.sl_safety.proofs.laws.invariants_hold.Goals as goal

pub returns : goal.returns
returns c = invariants_hold
