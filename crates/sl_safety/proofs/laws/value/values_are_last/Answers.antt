use Rattle.sl_safety.proofs.Value.ValueLaws.{values_are_last}
use Rattle.sl_safety.proofs.laws.value.values_are_last.Goals as goal

pub returns : goal.returns
returns c = values_are_last
