use Rattle.sl_safety.proofs.Value.ValueLaws.{holders_keep_values}
use Rattle.sl_safety.proofs.laws.value.holders_keep_values.Goals as goal

pub returns : goal.returns
returns c = holders_keep_values
