use Rattle.sl_safety.proofs.Value.ValueLaws.{one_writes_value}
use Rattle.sl_safety.proofs.laws.value.one_writes_value.Goals as goal

pub returns : goal.returns
returns c = one_writes_value
