use Rattle.sl_generate.proofs.GeneratedIsPlain.{generated_is_plain}
use Rattle.sl_generate.proofs.laws.generated_is_plain.Goals as goal

pub returns : goal.returns
returns c = generated_is_plain
