use Rattle.sl_run_law.proofs.Sample.SampleLaws.{samples_come_in_order}
use Rattle.sl_run_law.proofs.laws.sample.samples_come_in_order.Goals as goal

pub returns : goal.returns
returns c = samples_come_in_order
