use Rattle.sl_run_law.proofs.Sample.SampleLaws.{samples_are_landings}
use Rattle.sl_run_law.proofs.laws.sample.samples_are_landings.Goals as goal

pub returns : goal.returns
returns c = samples_are_landings
