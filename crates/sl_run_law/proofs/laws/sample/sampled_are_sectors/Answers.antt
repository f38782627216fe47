use Rattle.sl_run_law.proofs.Sample.SampleLaws.{sampled_are_sectors}
use Rattle.sl_run_law.proofs.laws.sample.sampled_are_sectors.Goals as goal

pub returns : goal.returns
returns c = sampled_are_sectors
