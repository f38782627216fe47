use Rattle.sl_run_law.proofs.Sample.SampleLaws.{done_reads_are_whole}
use Rattle.sl_run_law.proofs.laws.sample.done_reads_are_whole.Goals as goal

pub returns : goal.returns
returns c = done_reads_are_whole
