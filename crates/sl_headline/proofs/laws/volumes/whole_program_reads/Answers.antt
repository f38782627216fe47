use Rattle.sl_headline.proofs.Volumes.WholeProgramReads.{whole_program_reads}
use Rattle.sl_headline.proofs.laws.volumes.whole_program_reads.Goals as goal

pub returns : goal.returns
returns c = whole_program_reads
