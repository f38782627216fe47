-- The laws of this crate, over those of the crates below.
use Rattle.sl_run_law.proofs.Course.CallsAreDistinct.{calls_are_distinct}
use Rattle.sl_run_law.proofs.Landing.WholeSectors.{are_sectors}
use Rattle.sl_run_law.proofs.Sample.SamplesAreLandings.{done_reads_are_whole_given, sampled_are_sectors_given, samples_are_landings_given, samples_come_in_order_given}
use Rattle.sl_run_law.specs.Sample.Samples.{DoneReadsAreWhole, SampledAreSectors, SamplesAreLandings, SamplesComeInOrder}

pub samples_are_landings : SamplesAreLandings
samples_are_landings = samples_are_landings_given calls_are_distinct are_sectors

pub sampled_are_sectors : SampledAreSectors
sampled_are_sectors = sampled_are_sectors_given calls_are_distinct are_sectors

pub done_reads_are_whole : DoneReadsAreWhole
done_reads_are_whole = done_reads_are_whole_given calls_are_distinct are_sectors

pub samples_come_in_order : SamplesComeInOrder
samples_come_in_order = samples_come_in_order_given calls_are_distinct are_sectors
