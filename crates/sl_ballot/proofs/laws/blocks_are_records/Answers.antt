use Rattle.sl_ballot.proofs.RecordLaws.{blocks_are_records}
use Rattle.sl_ballot.proofs.laws.blocks_are_records.Goals as goal

pub returns : goal.returns
returns c = blocks_are_records
