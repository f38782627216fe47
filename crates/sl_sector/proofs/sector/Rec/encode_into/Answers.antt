use Rattle.sl_sector.specs.Records.{IsRecord}
use Rattle.std.proofs.Common.{subst}
use Rattle.sl_sector.proofs.sector.Rec.encode_into.Goals as goal

pub encode_into-requires-clause-rules : goal.encode_into-requires-clause-rules
encode_into-requires-clause-rules c = subst IsRecord c.in-DeltaIs.is c.requires.rules

pub encode_into-requires-in-LeaderIs-clause-rules : goal.encode_into-requires-in-LeaderIs-clause-rules
encode_into-requires-in-LeaderIs-clause-rules c = subst IsRecord c.in-LeaderIs.is c.requires.rules

pub encode_into-requires-in-BlockIs-clause-rules : goal.encode_into-requires-in-BlockIs-clause-rules
encode_into-requires-in-BlockIs-clause-rules c = subst IsRecord c.in-BlockIs.is c.requires.rules

pub encode_into-requires-in-RequestIs-clause-rules : goal.encode_into-requires-in-RequestIs-clause-rules
encode_into-requires-in-RequestIs-clause-rules c = subst IsRecord c.in-RequestIs.is c.requires.rules

pub encode_into-requires-in-ValueIs-clause-rules : goal.encode_into-requires-in-ValueIs-clause-rules
encode_into-requires-in-ValueIs-clause-rules c = subst IsRecord c.in-ValueIs.is c.requires.rules

pub encode_into-requires-in-PairIs-clause-rules : goal.encode_into-requires-in-PairIs-clause-rules
encode_into-requires-in-PairIs-clause-rules c = subst IsRecord c.in-PairIs.is c.requires.rules

pub encode_paired_into-requires-clause-rules : goal.encode_paired_into-requires-clause-rules
encode_paired_into-requires-clause-rules c = subst IsRecord c.in-PairLeaderIs.is c.requires.rules
