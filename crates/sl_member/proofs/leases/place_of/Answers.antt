use Rattle.sl_member.proofs.LeasesByPlace.{is_low, low_parts, place_from_parts}
use Rattle.sl_member.proofs.leases.place_of.Goals as goal
use Rattle.std.proofs.Common.{rules}
use Rattle.std.proofs.lemmas.List.Sorted.{IsPartitionPoint-from_clause}

pub returns-clause-place : goal.returns-clause-place
returns-clause-place c =
    let at = c.args.at.now in
    let ls = c.args.leases.now in
    place_from_parts at ls _ c.partition_point.ensures.bound
    (IsPartitionPoint-from_clause (is_low at) ls _ c.partition_point.ensures.partitioned (low_parts at ls c.requires) (λ a r f' called. search rules))
