-- The laws, with what the crates below prove of ids, names and ballots.
use Rattle.sl_safety.proofs.Ballot.EndedAll.{ended_ballots_end}
use Rattle.sl_safety.proofs.Grant.ExclusiveGrants.{IsToldOf, exclusive_grants_are_given}
use Rattle.sl_safety.proofs.Grant.ExclusivesAreKept.{exclusives_are_kept_given}
use Rattle.sl_safety.proofs.Grant.SharedHoldings.{shared_are_shared_given, shared_are_under_given}
use Rattle.sl_safety.specs.Grant.HistoryGrants.{ExclusiveGrantsAre, ExclusivesAreKept, SharedAreShared, SharedAreUnder}
use Rattle.sl_safety.proofs.Sessions.NamesAreApart.{joined_are_hosts, names_are_apart}

told_of : IsToldOf
told_of = record { names = names_are_apart; hosts = joined_are_hosts; ended = ended_ballots_end }

pub exclusive_grants_are : ExclusiveGrantsAre
exclusive_grants_are = exclusive_grants_are_given told_of

pub exclusives_are_kept : ExclusivesAreKept
exclusives_are_kept = exclusives_are_kept_given told_of

pub shared_are_shared : SharedAreShared
shared_are_shared = shared_are_shared_given told_of

pub shared_are_under : SharedAreUnder
shared_are_under = shared_are_under_given told_of
