-- The laws of the next number, for functions that compute it.
use Rattle.sl_ballot.proofs.NumberLaws.{next_mbal-seen, next_mbal-top}

pub ruleset above = (next_mbal-top)

pub ruleset above_seen = (next_mbal-seen)
