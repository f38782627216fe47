-- Sets of lemmas.
use Rattle.sl_ballot.proofs.ReadLaws.{ballot_blocks-by_place, torn_host-by_place}

pub ruleset by_place = (ballot_blocks-by_place)

pub ruleset torn = (torn_host-by_place)
