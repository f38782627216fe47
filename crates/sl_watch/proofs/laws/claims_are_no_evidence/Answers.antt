use Rattle.sl_watch.proofs.SightingLaws.{claims_are_no_evidence}
use Rattle.sl_watch.proofs.laws.claims_are_no_evidence.Goals as goal

pub returns : goal.returns
returns c = claims_are_no_evidence
