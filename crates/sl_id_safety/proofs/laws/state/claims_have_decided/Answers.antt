use Rattle.sl_id_safety.proofs.State.SessionFacts.{claims_have_decided}
use Rattle.sl_id_safety.proofs.laws.state.claims_have_decided.Goals as goal

pub returns : goal.returns
returns c = claims_have_decided
