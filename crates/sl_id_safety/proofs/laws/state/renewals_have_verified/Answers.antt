use Rattle.sl_id_safety.proofs.State.SessionFacts.{renewals_have_verified}
use Rattle.sl_id_safety.proofs.laws.state.renewals_have_verified.Goals as goal

pub returns : goal.returns
returns c = renewals_have_verified
