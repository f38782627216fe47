use Rattle.sl_trace.proofs.TraceFacts.{reply_to-more}
use Rattle.sl_trace.proofs.laws.replies_stay.Goals as goal

pub returns : goal.returns
returns c = λ es e job r h. reply_to-more e es job r h
