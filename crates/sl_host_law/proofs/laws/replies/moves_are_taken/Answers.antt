use Rattle.sl_host_law.proofs.Replies.MovesAreTaken as its
use Rattle.sl_host_law.proofs.laws.replies.moves_are_taken.Goals as goal

pub returns : goal.returns
returns c = its.moves_are_taken
