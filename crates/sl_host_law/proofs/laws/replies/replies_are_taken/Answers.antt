use Rattle.sl_host_law.proofs.Replies.RepliesAreTaken.RepliesKeepHosts as its
use Rattle.sl_host_law.proofs.laws.replies.replies_are_taken.Goals as goal

pub returns : goal.returns
returns c = its.replies_are_taken
