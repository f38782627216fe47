-- A session that works on a resource has a host's id.
use Rattle.sl_safety.specs.Ballot.Endings.{HostsJoin}
use Rattle.sl_safety.proofs.GivenReads.BlocksNameHosts.{own_host}
use Rattle.sl_safety.proofs.Resources.CallParts.{Standing}
use Rattle.sl_safety.specs.Resources.Histories.{is_host}
use Rattle.sl_safety.specs.Resources.SentCalls.{Sent, is_joined_there, sender_of}
use Rattle.sl_run.specs.Worlds.{World}
use Rattle.std.proofs.Common.{ap, sym, ◌∙◌}
use Rattle.std.specs.Prelude.{List, true, ℕ, ◌≡◌}

-- The session of a call of a joined session has a host's id.
pub host_there : (w : World) (lockspace : List ℕ) → HostsJoin w lockspace → (x : Sent) (s : Standing w x) → is_joined_there w lockspace (sender_of x) ≡ true
    → is_host w s.session.id ≡ true
host_there w lockspace hosts x s joined = ap (λ n. is_host w n) (sym (own_host w x s)) ∙ hosts (sender_of x) joined
