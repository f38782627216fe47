-- The replies of a host's step are short.
use Rattle.sl_host.specs.Host.{HostView}
use Rattle.sl_live_play.proofs.ShortReplies.{replies_are_short}
use Rattle.sl_live_play.proofs.live_host.LiveHostTeller.longest.Goals as goal
use Rattle.std.proofs.Common.{length, subst, ◌≤◌}

pub returns : goal.returns
returns c st es later e before after =
    replies_are_short c.args.self.now.kept later.kept st es e c.longest_list.result before after
    (subst (λ (v : HostView). v.kept.config.sizes.hosts ≤ c.longest_list.result) c.self.view_is c.longest_list.ensures.hosts)
    (subst (λ (v : HostView). length v.kept.members ≤ c.longest_list.result) c.self.view_is c.longest_list.ensures.members)
