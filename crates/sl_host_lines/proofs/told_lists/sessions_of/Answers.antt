use Rattle.sl_host_lines.proofs.ListsAreTold.{no_longer, one_more_session}
use Rattle.sl_host_lines.proofs.told_lists.sessions_of.Goals as goal
use Rattle.sl_host_lines.specs.ToldSessions.{session_in}
use Rattle.std.proofs.Common.{length, subst, sym, ◌≤◌}

pub loop-place-preserved : goal.loop-place-preserved
loop-place-preserved c =
    let m = c.nth.result.now.state in
    let i = c.loop-place.invariant in
    let list = c.loop-place.sessions.items in
    let next = c.push_joined.new.list.items in
    record {
      made = one_more_session c.args.members.now.members c.loop-place.place m list next c.push_joined.ensures.items i.made c.nth.ensures;
      long = no_longer c.loop-place.place m.joined (session_in m) list next c.push_joined.ensures.items i.long;
      room = subst (λ n. length c.args.members.now.members ≤ n) (sym c.push_joined.ensures.room) i.room;
    }
