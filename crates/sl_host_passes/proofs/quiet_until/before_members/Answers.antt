use Rattle.sl_host_passes.proofs.Moments.{least_next}
use Rattle.sl_host_passes.proofs.quiet_until.before_members.Goals as goal
use Rattle.sl_host_state.specs.KeptState.{MemberState}
use Rattle.sl_host_state.specs.HostStands.{member_moments}
use Rattle.sl_host_work.specs.KilledMembers.{unread}
use Rattle.std.proofs.Common.{ap, sym, ◌∙◌}
use Rattle.std.specs.Prelude.{List, slice_get}

pub loop-place-preserved : goal.loop-place-preserved
loop-place-preserved c =
    let k = c.args.host.now.kept in
    let at = ap (λ (ms : List MemberState). slice_get ms c.loop-place.place) (sym c.members-in-loop-place.ensures.members) ∙ c.nth.ensures in
    record { comes = c.loop-place.invariant.comes ∙ least_next (member_moments (unread k)) k.members c.loop-place.place c.nth.result.now.state c.loop-place.next c.before_member-next.result at c.before_member-next.ensures }
