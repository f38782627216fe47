use Rattle.sl_host_passes.proofs.quiet_until.before_members.Given as goal
use Rattle.sl_host_passes.specs.NextMoment.{least_by}
use Rattle.sl_host_state.specs.HostStands.{member_moments}
use Rattle.sl_host_work.specs.KilledMembers.{unread}
use Rattle.std.proofs.Common.{drop, flat_map, ◌-◌, ◌^◌, ◌≡◌}

-- the members from this place on are still to come
abbrev pub invariant-loop-place : goal.invariant-loop-place
invariant-loop-place l = record {
  comes : least_by (2 ^ 64 - 1) (flat_map (member_moments (unread l.host.kept)) l.host.kept.members) ≡ least_by l.next (flat_map (member_moments (unread l.host.kept)) (drop l.place l.host.kept.members));
}
