use Rattle.sl_member.proofs.members.reserve_rooms.Given as goal
use Rattle.sl_member.specs.HostMembers.{AreRoomier}
use Rattle.std.proofs.Common.{◌≤◌}
use Rattle.std.specs.List.{AllWithin}

abbrev pub invariant-loop-member : goal.invariant-loop-member
invariant-loop-member l = record {
  kept : AreRoomier l.fn.items l.items;
  done : AllWithin (λ m. l.room ≤ m.room) l.items 0 l.member-index;
}
