use Rattle.sl_host_passes.proofs.wakes.apart.Goals as goal
use Rattle.sl_host_state.specs.KeptState.{MemberState}
use Rattle.sl_member.specs.HostMembers.{AreApart}
use Rattle.std.proofs.Common.{subst}
use Rattle.std.specs.Prelude.{List, map}

pub returns : goal.returns
returns c = subst (λ (ms : List MemberState). AreApart (map (λ m. m.who.number) ms)) c.members.ensures.members c.joining_by-joining.ensures.apart
