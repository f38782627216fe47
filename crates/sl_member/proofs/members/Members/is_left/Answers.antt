use Rattle.sl_host_state.specs.KeptState.{MemberState}
use Rattle.sl_member.proofs.MembersTogether.{any_state}
use Rattle.sl_member.proofs.members.Members.is_left.Goals as goal
use Rattle.sl_member.specs.Members.{MemberKept}
use Rattle.sl_member.specs.HostMembers.{MembersState}
use Rattle.sl_trace.specs.Sessions.{is_session_arg}
use Rattle.std.proofs.Common.{Bool, List, ap, ◌&&◌, ◌∙◌}
use Rattle.std.specs.List.{list_any}

pub returns : goal.returns
returns c =
    let p : MemberState → Bool = (λ s. s.joined && is_session_arg s.who c.args.lockspace.now) in
    c.is_any_left.ensures ∙ ap (λ (ms : List MemberKept). list_any (λ (m : MemberKept). p m.state) ms) c.deref.ensures.value ∙ any_state p c.self.inside.items.items
    ∙ ap (λ (v : MembersState). list_any p v.members) c.self.view_is
