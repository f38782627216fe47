use Rattle.sl_member.proofs.MembersTogether.{late_states}
use Rattle.sl_member.proofs.members.Members.is_late.Goals as goal
use Rattle.sl_member.specs.Members.{MemberKept, RunOf}
use Rattle.sl_member.specs.HostMembers.{MembersState, late_by}
use Rattle.std.proofs.Common.{List, ap, ◌∙◌}
use Rattle.std.specs.List.{list_any}

pub returns : goal.returns
returns c =
    let run : RunOf = record { timing = c.self.inside.timing; sizes = c.self.inside.geometry; host = c.self.inside.host } in
    c.is_any_late.ensures ∙ ap (λ (ms : List MemberKept). list_any (λ (m : MemberKept). late_by m.run.timing c.args.now m.state) ms) c.deref.ensures.value
    ∙ late_states c.args.now run c.self.inside.room c.self.inside.items.items c.self.invariant.0.each
    ∙ ap (λ (v : MembersState). list_any (late_by v.run.timing c.args.now) v.members) c.self.view_is
