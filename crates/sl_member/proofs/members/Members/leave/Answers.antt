use Rattle.sl_host_state.specs.KeptState.{MemberState}
use Rattle.sl_member.proofs.MembersTogether.{left_members, left_states}
use Rattle.sl_member.proofs.MembersByNumber.{states}
use Rattle.sl_member.proofs.members.Members.leave.Goals as goal
use Rattle.sl_member.specs.Members.{MemberKept, RunOf}
use Rattle.sl_member.specs.HostMembers.{MembersState, left_by, left_kept}
use Rattle.std.proofs.Common.{List, ap, arith, drop, length, map, take, ◌++◌, ◌≡◌, ◌∙◌}
use Rattle.std.proofs.lemmas.Grind.{common_steps}

pub invariant_of-self : goal.invariant_of-self
invariant_of-self c =
    let items : List MemberKept = c.self.inside.items.items in
    let all : take c.self.inside.items.len (c.leave_all.new.items ++ drop (length c.leave_all.new.items) items) ≡ map (left_kept c.args.lockspace.now c.args.begun c.args.job) items = grind (arith, common_steps) in
    (left_members c.args.lockspace.now c.args.begun c.args.job _ c.self.inside.room items _ c.self.invariant.0 all, c.self.invariant.1, c.self.invariant.2)

pub returns : goal.returns
returns c =
    let items : List MemberKept = c.self.inside.items.items in
    let run : RunOf = record { timing = c.self.inside.timing; sizes = c.self.inside.geometry; host = c.self.inside.host } in
    let P : List MemberState → MembersState = λ ss. record { run = run; members = ss; most = c.self.inside.most; room = c.self.inside.room } in
    let all : take c.self.inside.items.len (c.leave_all.new.items ++ drop (length c.leave_all.new.items) items) ≡ map (left_kept c.args.lockspace.now c.args.begun c.args.job) items = grind (arith, common_steps) in
    ap (λ (zs : List MemberKept). P (states zs)) all ∙ ap P (left_states c.args.lockspace.now c.args.begun c.args.job items)
    ∙ ap (λ (v : MembersState). record v { members = map (left_by c.args.lockspace.now c.args.begun c.args.job) v.members }) c.self.view_is
