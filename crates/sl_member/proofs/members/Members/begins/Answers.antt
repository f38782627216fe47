use Rattle.sl_host_state.specs.KeptState.{MemberState}
use Rattle.sl_member.proofs.MembersTogether.{begun_members, begun_states}
use Rattle.sl_member.proofs.MembersByNumber.{states}
use Rattle.sl_member.proofs.members.Members.begins.Goals as goal
use Rattle.sl_member.specs.Members.{MemberKept, RunOf}
use Rattle.sl_member.specs.HostMembers.{MembersState, begun_by, begun_kept}
use Rattle.std.proofs.Common.{List, ap, arith, drop, length, map, take, ◌++◌, ◌≡◌, ◌∙◌}
use Rattle.std.proofs.lemmas.Grind.{common_steps}

pub invariant_of-self : goal.invariant_of-self
invariant_of-self c =
    let items : List MemberKept = c.self.inside.items.items in
    let all : take c.self.inside.items.len (c.begin_all.new.items ++ drop (length c.begin_all.new.items) items) ≡ map (begun_kept c.args.now c.args.at) items = grind (arith, common_steps) in
    (begun_members c.args.now c.args.at _ c.self.inside.room items _ c.self.invariant.0 all, c.self.invariant.1, c.self.invariant.2)

pub returns : goal.returns
returns c =
    let items : List MemberKept = c.self.inside.items.items in
    let run : RunOf = record { timing = c.self.inside.timing; sizes = c.self.inside.geometry; host = c.self.inside.host } in
    let P : List MemberState → MembersState = λ ss. record { run = run; members = ss; most = c.self.inside.most; room = c.self.inside.room } in
    let all : take c.self.inside.items.len (c.begin_all.new.items ++ drop (length c.begin_all.new.items) items) ≡ map (begun_kept c.args.now c.args.at) items = grind (arith, common_steps) in
    ap (λ (zs : List MemberKept). P (states zs)) all ∙ ap P (begun_states c.args.now c.args.at run c.self.inside.room items c.self.invariant.0.each)
    ∙ ap (λ (v : MembersState). record v { members = map (begun_by v.run.timing c.args.now c.args.at) v.members }) c.self.view_is
