use Rattle.sl_host_state.specs.KeptState.{MemberState}
use Rattle.sl_host_state.specs.MadeEffects.{with_member}
use Rattle.sl_member.proofs.MembersTogether.{comes_behind, few_kept, put_members, put_states}
use Rattle.sl_member.proofs.MembersByNumber.{members_as, states}
use Rattle.sl_member.proofs.members.Members.put.Goals as goal
use Rattle.sl_member.specs.Members.{MemberKept, RunOf}
use Rattle.sl_member.specs.HostMembers.{AreMembers, MembersState}
use Rattle.sl_trace.specs.declared.session.Session.{Session}
use Rattle.sl_words.specs.Orders.{is_text_before}
use Rattle.std.specs.List.{insert}
use Rattle.std.proofs.Common.{List, ap, arith, length, min, position, subst, sym, unwrap_or, ℕ, ◌<◌, ◌∙◌}

pub invariant_of-self : goal.invariant_of-self
invariant_of-self c =
    let i = c.self.invariant in
    let e = c.in-Ok.ensures in
    let run : RunOf = record { timing = c.self.inside.timing; sizes = c.self.inside.geometry; host = c.self.inside.host } in
    let few : length c.self.inside.items.items < c.self.inside.most = few_kept c.args.self.now run c.self.inside.items.items c.self.inside.most c.self.inside.room c.self.view_is c.requires.place in (
      subst (λ (zs : List MemberKept). AreMembers run c.min-self-inside.result zs) (sym e.items)
          (subst (λ n. AreMembers run n (insert c.self.inside.items.items c.gap_of-place.result c.args.member)) (sym (c.min-self-inside.ensures ∙ ap (min c.self.inside.room) c.room.ensures))
          (put_members c.args.self.now run c.self.inside.items.items c.self.inside.most c.self.inside.room c.gap_of-place.result c.args.member i.0 c.self.view_is c.requires.run c.requires.new)),
      omega (arith, i.1, e.len, few),
      omega (arith, i.2, e.capacity),
    )

pub returns : goal.returns
returns c =
    let run : RunOf = record { timing = c.self.inside.timing; sizes = c.self.inside.geometry; host = c.self.inside.host } in
    let items : List MemberKept = c.self.inside.items.items in
    let x : MemberKept = c.args.member in
    let P : List MemberState → ℕ → MembersState = λ ss r. record { run = run; members = ss; most = c.self.inside.most; room = r } in
    ap (λ (zs : List MemberKept). members_as run zs c.self.inside.most c.min-self-inside.result) c.in-Ok.ensures.items
    ∙ ap (λ ss. P ss c.min-self-inside.result) (put_states x items c.gap_of-place.result
    (c.gap_of-place.ensures.exact
    ∙ ap (λ (w : Session). unwrap_or (position (λ (m : MemberKept). is_text_before w.lockspace m.state.who.lockspace) c.deref.result.now) (length c.deref.result.now)) c.who.ensures
    ∙ ap (λ (zs : List MemberKept). unwrap_or (position (comes_behind x.state.who.lockspace) zs) (length zs)) c.deref.ensures.value))
    ∙ ap (λ r. P (with_member x.state (states items)) r) (c.min-self-inside.ensures ∙ ap (min c.self.inside.room) c.room.ensures)
    ∙ ap (λ (v : MembersState). record v { members = with_member x.state v.members; room = min v.room x.room }) c.self.view_is

pub unreachable-requires : goal.unreachable-requires
unreachable-requires c =
    let run : RunOf = record { timing = c.self.inside.timing; sizes = c.self.inside.geometry; host = c.self.inside.host } in
    let few : length c.self.inside.items.items < c.self.inside.most = few_kept c.args.self.now run c.self.inside.items.items c.self.inside.most c.self.inside.room c.self.view_is c.requires.place in
    omega (arith, few, c.self.invariant.2, c.in-Err.ensures.full)
