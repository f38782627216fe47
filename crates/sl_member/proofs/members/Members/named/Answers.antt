use Rattle.sl_host_state.specs.KeptState.{MemberState}
use Rattle.sl_member.proofs.MembersTogether.{found_state, mapped_twice, run_if_found}
use Rattle.sl_member.proofs.members.Members.named.Goals as goal
use Rattle.sl_member.specs.Members.{MemberKept, RunOf}
use Rattle.sl_member.specs.HostMembers.{MembersState}
use Rattle.std.proofs.Common.{Bool, List, ap, bytes_eq, find, option_map, subst, ◌∙◌, ◌≡◌, ◌≤◌}
use Rattle.std.specs.List.{AllByRecursion}

pub returns-clause-exact : goal.returns-clause-exact
returns-clause-exact c =
    let p : MemberState → Bool = (λ s. bytes_eq s.who.lockspace c.args.lockspace.now) in
    let state : MemberKept → MemberState = λ m. m.state in
    mapped_twice (λ m. m.now) state c.find_named.result ∙ ap (option_map state) c.find_named.ensures ∙ ap (λ (ms : List MemberKept). option_map state (find (λ m. p m.state) ms)) c.deref.ensures.value
    ∙ found_state p c.self.inside.items.items ∙ ap (λ (v : MembersState). find p v.members) c.self.view_is

pub returns-clause-run : goal.returns-clause-run
returns-clause-run c =
    let p : MemberKept → Bool = (λ m. bytes_eq m.state.who.lockspace c.args.lockspace.now) in
    run_if_found (λ m. m.now) c.args.self.now.run c.self.inside.room p c.self.inside.items.items c.find_named.result
    (subst (λ (r : RunOf). AllByRecursion (λ (n : MemberKept). (n.run ≡ r) × (c.self.inside.room ≤ n.room)) c.self.inside.items.items) (ap (λ (v : MembersState). v.run) c.self.view_is) c.self.invariant.0.each)
    (c.find_named.ensures ∙ ap (λ (ms : List MemberKept). find p ms) c.deref.ensures.value)
