use Rattle.sl_host_state.specs.KeptState.{MemberState}
use Rattle.sl_member.proofs.MembersTogether.{found_state, mapped_twice}
use Rattle.sl_member.proofs.MembersByNumber.{numbers_are}
use Rattle.sl_member.proofs.members.Members.joining_by.Goals as goal
use Rattle.sl_member.specs.Members.{MemberKept}
use Rattle.sl_member.specs.HostMembers.{AreApart, MembersState, is_joining_by}
use Rattle.std.proofs.Common.{List, ap, find, map, option_map, subst, ◌∙◌}

pub returns-clause-exact : goal.returns-clause-exact
returns-clause-exact c =
    let state : MemberKept → MemberState = λ m. m.state in
    mapped_twice (λ m. m.now) state c.find_joining.result ∙ ap (option_map state) c.find_joining.ensures
    ∙ ap (λ (ms : List MemberKept). option_map state (find (λ m. is_joining_by c.args.job m.state) ms)) c.deref.ensures.value
    ∙ found_state (is_joining_by c.args.job) c.self.inside.items.items ∙ ap (λ (v : MembersState). find (is_joining_by c.args.job) v.members) c.self.view_is

pub returns-clause-apart : goal.returns-clause-apart
returns-clause-apart c =
    subst (λ (v : MembersState). AreApart (map (λ (s : MemberState). s.who.number) v.members)) c.self.view_is
    (subst AreApart (numbers_are c.self.inside.items.items) c.self.invariant.0.apart)
