use Rattle.sl_host_state.specs.KeptState.{MemberState}
use Rattle.sl_member.proofs.MembersTogether.{found_state, mapped_twice}
use Rattle.sl_member.proofs.members.Members.joining.Goals as goal
use Rattle.sl_member.specs.Members.{MemberKept}
use Rattle.sl_member.specs.HostMembers.{MembersState}
use Rattle.sl_words.specs.Words.{some_is}
use Rattle.std.proofs.Common.{Bool, List, ap, find, option_map, ◌==◌, ◌∙◌}

pub returns : goal.returns
returns c =
    let p : MemberState → Bool = (λ s. some_is (λ j. j == c.args.job) s.who.job) in
    let state : MemberKept → MemberState = λ m. m.state in
    mapped_twice (λ m. m.now) state c.find_for.result ∙ ap (option_map state) c.find_for.ensures ∙ ap (λ (ms : List MemberKept). option_map state (find (λ m. p m.state) ms)) c.deref.ensures.value
    ∙ found_state p c.self.inside.items.items ∙ ap (λ (v : MembersState). find p v.members) c.self.view_is
