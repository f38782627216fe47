use Rattle.sl_host_state.specs.KeptState.{MemberState}
use Rattle.sl_member.specs.HostMembers.{member_with}
use Rattle.sl_host.proofs.AnswersTold.{member_there}
use Rattle.sl_host.proofs.told_answers.shows_by_place.Goals as goal
use Rattle.sl_words.proofs.CaseLaws.{some_value}
use Rattle.std.proofs.Common.{ap, sym, ◌∙◌}

pub returns : goal.returns
returns g c m at =
    let ms = c.args.members.now.members in
    let same = some_value c.nth.result.now.state m (sym c.nth.ensures ∙ at) in
    c.shows_to.ensures m (ap (λ s. member_with s.number ms) (c.who.ensures ∙ ap (λ (s : MemberState). s.who) same) ∙ member_there ms c.args.place m c.order.ensures.apart at)
