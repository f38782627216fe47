use Rattle.sl_member.specs.Members.{own_told}
use Rattle.sl_trace.specs.declared.effects.Purpose.TheVariants.{Survey}
use Rattle.sl_trace.specs.declared.input.Answer.TheVariants.{Failed}
use Rattle.sl_host.proofs.AnswersHeard.{no_survey_whole}
use Rattle.sl_host_state.specs.HeardInputs.{heard_answer}
use Rattle.sl_host_state.specs.KeptState.{MemberState, state_of}
use Rattle.sl_member.specs.HostMembers.{MembersState, changed_member}
use Rattle.sl_host.specs.Books.{BooksState, host_of}
use Rattle.sl_host.specs.HeardAnswers.{MayHear, is_over_in, others_in}
use Rattle.sl_host.specs.Host.{HostView}
use Rattle.sl_host.proofs.host.Host.hear_no_survey.Goals as goal
use Rattle.std.proofs.Common.{List, ap, filter, not, subst, sym, ◌∙◌, ◌≡◌}

pub returns-clause-state : goal.returns-clause-state
returns-clause-state c read =
    let b : BooksState = c.self.inside.books in
    let ms : List MemberState = c.self.inside.members.members in
    let call = c.args.call.now in
    let may = subst (λ (v : HostView). MayHear v.kept call) (sym c.self.view_is) c.requires.may in
    let rest : List MemberState → List MemberState = filter (λ s. not (is_over_in (others_in call.number b.unanswered) s)) in
    let made : c.hear.new.members.members ≡ rest (changed_member call.session (own_told Survey Failed b.reading) ms) =
    ap (λ (v : MembersState). v.members) c.hear.ensures.members
    ∙ (ap (λ (v : MembersState). rest v.members) c.tell_no_survey.ensures
    ∙ ap (λ t. rest (changed_member call.session (own_told Survey Failed t) ms)) c.reading-now.ensures) in
    ap (λ (bk : BooksState). host_of read c.hear.new.members.members bk) c.hear.ensures.books
    ∙ (no_survey_whole read ms b call may c.hear.new.members.members c.requires.purpose made
    ∙ ap (λ (v : HostView). heard_answer call.number Failed (state_of read v.kept)) c.self.view_is)
