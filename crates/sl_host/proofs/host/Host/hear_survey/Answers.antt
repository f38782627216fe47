use Rattle.sl_trace.specs.declared.input.Answer.TheVariants.{Read}
use Rattle.sl_host.proofs.AnswersHeard.{survey_whole}
use Rattle.sl_host_state.specs.HeardInputs.{heard_answer}
use Rattle.sl_host_state.specs.KeptState.{MemberState, state_of}
use Rattle.sl_member.specs.HostMembers.{MembersState, changed_member}
use Rattle.sl_host.specs.Books.{BooksState, host_of}
use Rattle.sl_host.specs.HeardAnswers.{MayHear, begun_at, is_over_in, others_in, survey_heard}
use Rattle.sl_host.specs.Host.{HostView}
use Rattle.sl_host.proofs.host.Host.hear_survey.Goals as goal
use Rattle.std.proofs.Common.{List, ap, filter, not, subst, sym, ◌∙◌, ◌≡◌}

pub returns-clause-state : goal.returns-clause-state
returns-clause-state g c read =
    let b : BooksState = c.self.inside.books in
    let ms : List MemberState = c.self.inside.members.members in
    let run = c.self.inside.members.run in
    let call = c.args.call.now in
    let bytes = g.S.Sectors.bytes c.args.sectors.now in
    let may = subst (λ (v : HostView). MayHear v.kept call) (sym c.self.view_is) c.requires.may in
    let q = c.quiet_where-quiet_until.result in
    let rest : List MemberState → List MemberState = filter (λ s. not (is_over_in (others_in call.number b.unanswered) s)) in
    let made : c.hear.new.members.members ≡ rest (changed_member call.session (survey_heard run call.reading b.reading bytes (begun_at b.reading b.entries)) ms) =
    ap (λ (v : MembersState). v.members) c.hear.ensures.members
    ∙ (ap (λ (v : MembersState). rest v.members) c.tell_survey.ensures
    ∙ (ap (λ x. rest (changed_member call.session (survey_heard run call.reading c.reading-now.result bytes x) ms)) c.begun-begun.ensures
    ∙ ap (λ t. rest (changed_member call.session (survey_heard run call.reading t bytes (begun_at b.reading b.entries)) ms)) c.reading-now.ensures)) in
    ap (λ (bk : BooksState). host_of read c.hear.new.members.members bk) c.rest_until.ensures
    ∙ (ap (λ (bk : BooksState). host_of read c.hear.new.members.members (record bk { quiet_until = q })) c.hear.ensures.books
    ∙ (survey_whole read ms b call may run c.hear.new.members.members bytes c.shows_any-shows.result q c.requires.purpose c.self.invariant.0 made c.shows_any-shows.ensures c.quiet_where-quiet_until.ensures
    ∙ ap (λ (v : HostView). heard_answer call.number (Read bytes) (state_of read v.kept)) c.self.view_is))
