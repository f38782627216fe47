use Rattle.sl_delta.specs.OwnSector.{answer_in}
use Rattle.sl_host.proofs.AnswersHeard.{own_whole}
use Rattle.sl_host_state.specs.HeardInputs.{heard_answer}
use Rattle.sl_host_state.specs.KeptState.{MemberState, state_of}
use Rattle.sl_member.specs.HostMembers.{MembersState, changed_member}
use Rattle.sl_host.specs.Books.{BooksState, host_of}
use Rattle.sl_host.specs.HeardAnswers.{MayHear, begun_at, is_over_in, others_in, own_heard}
use Rattle.sl_host.specs.Host.{HostView}
use Rattle.sl_host.proofs.host.Host.hear_own.Goals as goal
use Rattle.std.proofs.Common.{List, ap, filter, not, subst, sym, ◌∙◌, ◌≡◌}

pub returns-clause-state : goal.returns-clause-state
returns-clause-state c read =
    let b : BooksState = c.self.inside.books in
    let ms : List MemberState = c.self.inside.members.members in
    let call = c.args.call.now in
    let a = answer_in c.args.answer in
    let may = subst (λ (v : HostView). MayHear v.kept call) (sym c.self.view_is) c.requires.may in
    let q = c.quiet_after-quiet_until.result in
    let rest : List MemberState → List MemberState = filter (λ s. not (is_over_in (others_in call.number b.unanswered) s)) in
    let made : c.hear.new.members.members ≡ rest (changed_member call.session (own_heard call a (begun_at b.reading b.entries) b.reading) ms) =
    ap (λ (v : MembersState). v.members) c.hear.ensures.members
    ∙ (ap (λ (v : MembersState). rest v.members) c.tell_own.ensures
    ∙ (ap (λ g. rest (changed_member call.session (own_heard call a g c.reading-now.result) ms)) c.begun-begun.ensures
    ∙ ap (λ t. rest (changed_member call.session (own_heard call a (begun_at b.reading b.entries) t) ms)) c.reading-now.ensures)) in
    ap (λ (bk : BooksState). host_of read c.hear.new.members.members bk) c.rest_until.ensures
    ∙ (ap (λ (bk : BooksState). host_of read c.hear.new.members.members (record bk { quiet_until = q })) c.hear.ensures.books
    ∙ (own_whole read ms b call may c.hear.new.members.members a q c.requires.own made c.quiet_after-quiet_until.ensures
    ∙ ap (λ (v : HostView). heard_answer call.number a (state_of read v.kept)) c.self.view_is))
