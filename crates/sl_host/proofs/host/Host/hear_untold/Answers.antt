use Rattle.sl_host.proofs.AnswersHeard.{untold_whole}
use Rattle.sl_host_state.specs.HeardInputs.{heard_answer}
use Rattle.sl_host_state.specs.KeptState.{MemberState, state_of}
use Rattle.sl_member.specs.HostMembers.{MembersState}
use Rattle.sl_host.specs.Books.{BooksState, host_of}
use Rattle.sl_host.specs.HeardAnswers.{MayHear}
use Rattle.sl_host.specs.Host.{HostView}
use Rattle.sl_host.proofs.host.Host.hear_untold.Goals as goal
use Rattle.std.proofs.Common.{List, ap, subst, sym, ◌∙◌}

pub returns-clause-state : goal.returns-clause-state
returns-clause-state c a none read =
    let b : BooksState = c.self.inside.books in
    let ms : List MemberState = c.self.inside.members.members in
    let call = c.args.call.now in
    let may = subst (λ (v : HostView). MayHear v.kept call) (sym c.self.view_is) c.requires.may in
    ap (λ (bk : BooksState). host_of read c.hear.new.members.members bk) c.hear.ensures.books
    ∙ (untold_whole read ms b call may c.hear.new.members.members a none (ap (λ (v : MembersState). v.members) c.hear.ensures.members)
    ∙ ap (λ (v : HostView). heard_answer call.number a (state_of read v.kept)) c.self.view_is)
