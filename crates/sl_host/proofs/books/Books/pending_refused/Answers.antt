use Rattle.sl_host_law.specs.Decisions.CommandDecisions.{pending_refused}
use Rattle.sl_trace.specs.declared.reply.Reply.TheVariants.{Pending}
use Rattle.sl_host.proofs.QuestionsStand.{pending_is}
use Rattle.sl_host.proofs.books.Books.pending_refused.Goals as goal
use Rattle.sl_host.specs.BookQuestions.{alone}
use Rattle.std.proofs.Common.{ap, option_map, subst, sym, ◌%◌, ◌∙◌, ◌≡◌}

pub returns-in-Some : goal.returns-in-Some
returns-in-Some c =
    let b = c.self.inside in
    let at = c.args.at.now in
    ap (λ o. option_map (λ n. Pending n) o)
    (c.in-Some.ensures.least
    ∙ pending_is b.config.sizes b.unanswered.area at b.unanswered.calls c.self.invariant.4 c.pending.ensures.area (subst (λ v. at.base % v.config.sizes.area ≡ 0) (sym c.self.view_is) c.requires))
    ∙ ap (λ v. pending_refused (alone v) at) c.self.view_is

pub returns-in-None : goal.returns-in-None
returns-in-None c =
    let b = c.self.inside in
    let at = c.args.at.now in
    ap (λ o. option_map (λ n. Pending n) o)
    (c.in-None.ensures.least
    ∙ pending_is b.config.sizes b.unanswered.area at b.unanswered.calls c.self.invariant.4 c.pending.ensures.area (subst (λ v. at.base % v.config.sizes.area ≡ 0) (sym c.self.view_is) c.requires))
    ∙ ap (λ v. pending_refused (alone v) at) c.self.view_is
