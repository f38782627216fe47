use Rattle.sl_host_law.specs.Decisions.CommandDecisions.{pending_refused}
use Rattle.sl_host_work.proofs.WakingStands.{free_is}
use Rattle.sl_host_work.proofs.wakings.is_free.Goals as goal
use Rattle.sl_host.specs.BookQuestions.{alone}
use Rattle.std.proofs.Common.{ap, ◌∙◌}
use Rattle.std.specs.Prelude.{None, Some}

pub returns-in-Some : goal.returns-in-Some
returns-in-Some c =
    let at = c.args.at.now in
    free_is c.args.host.now.kept at (Some c.in-Some._refused) (c.in-Some.ensures ∙ ap (λ b. pending_refused (alone b) at) c.books.ensures)

pub returns-in-None : goal.returns-in-None
returns-in-None c =
    let at = c.args.at.now in
    free_is c.args.host.now.kept at None (c.in-None.ensures ∙ ap (λ b. pending_refused (alone b) at) c.books.ensures)
