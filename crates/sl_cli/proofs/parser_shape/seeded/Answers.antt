use Rattle.clap.specs.Simple.{App, app_of, new_rule, with_rule}
use Rattle.sl_cli.proofs.AddedRules.{three_added}
use Rattle.sl_cli.proofs.parser_shape.seeded.Goals as goal
use Rattle.std.proofs.Common.{subst, ◌≡◌}
use Rattle.std.specs.Prelude.{IfOk, codes}

pub returns-clause-app : goal.returns-clause-app
returns-clause-app c =
    let hosts = new_rule (codes "hosts") in
    let events = new_rule (codes "events") in
    let format = new_rule (codes "format") in
    subst (λ (a : App). IfOk c.with_word-3.result (λ d. app_of d ≡ with_rule (with_rule (with_rule a hosts) events) format)) c.in_ok-command.ensures.app
    (three_added (app_of c.in_ok-command.command) (app_of c.in_ok-command-2.command) (app_of c.in_ok-command-3.command) hosts events format c.with_word-3.result
    c.in_ok-command-2.ensures.app c.in_ok-command-3.ensures.app c.with_word-3.ensures.app)
