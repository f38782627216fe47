-- The parser knows the command that the definition has.
use Rattle.clap.specs.Faults.{fault_of}
use Rattle.clap.specs.Simple.{app_of, subcommand_of}
use Rattle.sl_cli.proofs.ParseLaws.{free_app, refuses, same_error, simple_app}
use Rattle.sl_cli.proofs.command_words.parse.Goals as goal
use Rattle.sl_cli.specs.ParserMeets.{met_in}
use Rattle.sl_cli.specs.declared.command_words.WordsError.TheVariants.{Bad}
use Rattle.std.proofs.Common.{Err, ap, map, refl, sym, ◌∙◌}
use Rattle.std.specs.Prelude.{string_bytes}

pub returns-in-Ok-clause-read : goal.returns-in-Ok-clause-read
returns-in-Ok-clause-read c =
    let app = c.in_ok-command.ensures in
    let ws = map string_bytes c.args.words.now in
    let matches = c.in-Ok.ensures.matches (simple_app (app_of c.in_ok-command.command) app) in
    let none = c.in-Ok.ensures.kinds (free_app (app_of c.in_ok-command.command) app) in
    (ap (λ a. fault_of a ws) (sym app) ∙ none, c.met_in.ensures ∙ ap met_in (matches.1 ∙ ap (λ a. subcommand_of a ws) app))

pub returns-in-Err-clause-bad : goal.returns-in-Err-clause-bad
returns-in-Err-clause-bad c = λ bad none.
    let app = c.in_ok-command.ensures in
    let ws = map string_bytes c.args.words.now in
    refuses (fault_of (app_of c.in_ok-command.command) ws) c.in-Err.error (c.in-Err.ensures.kinds (free_app (app_of c.in_ok-command.command) app))
    (c.error_of.ensures.bad (same_error c.error_of.result Bad (Err c.error_of.result) refl bad)) (ap (λ a. fault_of a ws) app ∙ none)
