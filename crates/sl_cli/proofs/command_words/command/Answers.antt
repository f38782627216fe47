use Rattle.sl_cli.proofs.CommandLaws.{are_texts, refused_says, taken_says}
use Rattle.sl_cli.proofs.command_words.command.Goals as goal
use Rattle.std.proofs.Common.{map}
use Rattle.std.proofs.lemmas.Result.{IfOk-weaker}
use Rattle.std.specs.Prelude.{string_bytes}

pub returns-clause-read : goal.returns-clause-read
returns-clause-read c =
    let ws = c.args.words.now in
    IfOk-weaker c.parse.result _ _ (λ met is. taken_says (map string_bytes ws) met (are_texts ws) is) c.parse.ensures.read

pub returns-clause-bad : goal.returns-clause-bad
returns-clause-bad c = λ e. let ws = c.args.words.now in refused_says (map string_bytes ws) (are_texts ws) (c.parse.ensures.bad e)
