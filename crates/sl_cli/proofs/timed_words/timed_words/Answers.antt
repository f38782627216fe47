use Rattle.sl_cli.proofs.TimedLaws.{behind, timed_at, timed_short}
use Rattle.sl_cli.proofs.timed_words.timed_words.Goals as goal
use Rattle.sl_cli.specs.CommandWords.{command_in, labelled}
use Rattle.std.proofs.Common.{ap, sym, ◌∙◌, ◌∷◌}
use Rattle.std.proofs.lemmas.Result.{IfOk-weaker}
use Rattle.std.specs.Prelude.{string_bytes}

pub returns-in_default-clause-bad : goal.returns-in_default-clause-bad
returns-in_default-clause-bad c = λ e. timed_short c.args.words.now c.in_default.len_below

pub returns-in-len4-up-clause-read : goal.returns-in-len4-up-clause-read
returns-in-len4-up-clause-read c =
    let xs = c.args.words.now in
    let left = command_in (string_bytes c.command-item.result ∷ string_bytes c.action-item.result ∷ behind xs) in
    let is = timed_at xs c.command-item.result c.action-item.result c.times-item.result c.in-len4-up.len_at_least c.command-item.is c.action-item.is c.times-item.is in
    IfOk-weaker c.labelled_words.result _ _ (λ w said. is ∙ ap (λ t. labelled t left) (sym c.as_str.ensures.value) ∙ said) c.labelled_words.ensures.read

pub returns-in-len4-up-clause-bad : goal.returns-in-len4-up-clause-bad
returns-in-len4-up-clause-bad c = λ e.
    let xs = c.args.words.now in
    let left = command_in (string_bytes c.command-item.result ∷ string_bytes c.action-item.result ∷ behind xs) in
    let is = timed_at xs c.command-item.result c.action-item.result c.times-item.result c.in-len4-up.len_at_least c.command-item.is c.action-item.is c.times-item.is in
    is ∙ ap (λ t. labelled t left) (sym c.as_str.ensures.value) ∙ c.labelled_words.ensures.bad e
