use Rattle.sl_cli.proofs.OptionValueLaws.{times_read-is}
use Rattle.sl_cli.proofs.times.times_of.Goals as goal
use Rattle.sl_cli.specs.PartReadings.{times_read}
use Rattle.sl_command.proofs.ArgumentLaws.{taken}
use Rattle.sl_text.specs.Walks.{unread}
use Rattle.std.proofs.Common.{ap, ◌∙◌}

pub returns-clause-exact : goal.returns-clause-exact
returns-clause-exact c =
    let w = c.args.word.now in
    taken times_read w _ _ _ _ (c.new.ensures ∙ ap (unread 58) c.as_bytes.ensures.value) c.times_parts.ensures.exact c.ok.ensures.value (times_read-is w)
