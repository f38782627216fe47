use Rattle.sl_cli.proofs.OptionValueLaws.{stretch_read-is}
use Rattle.sl_cli.proofs.option_values.stretch_of.Goals as goal
use Rattle.sl_cli.specs.PartReadings.{stretch_read}
use Rattle.sl_command.proofs.ArgumentLaws.{taken}
use Rattle.sl_text.specs.Walks.{unread}
use Rattle.std.proofs.Common.{ap, ◌∙◌}

pub returns : goal.returns
returns c =
    let w = c.args.word.now in
    taken (stretch_read c.args.most.now.sector) w _ _ _ _ (c.new.ensures ∙ ap (unread 58) c.as_bytes.ensures.value) c.stretch_parts.ensures c.ok.ensures.value (stretch_read-is c.args.most.now.sector w)
