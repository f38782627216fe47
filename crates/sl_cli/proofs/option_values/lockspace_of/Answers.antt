use Rattle.sl_cli.proofs.OptionValueLaws.{lockspace_read-is}
use Rattle.sl_cli.proofs.option_values.lockspace_of.Goals as goal
use Rattle.sl_cli.specs.PartReadings.{lockspace_read}
use Rattle.sl_command.proofs.ArgumentLaws.{taken}
use Rattle.sl_text.specs.Walks.{unread}
use Rattle.std.proofs.Common.{ap, ◌∙◌}

pub returns : goal.returns
returns c =
    let w = c.args.word.now in
    taken (lockspace_read c.args.most.now) w _ _ _ _ (c.new.ensures ∙ ap (unread 58) c.as_bytes.ensures.value) c.lockspace_parts.ensures c.ok.ensures.value (lockspace_read-is c.args.most.now w)
