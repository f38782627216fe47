use Rattle.sl_area.specs.AreaSizes.{layout_of}
use Rattle.sl_command.proofs.ArgumentLaws.{asked_read-is, taken}
use Rattle.sl_command.proofs.arguments.request_of.Goals as goal
use Rattle.sl_command.specs.Arguments.{asked_read}

pub returns : goal.returns
returns c =
    let g = layout_of c.args.geometry.now in
    let w = c.args.word.now in taken (asked_read g) w _ _ _ _ c.new.ensures c.asked_parts.ensures c.ok.ensures.value (asked_read-is g w)
