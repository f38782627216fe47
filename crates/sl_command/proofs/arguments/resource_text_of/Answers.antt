use Rattle.sl_area.specs.AreaSizes.{layout_of}
use Rattle.sl_command.proofs.ArgumentLaws.{resource_read-is, taken}
use Rattle.sl_command.proofs.arguments.resource_text_of.Goals as goal
use Rattle.sl_command.specs.Arguments.{resource_read}

pub returns : goal.returns
returns c =
    let g = layout_of c.args.geometry.now in
    let w = c.args.word.now in taken (resource_read g) w _ _ _ _ c.new.ensures c.resource_parts.ensures c.ok.ensures.value (resource_read-is g w)
