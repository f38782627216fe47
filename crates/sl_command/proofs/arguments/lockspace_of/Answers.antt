use Rattle.sl_area.specs.AreaSizes.{layout_of}
use Rattle.sl_command.proofs.ArgumentLaws.{lockspace_read-is, taken}
use Rattle.sl_command.proofs.arguments.lockspace_of.Goals as goal
use Rattle.sl_command.specs.Arguments.{lockspace_read}

pub returns : goal.returns
returns c =
    let g = layout_of c.args.geometry.now in
    let w = c.args.word.now in taken (lockspace_read g) w _ _ _ _ c.new.ensures c.lockspace_parts.ensures c.ok.ensures.value (lockspace_read-is g w)
