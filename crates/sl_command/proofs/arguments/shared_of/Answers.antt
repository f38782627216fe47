use Rattle.sl_area.specs.AreaSizes.{layout_of}
use Rattle.sl_command.proofs.ArgumentLaws.{shared_read-is, taken}
use Rattle.sl_command.proofs.arguments.shared_of.Goals as goal
use Rattle.sl_command.specs.Arguments.{shared_read}

pub returns : goal.returns
returns c =
    let g = layout_of c.args.geometry.now in
    let w = c.args.word.now in taken (shared_read g) w _ _ _ _ c.new.ensures c.shared_parts.ensures c.ok.ensures.value (shared_read-is g w)
