use Rattle.sl_disks.proofs.TableLaws.{slots_set}
use Rattle.sl_disks.proofs.table.keep.Goals as goal
use Rattle.std.specs.Arc.{arc_value}

pub returns : goal.returns
returns c = slots_set (λ m. arc_value m) c.args.slots.now c.args.number c.args.image
