use Rattle.sl_machine.specs.KeptParts.{kept_state}
use Rattle.sl_world.proofs.done_calls.put.Goals as goal
use Rattle.std.proofs.Common.{length, subst, ◌≡◌}
use Rattle.std.specs.Arc.{arc_value}
use Rattle.std.specs.Prelude.{IfSome}

pub write-requires : goal.write-requires
unfolding kept_state
write-requires g c = subst (λ o. IfSome o (λ l. length (arc_value l.image) ≡ c.args.kept.now.disks.header.geometry.sector)) c.in-Some.is c.requires
