use Rattle.sl_machine.proofs.PlainOptions.{some_holds}
use Rattle.sl_machine.proofs.kept_world.Kept.land.Goals as goal
use Rattle.sl_machine.specs.CallWrites.{LeavesWhole}
use Rattle.sl_machine.specs.KeptParts.{kept_state}
use Rattle.std.specs.Arc.{arc_value}

pub put-requires : goal.put-requires
unfolding kept_state
put-requires g c =
    let whole = some_holds (λ x. LeavesWhole (kept_state g.L.LockTable.locks c.args.self.now) c.args.machine c.args.call x.place (arc_value x.image)) c.in_ok-landing.field-0
    c.in-Some.landing c.in-Some.is c.in_ok-landing.ensures.some in
    whole.sized
