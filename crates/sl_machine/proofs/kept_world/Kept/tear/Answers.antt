use Rattle.sl_disks.specs.Disks.{DisksState}
use Rattle.sl_machine.proofs.PlainOptions.{ok_holds}
use Rattle.sl_machine.proofs.kept_world.Kept.tear.Goals as goal
use Rattle.sl_machine.specs.CallWrites.{LeavesTorn}
use Rattle.sl_machine.specs.KeptParts.{kept_state}
use Rattle.std.proofs.Common.{ap, sym, ◌∙◌}
use Rattle.std.specs.Arc.{arc_value}

pub put-requires : goal.put-requires
unfolding kept_state
put-requires g c =
    let torn = ok_holds (λ l. LeavesTorn (kept_state g.L.LockTable.locks c.args.self.now) c.args.machine c.args.call c.args.kept c.args.given.now l.place (arc_value l.image))
    c.in_ok-why.field-0 c.in-Ok.landing c.in-Ok.is c.in_ok-why.ensures.torn in
    torn.sized ∙ sym (ap (λ (d : DisksState). d.header.geometry.sector) c.in_ok-why.ensures.disks)
