use Rattle.sl_world_state.specs.Refusals.{refusal_in}
use Rattle.sl_machine.specs.KeptParts.{kept_state}
use Rattle.sl_run.specs.Refusals.{refusal_of}
use Rattle.sl_world.proofs.RefusedEvents.{is_refused, nothing_refuses, refuses}
use Rattle.sl_world.proofs.world.World.apply.Goals as goal
use Rattle.sl_world_law.proofs.EventsStand.{refusals_stand}
use Rattle.std.proofs.Common.{sym, ◌∙◌}

pub returns-in-Ok-Some-clause-refused : goal.returns-in-Ok-Some-clause-refused
returns-in-Ok-Some-clause-refused g c w t r there =
    let k = kept_state g.L.LockTable.locks c.args.self.now.kept in
    is_refused _ c.in-Ok-Some.why r (refusal_in g.D.Daemon.commands k c.args.event) (refusal_of w c.args.event) (sym c.in-Ok-Some.ensures.exact ∙ c.in-Ok-Some.field-0-is)
    (refusals_stand g.D.Daemon.commands g.D.Daemon.stands k c.args.self.now.hosts w t c.args.event) there

pub returns-in-Ok-Some-clause-only : goal.returns-in-Ok-Some-clause-only
returns-in-Ok-Some-clause-only g c w t r is =
    let k = kept_state g.L.LockTable.locks c.args.self.now.kept in
    refuses _ c.in-Ok-Some.why r (refusal_in g.D.Daemon.commands k c.args.event) (refusal_of w c.args.event) (sym c.in-Ok-Some.ensures.exact ∙ c.in-Ok-Some.field-0-is)
    (refusals_stand g.D.Daemon.commands g.D.Daemon.stands k c.args.self.now.hosts w t c.args.event) is

pub returns-in-Err-happen_told-clause-refused : goal.returns-in-Err-happen_told-clause-refused
returns-in-Err-happen_told-clause-refused g c w t r there =
    let k = kept_state g.L.LockTable.locks c.args.self.now.kept in
    absurd (nothing_refuses r (refusal_in g.D.Daemon.commands k c.args.event) (refusal_of w c.args.event) (sym c.in-Ok-None.ensures.exact ∙ c.in-Ok-None.field-0-is)
    (refusals_stand g.D.Daemon.commands g.D.Daemon.stands k c.args.self.now.hosts w t c.args.event) there)
