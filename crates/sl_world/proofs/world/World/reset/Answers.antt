use Rattle.sl_world_state.specs.KeptWorld.{machine_in}
use Rattle.sl_machine.specs.KeptParts.{kept_state}
use Rattle.sl_run.specs.declared.event.Event.TheVariants.{Reset}
use Rattle.sl_world.proofs.AllowedEvents.{no_input, seat_there}
use Rattle.sl_world.proofs.ToldSteps.{own_told}
use Rattle.sl_world.proofs.EndedEvents.{reset_comes, reset_there}
use Rattle.sl_world.proofs.world.World.reset.Goals as goal

pub overflow_sub-machine : goal.overflow_sub-machine
overflow_sub-machine g c =
    let k = kept_state g.L.LockTable.locks c.args.self.now.kept in
    let s = reset_there g.D.Daemon.commands k c.args.machine c.requires.unrefused in
    (seat_there g.D.Daemon.commands g.D.Daemon.stands k c.args.self.now.hosts c.args.machine s.0 c.requires.world c.requires.stands_for s.1).1

pub end-requires : goal.end-requires
end-requires g c =
    let k = kept_state g.L.LockTable.locks c.args.self.now.kept in
    let s = reset_there g.D.Daemon.commands k c.args.machine c.requires.unrefused in
    (seat_there g.D.Daemon.commands g.D.Daemon.stands k c.args.self.now.hosts c.args.machine s.0 c.requires.world c.requires.stands_for s.1).0

pub returns-clause-ok : goal.returns-clause-ok
returns-clause-ok g c =
    let k = kept_state g.L.LockTable.locks c.args.self.now.kept in
    own_told g.D.Daemon.commands g.D.Daemon.stands k c.args.self.now.hosts (Reset c.args.machine) c.in_ok-effects.effects (kept_state g.L.LockTable.locks c.reset.new.self) c.end.new.self c.tell_alone.new.told
    (reset_comes g.D.Daemon.commands g.D.Daemon.stands k c.args.self.now.hosts c.end.new.self c.args.machine
    (kept_state g.L.LockTable.locks c.reset.new.self) c.in_ok-effects.effects c.requires c.in_ok-effects.ensures c.in_ok-reset.ensures.ok c.end.ensures)
    (no_input (machine_in k c.args.machine)) c.tell_alone.ensures
