use Rattle.sl_world_state.specs.KeptWorld.{machine_in}
use Rattle.sl_machine.specs.KeptParts.{kept_state}
use Rattle.sl_run.specs.declared.event.Event.TheVariants.{Crash}
use Rattle.sl_trace.specs.Traces.{no_effects}
use Rattle.sl_world.proofs.AllowedEvents.{crash_there, ended_comes, no_input, seat_there}
use Rattle.sl_world.proofs.ToldSteps.{own_told}
use Rattle.sl_world.proofs.world.World.crash.Goals as goal
use Rattle.sl_world.specs.ToldEvents.{nothing_told}
use Rattle.std.proofs.Common.{refl}

pub overflow_sub-machine : goal.overflow_sub-machine
overflow_sub-machine g c =
    let k = kept_state g.L.LockTable.locks c.args.self.now.kept in
    let s = crash_there g.D.Daemon.commands k c.args.machine c.requires.unrefused in
    (seat_there g.D.Daemon.commands g.D.Daemon.stands k c.args.self.now.hosts c.args.machine s.0 c.requires.world c.requires.stands_for s.1).1

pub end-requires : goal.end-requires
end-requires g c =
    let k = kept_state g.L.LockTable.locks c.args.self.now.kept in
    let s = crash_there g.D.Daemon.commands k c.args.machine c.requires.unrefused in
    (seat_there g.D.Daemon.commands g.D.Daemon.stands k c.args.self.now.hosts c.args.machine s.0 c.requires.world c.requires.stands_for s.1).0

pub returns-clause-ok : goal.returns-clause-ok
returns-clause-ok g c =
    own_told g.D.Daemon.commands g.D.Daemon.stands (kept_state g.L.LockTable.locks c.args.self.now.kept) c.args.self.now.hosts (Crash c.args.machine) no_effects (kept_state g.L.LockTable.locks c.crash.new.self) c.end.new.self nothing_told
    (ended_comes g.D.Daemon.commands g.D.Daemon.stands (kept_state g.L.LockTable.locks c.args.self.now.kept) c.args.self.now.hosts c.end.new.self c.args.machine
    (kept_state g.L.LockTable.locks c.crash.new.self) c.requires c.crash.ensures c.end.ensures)
    (no_input (machine_in (kept_state g.L.LockTable.locks c.args.self.now.kept) c.args.machine)) refl
