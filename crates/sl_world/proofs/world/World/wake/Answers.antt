use Rattle.sl_machine.specs.KeptParts.{kept_state}
use Rattle.sl_run.specs.declared.event.Event.TheVariants.{WakeUp}
use Rattle.sl_trace.specs.declared.input.Input.TheVariants.{Wake}
use Rattle.sl_world.proofs.AllowedEvents.{first_wake, wake_given, may_give}
use Rattle.sl_world.proofs.ToldSteps.{simply_told}
use Rattle.sl_world.proofs.world.World.wake.Goals as goal
use Rattle.std.proofs.lemmas.Result.{on_ok_weaker}

pub give-requires : goal.give-requires
give-requires g c =
    may_give g.D.Daemon.commands g.D.Daemon.stands (kept_state g.L.LockTable.locks c.args.self.now.kept) c.args.self.now.hosts (WakeUp c.args.machine) Wake c.requires
    (wake_given g.D.Daemon.commands (kept_state g.L.LockTable.locks c.args.self.now.kept) c.args.machine)

pub returns-clause-ok : goal.returns-clause-ok
returns-clause-ok g c =
    on_ok_weaker c.give.result
    (λ given. simply_told g.D.Daemon.commands g.D.Daemon.stands g.D.Daemon.makes (kept_state g.L.LockTable.locks c.args.self.now.kept) c.args.self.now.hosts (WakeUp c.args.machine) Wake c.give.new.told
    (kept_state g.L.LockTable.locks c.give.new.self.kept) c.give.new.self.hosts c.requires (wake_given g.D.Daemon.commands (kept_state g.L.LockTable.locks c.args.self.now.kept) c.args.machine) (first_wake (kept_state g.L.LockTable.locks c.args.self.now.kept) c.args.machine) given)
    c.give.ensures.ok
