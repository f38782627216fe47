use Rattle.sl_machine.specs.KeptParts.{kept_state}
use Rattle.sl_run.specs.declared.event.Event.TheVariants.{GiveLvm}
use Rattle.sl_trace.specs.declared.input.Input.TheVariants.{Number}
use Rattle.sl_world.proofs.AllowedEvents.{first_lvm, lvm_given, may_give}
use Rattle.sl_world.proofs.ToldSteps.{simply_told}
use Rattle.sl_world.proofs.world.World.lvm_line.Goals as goal
use Rattle.std.proofs.lemmas.Result.{on_ok_weaker}

pub give-requires : goal.give-requires
give-requires g c =
    may_give g.D.Daemon.commands g.D.Daemon.stands (kept_state g.L.LockTable.locks c.args.self.now.kept) c.args.self.now.hosts (GiveLvm c.args.machine c.args.line) (Number c.args.line) c.requires
    (lvm_given g.D.Daemon.commands (kept_state g.L.LockTable.locks c.args.self.now.kept) c.args.machine c.args.line)

pub returns-clause-ok : goal.returns-clause-ok
returns-clause-ok g c =
    on_ok_weaker c.give.result
    (λ given. simply_told g.D.Daemon.commands g.D.Daemon.stands g.D.Daemon.makes (kept_state g.L.LockTable.locks c.args.self.now.kept) c.args.self.now.hosts (GiveLvm c.args.machine c.args.line) (Number c.args.line) c.give.new.told
    (kept_state g.L.LockTable.locks c.give.new.self.kept) c.give.new.self.hosts c.requires (lvm_given g.D.Daemon.commands (kept_state g.L.LockTable.locks c.args.self.now.kept) c.args.machine c.args.line) (first_lvm (kept_state g.L.LockTable.locks c.args.self.now.kept) c.args.machine c.args.line) given)
    c.give.ensures.ok
