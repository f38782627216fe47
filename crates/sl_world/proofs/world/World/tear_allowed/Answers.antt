use Rattle.sl_machine.specs.KeptParts.{kept_state}
use Rattle.sl_run.specs.declared.event.Event.TheVariants.{Tear}
use Rattle.sl_trace.specs.Traces.{no_effects}
use Rattle.sl_world.proofs.AllowedEvents.{no_input}
use Rattle.sl_world.proofs.ToldSteps.{own_told}
use Rattle.sl_world.proofs.world.World.tear_allowed.Goals as goal
use Rattle.sl_world.specs.ToldEvents.{nothing_told}
use Rattle.sl_world.specs.AllowedEvents.{AllCome}
use Rattle.sl_world_state.specs.KeptWorld.{machine_in}
use Rattle.std.proofs.Common.{refl, subst}
use Rattle.std.specs.Prelude.{OnOk}

pub returns-clause-ok : goal.returns-clause-ok
returns-clause-ok g c =
    let k = kept_state g.L.LockTable.locks c.args.self.now.kept in
    own_told g.D.Daemon.commands g.D.Daemon.stands k c.args.self.now.hosts (Tear c.args.machine c.args.call c.args.kept c.args.bytes.now) no_effects (kept_state g.L.LockTable.locks c.tear.new.self.kept) c.tear.new.self.hosts nothing_told
    (subst (λ x. OnOk x (AllCome g.D.Daemon.commands g.D.Daemon.stands k c.args.self.now.hosts (Tear c.args.machine c.args.call c.args.kept c.args.bytes.now) (kept_state g.L.LockTable.locks c.tear.new.self.kept) c.tear.new.self.hosts no_effects)) c.in-Ok.is c.in_ok-tear.ensures.come)
    (no_input (machine_in k c.args.machine)) refl
