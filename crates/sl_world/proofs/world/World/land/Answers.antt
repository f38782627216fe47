use Rattle.sl_world_state.specs.KeptWorld.{machine_in}
use Rattle.sl_machine.specs.KeptParts.{kept_state}
use Rattle.sl_run.specs.declared.event.Event.TheVariants.{Land}
use Rattle.sl_world.proofs.AllowedEvents.{first_land, no_input, no_own, quietly_comes}
use Rattle.sl_world.proofs.ToldSteps.{own_told}
use Rattle.sl_world.proofs.world.World.land.Goals as goal
use Rattle.sl_world.specs.ToldEvents.{nothing_told}
use Rattle.sl_trace.specs.Traces.{no_effects}
use Rattle.std.proofs.Common.{refl, sym, ◌∙◌}

pub returns-clause-ok : goal.returns-clause-ok
returns-clause-ok g c =
    own_told g.D.Daemon.commands g.D.Daemon.stands (kept_state g.L.LockTable.locks c.args.self.now.kept) c.args.self.now.hosts (Land c.args.machine c.args.call) no_effects (kept_state g.L.LockTable.locks c.land.new.self) c.args.self.now.hosts nothing_told
    (quietly_comes g.D.Daemon.commands g.D.Daemon.stands (kept_state g.L.LockTable.locks c.args.self.now.kept) c.args.self.now.hosts (Land c.args.machine c.args.call) (kept_state g.L.LockTable.locks c.land.new.self) c.requires
    (no_input (machine_in (kept_state g.L.LockTable.locks c.args.self.now.kept) c.args.machine)) (no_own (machine_in (kept_state g.L.LockTable.locks c.args.self.now.kept) c.args.machine)) refl (c.in_ok-land.ensures.ok ∙ sym (first_land (kept_state g.L.LockTable.locks c.args.self.now.kept) c.args.machine c.args.call)))
    (no_input (machine_in (kept_state g.L.LockTable.locks c.args.self.now.kept) c.args.machine)) refl
