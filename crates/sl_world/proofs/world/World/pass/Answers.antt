use Rattle.sl_world_state.specs.KeptWorld.{machine_in}
use Rattle.sl_machine.specs.KeptParts.{kept_state}
use Rattle.sl_run.specs.declared.event.Event.TheVariants.{Pass}
use Rattle.sl_trace.specs.Traces.{no_effects}
use Rattle.sl_world.proofs.AllowedEvents.{first_pass, no_input, no_own, quietly_comes, pass_allowed}
use Rattle.sl_world.proofs.ToldSteps.{own_told}
use Rattle.sl_world.proofs.world.World.pass.Goals as goal
use Rattle.sl_world.specs.ToldEvents.{nothing_told}
use Rattle.std.proofs.Common.{refl, sym, ◌∙◌}

pub pass-requires : goal.pass-requires
pass-requires g c = pass_allowed g.D.Daemon.commands (kept_state g.L.LockTable.locks c.args.self.now.kept) c.args.time c.args.growths.now c.requires.unrefused

pub returns-clause-ok : goal.returns-clause-ok
returns-clause-ok g c =
    own_told g.D.Daemon.commands g.D.Daemon.stands (kept_state g.L.LockTable.locks c.args.self.now.kept) c.args.self.now.hosts (Pass c.args.time c.args.growths.now) no_effects (kept_state g.L.LockTable.locks c.pass.new.self) c.args.self.now.hosts nothing_told
    (quietly_comes g.D.Daemon.commands g.D.Daemon.stands (kept_state g.L.LockTable.locks c.args.self.now.kept) c.args.self.now.hosts (Pass c.args.time c.args.growths.now) (kept_state g.L.LockTable.locks c.pass.new.self) c.requires
    (no_input (machine_in (kept_state g.L.LockTable.locks c.args.self.now.kept) 0)) (no_own (machine_in (kept_state g.L.LockTable.locks c.args.self.now.kept) 0)) refl (c.pass.ensures ∙ sym (first_pass (kept_state g.L.LockTable.locks c.args.self.now.kept) c.args.time c.args.growths.now)))
    (no_input (machine_in (kept_state g.L.LockTable.locks c.args.self.now.kept) 0)) refl
