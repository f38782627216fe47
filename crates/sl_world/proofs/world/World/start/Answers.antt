use Rattle.sl_world_state.specs.KeptWorld.{KeptState, machine_in}
use Rattle.sl_machine.specs.KeptParts.{kept_state}
use Rattle.sl_run.specs.declared.event.Event.TheVariants.{StartDaemon}
use Rattle.sl_text.specs.Names.{is_name}
use Rattle.sl_trace.specs.Traces.{no_effects}
use Rattle.sl_world.proofs.AllowedEvents.{no_input, seat_there}
use Rattle.sl_world.proofs.StartedDaemons.{new_name, setting_there, start_there, started_comes, started_kept}
use Rattle.sl_world.proofs.ToldSteps.{own_told}
use Rattle.sl_world.proofs.world.World.start.Goals as goal
use Rattle.sl_world.specs.ToldEvents.{nothing_told}
use Rattle.std.proofs.Common.{ap, refl, subst, ◌∙◌}
use Rattle.std.specs.Prelude.{IsTrue}

pub overflow_sub-machine : goal.overflow_sub-machine
overflow_sub-machine g c =
    let s = start_there g.D.Daemon.commands (kept_state g.L.LockTable.locks c.args.self.now.kept) c.args.machine c.args.name c.requires.unrefused in
    (seat_there g.D.Daemon.commands g.D.Daemon.stands (kept_state g.L.LockTable.locks c.args.self.now.kept) c.args.self.now.hosts c.args.machine s.0 c.requires.world c.requires.stands_for s.1).1

pub start-requires-clause-place : goal.start-requires-clause-place
start-requires-clause-place g c =
    let s = start_there g.D.Daemon.commands (kept_state g.L.LockTable.locks c.args.self.now.kept) c.args.machine c.args.name c.requires.unrefused in
    (seat_there g.D.Daemon.commands g.D.Daemon.stands (kept_state g.L.LockTable.locks c.args.self.now.kept) c.args.self.now.hosts c.args.machine s.0 c.requires.world c.requires.stands_for s.1).0

pub start-requires-clause-site : goal.start-requires-clause-site
start-requires-clause-site g c =
    setting_there g.D.Daemon.commands g.D.Daemon.stands (kept_state g.L.LockTable.locks c.args.self.now.kept) c.args.self.now.hosts c.args.machine c.args.name c.header.result.now c.in_ok-site-in-Some.site c.requires
    (subst (λ n. IsTrue (is_name n)) c.as_slice.ensures c.in-Some.ensures.found.1) (c.header.ensures.exact ∙ ap (λ (z : KeptState). z.header) c.reserve_name.ensures.same) c.in_ok-site-in-Some.ensures.site

pub start-requires-in-Some-clause-new : goal.start-requires-in-Some-clause-new
start-requires-in-Some-clause-new g c =
    new_name g.L.LockTable.locks c.args.self.now.kept c.reserve_name.new.self c.args.name c.reserve_name.ensures.same
    (start_there g.D.Daemon.commands (kept_state g.L.LockTable.locks c.args.self.now.kept) c.args.machine c.args.name c.requires.unrefused).2

pub returns-in_ok-start-in-Some-clause-ok : goal.returns-in_ok-start-in-Some-clause-ok
returns-in_ok-start-in-Some-clause-ok g c =
    own_told g.D.Daemon.commands g.D.Daemon.stands (kept_state g.L.LockTable.locks c.args.self.now.kept) c.args.self.now.hosts (StartDaemon c.args.machine c.args.name) no_effects (kept_state g.L.LockTable.locks c.start-in-Some.new.self) c.start.new.self nothing_told
    (started_comes g.D.Daemon.commands g.D.Daemon.stands (kept_state g.L.LockTable.locks c.args.self.now.kept) c.args.self.now.hosts c.start.new.self c.args.machine c.args.name c.header.result.now c.in_ok-site-in-Some.site
    (kept_state g.L.LockTable.locks c.start-in-Some.new.self) c.requires (subst (λ n. IsTrue (is_name n)) c.as_slice.ensures c.in-Some.ensures.found.1) (c.header.ensures.exact ∙ ap (λ (z : KeptState). z.header) c.reserve_name.ensures.same) c.in_ok-site-in-Some.ensures.site c.in_ok-start-in-Some.ensures.ok
    (c.start-in-Some.ensures ∙ started_kept g.L.LockTable.locks c.args.self.now.kept c.reserve_name.new.self c.args.machine c.args.name c.reserve_name.ensures.same))
    (no_input (machine_in (kept_state g.L.LockTable.locks c.args.self.now.kept) c.args.machine)) refl
