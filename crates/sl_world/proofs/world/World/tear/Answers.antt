use Rattle.sl_world_state.specs.Changes.{torn_by}
use Rattle.sl_world_state.specs.Refusals.{refusal_in}
use Rattle.sl_machine.specs.KeptParts.{kept_state}
use Rattle.sl_machine.specs.EventTests.{tear_tests}
use Rattle.sl_run.specs.Worlds.{first_that}
use Rattle.sl_run.specs.declared.event.Event.TheVariants.{Tear}
use Rattle.sl_trace.specs.Traces.{no_effects}
use Rattle.sl_world.proofs.EndedEvents.{if_err_then, on_ok_both, tear_comes, tear_refused}
use Rattle.sl_world.proofs.world.World.tear.Goals as goal
use Rattle.sl_world.specs.AllowedEvents.{AllCome}
use Rattle.std.specs.Prelude.{None, Some, ◌≡◌}

pub returns-clause-refused : goal.returns-clause-refused
returns-clause-refused g c =
    if_err_then (λ r. first_that (tear_tests (kept_state g.L.LockTable.locks c.args.self.now.kept) c.args.machine c.args.call c.args.kept c.args.bytes.now) ≡ Some r)
    (λ r. refusal_in g.D.Daemon.commands (kept_state g.L.LockTable.locks c.args.self.now.kept) (Tear c.args.machine c.args.call c.args.kept c.args.bytes.now) ≡ Some r)
    c.in_ok-told.told
    (λ r is. tear_refused g.D.Daemon.commands (kept_state g.L.LockTable.locks c.args.self.now.kept) c.args.machine c.args.call c.args.kept c.args.bytes.now (Some r) c.requires.shaped is)
    c.in_ok-told.ensures.refused

pub returns-clause-come : goal.returns-clause-come
returns-clause-come g c =
    on_ok_both (first_that (tear_tests (kept_state g.L.LockTable.locks c.args.self.now.kept) c.args.machine c.args.call c.args.kept c.args.bytes.now) ≡ None)
    (kept_state g.L.LockTable.locks c.tear.new.self ≡ torn_by c.args.machine c.args.call c.args.kept c.args.bytes.now (kept_state g.L.LockTable.locks c.args.self.now.kept))
    (AllCome g.D.Daemon.commands g.D.Daemon.stands (kept_state g.L.LockTable.locks c.args.self.now.kept) c.args.self.now.hosts (Tear c.args.machine c.args.call c.args.kept c.args.bytes.now)
    (kept_state g.L.LockTable.locks c.tear.new.self) c.args.self.now.hosts no_effects)
    c.in_ok-told.told
    (λ none is. tear_comes g.D.Daemon.commands g.D.Daemon.stands (kept_state g.L.LockTable.locks c.args.self.now.kept) c.args.self.now.hosts c.args.machine c.args.call c.args.kept c.args.bytes.now
    (kept_state g.L.LockTable.locks c.tear.new.self) c.requires.some c.requires.shaped none is)
    c.in_ok-told.ensures.allowed c.in_ok-told.ensures.torn
