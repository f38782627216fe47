use Rattle.sl_machine.specs.KeptParts.{kept_state}
use Rattle.sl_run.specs.declared.event.Event.TheVariants.{ExitOf}
use Rattle.sl_trace.specs.declared.input.Input.TheVariants.{Exit}
use Rattle.sl_world.proofs.AllowedEvents.{may_give}
use Rattle.sl_world.proofs.EndedEvents.{alone_comes, exit_gives, exit_there, first_exit}
use Rattle.sl_world.proofs.ToldSteps.{exit_silent, own_told, simply_told}
use Rattle.sl_world.proofs.world.World.exit.Goals as goal
use Rattle.std.proofs.Common.{sym, ◌∙◌}
use Rattle.std.proofs.lemmas.Result.{on_ok_weaker}
use Rattle.std.specs.Prelude.{true}

pub give-requires : goal.give-requires
give-requires g c =
    let k = kept_state g.L.LockTable.locks c.args.self.now.kept in
    may_give g.D.Daemon.commands g.D.Daemon.stands k c.args.self.now.hosts (ExitOf c.args.machine c.args.process) (Exit c.args.process) c.requires
    (λ none. let s = exit_there g.D.Daemon.commands k c.args.machine c.args.process none in exit_gives k c.args.machine c.args.process s.0 true s.1 (sym (c.runs_on-runs.ensures.there s.0 s.1) ∙ c.if-runs.true))

pub returns-then-runs-clause-ok : goal.returns-then-runs-clause-ok
returns-then-runs-clause-ok g c =
    on_ok_weaker c.give.result
    (λ given. simply_told g.D.Daemon.commands g.D.Daemon.stands g.D.Daemon.makes (kept_state g.L.LockTable.locks c.args.self.now.kept) c.args.self.now.hosts (ExitOf c.args.machine c.args.process) (Exit c.args.process) c.give.new.told
    (kept_state g.L.LockTable.locks c.give.new.self.kept) c.give.new.self.hosts c.requires
    (λ none. let s = exit_there g.D.Daemon.commands (kept_state g.L.LockTable.locks c.args.self.now.kept) c.args.machine c.args.process none in
    exit_gives (kept_state g.L.LockTable.locks c.args.self.now.kept) c.args.machine c.args.process s.0 true s.1 (sym (c.runs_on-runs.ensures.there s.0 s.1) ∙ c.if-runs.true))
    (first_exit (kept_state g.L.LockTable.locks c.args.self.now.kept) c.args.machine c.args.process) given)
    c.give.ensures.ok

pub returns-in_ok-effects-clause-ok : goal.returns-in_ok-effects-clause-ok
returns-in_ok-effects-clause-ok g c =
    let k = kept_state g.L.LockTable.locks c.args.self.now.kept in
    let s = exit_there g.D.Daemon.commands k c.args.machine c.args.process c.requires.unrefused in
    let off = sym (c.runs_on-runs.ensures.there s.0 s.1) ∙ c.if-runs.false in
    own_told g.D.Daemon.commands g.D.Daemon.stands k c.args.self.now.hosts (ExitOf c.args.machine c.args.process) c.in_ok-effects.effects
    (kept_state g.L.LockTable.locks c.exit_alone.new.kept) c.args.self.now.hosts c.tell_alone.new.told
    (alone_comes g.D.Daemon.commands g.D.Daemon.stands k c.args.self.now.hosts c.args.machine c.args.process s.0
    (kept_state g.L.LockTable.locks c.exit_alone.new.kept) c.in_ok-effects.effects c.requires s.1 off c.in_ok-effects.ensures.own c.in_ok-effects.ensures.kept)
    (exit_silent k c.args.machine c.args.process s.0 s.1 off) c.tell_alone.ensures
