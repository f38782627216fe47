use Rattle.sl_machine.specs.KeptParts.{kept_state}
use Rattle.sl_run.specs.declared.event.Event.TheVariants.{AnswerCall}
use Rattle.sl_trace.specs.declared.input.Answer.TheVariants.{Failed}
use Rattle.sl_trace.specs.declared.input.Input.TheVariants.{Answer as Told}
use Rattle.sl_world.proofs.AllowedEvents.{fail_given, first_answer, may_give}
use Rattle.sl_world.proofs.ToldSteps.{simply_told}
use Rattle.sl_world.proofs.world.World.fail.Goals as goal
use Rattle.std.proofs.lemmas.Result.{on_ok_weaker}
use Rattle.std.specs.Prelude.{false}

pub give-requires : goal.give-requires
give-requires g c =
    may_give g.D.Daemon.commands g.D.Daemon.stands (kept_state g.L.LockTable.locks c.args.self.now.kept) c.args.self.now.hosts (AnswerCall c.args.machine c.args.call false) (Told c.args.call Failed) c.requires
    (fail_given g.D.Daemon.commands (kept_state g.L.LockTable.locks c.args.self.now.kept) c.args.machine c.args.call)

pub returns-clause-ok : goal.returns-clause-ok
returns-clause-ok g c =
    on_ok_weaker c.give.result
    (λ given. simply_told g.D.Daemon.commands g.D.Daemon.stands g.D.Daemon.makes (kept_state g.L.LockTable.locks c.args.self.now.kept) c.args.self.now.hosts (AnswerCall c.args.machine c.args.call false) (Told c.args.call Failed) c.give.new.told
    (kept_state g.L.LockTable.locks c.give.new.self.kept) c.give.new.self.hosts c.requires (fail_given g.D.Daemon.commands (kept_state g.L.LockTable.locks c.args.self.now.kept) c.args.machine c.args.call) (first_answer (kept_state g.L.LockTable.locks c.args.self.now.kept) c.args.machine c.args.call false) given)
    c.give.ensures.ok
