use Rattle.sl_world_state.specs.Daemons.{read_of}
use Rattle.sl_machine.specs.KeptParts.{kept_state}
use Rattle.sl_run.specs.declared.event.Event.TheVariants.{AnswerCall}
use Rattle.sl_trace.specs.declared.input.Answer.TheVariants.{Written}
use Rattle.sl_trace.specs.declared.input.Input.TheVariants.{Answer as Told}
use Rattle.sl_world.proofs.AllowedEvents.{answer_given, first_answer, may_give}
use Rattle.sl_world.proofs.ToldSteps.{simply_told}
use Rattle.sl_world.proofs.world.World.answer_ok.Goals as goal
use Rattle.sl_world.specs.GivenSteps.{HasSampled}
use Rattle.std.proofs.Common.{subst}
use Rattle.std.proofs.lemmas.Result.{on_ok_weaker}
use Rattle.std.specs.Prelude.{None, Some, option_map, true}

pub give_read-requires : goal.give_read-requires
give_read-requires g c =
    may_give g.D.Daemon.commands g.D.Daemon.stands (kept_state g.L.LockTable.locks c.args.self.now.kept) c.args.self.now.hosts (AnswerCall c.args.machine c.args.call true) (read_of c.args.call c.in-Some.sectors) c.requires
    (answer_given g.D.Daemon.commands (kept_state g.L.LockTable.locks c.args.self.now.kept) c.args.machine c.args.call (Some c.in-Some.sectors.bytes) (λ f there. subst (λ o. HasSampled f f.sampled (option_map (λ s. s.bytes) o)) c.in-Some.is (c.in_ok-sectors.ensures f there)))

pub returns-in-Some-clause-ok : goal.returns-in-Some-clause-ok
returns-in-Some-clause-ok g c =
    on_ok_weaker c.give_read.result
    (λ given. simply_told g.D.Daemon.commands g.D.Daemon.stands g.D.Daemon.makes (kept_state g.L.LockTable.locks c.args.self.now.kept) c.args.self.now.hosts (AnswerCall c.args.machine c.args.call true) (read_of c.args.call c.in-Some.sectors) c.give_read.new.told
    (kept_state g.L.LockTable.locks c.give_read.new.self.kept) c.give_read.new.self.hosts c.requires (answer_given g.D.Daemon.commands (kept_state g.L.LockTable.locks c.args.self.now.kept) c.args.machine c.args.call (Some c.in-Some.sectors.bytes) (λ f there. subst (λ o. HasSampled f f.sampled (option_map (λ s. s.bytes) o)) c.in-Some.is (c.in_ok-sectors.ensures f there))) (first_answer (kept_state g.L.LockTable.locks c.args.self.now.kept) c.args.machine c.args.call true) given)
    c.give_read.ensures.ok

pub give-requires : goal.give-requires
give-requires g c =
    may_give g.D.Daemon.commands g.D.Daemon.stands (kept_state g.L.LockTable.locks c.args.self.now.kept) c.args.self.now.hosts (AnswerCall c.args.machine c.args.call true) (Told c.args.call Written) c.requires
    (answer_given g.D.Daemon.commands (kept_state g.L.LockTable.locks c.args.self.now.kept) c.args.machine c.args.call None (λ f there. subst (λ o. HasSampled f f.sampled (option_map (λ s. s.bytes) o)) c.in-None.is (c.in_ok-sectors.ensures f there)))

pub returns-in-None-clause-ok : goal.returns-in-None-clause-ok
returns-in-None-clause-ok g c =
    on_ok_weaker c.give.result
    (λ given. simply_told g.D.Daemon.commands g.D.Daemon.stands g.D.Daemon.makes (kept_state g.L.LockTable.locks c.args.self.now.kept) c.args.self.now.hosts (AnswerCall c.args.machine c.args.call true) (Told c.args.call Written) c.give.new.told
    (kept_state g.L.LockTable.locks c.give.new.self.kept) c.give.new.self.hosts c.requires (answer_given g.D.Daemon.commands (kept_state g.L.LockTable.locks c.args.self.now.kept) c.args.machine c.args.call None (λ f there. subst (λ o. HasSampled f f.sampled (option_map (λ s. s.bytes) o)) c.in-None.is (c.in_ok-sectors.ensures f there))) (first_answer (kept_state g.L.LockTable.locks c.args.self.now.kept) c.args.machine c.args.call true) given)
    c.give.ensures.ok
