-- An event of which nothing is told comes to pass, or is refused.
use Rattle.sl_machine.specs.KeptParts.{kept_state}
use Rattle.sl_play.proofs.EventsHappen.{handed_on, never_many, refused_ok, refused_so, stands_so}
use Rattle.sl_play.proofs.UntoldEvents.{untold_passes, untold_so, untold_stays}
use Rattle.sl_play.proofs.play.Play.happen_untold.Goals as goal
use Rattle.sl_play.specs.Plays.{state_of}
use Rattle.sl_play.specs.declared.step_counts.PlayError.TheVariants.{TooMany}
use Rattle.sl_world.specs.ToldEvents.{nothing_told}
use Rattle.std.proofs.Common.{ap}
use Rattle.std.specs.Prelude.{Err}

pub returns-in_err-tell_test-in-Ok-clause-many : goal.returns-in_err-tell_test-in-Ok-clause-many
returns-in_err-tell_test-in-Ok-clause-many g c = λ is.
    untold_passes g.L.LockTable.locks g.D.Daemon.commands g.D.Daemon.stands (state_of g.L.LockTable.locks c.args.self.now) c.apply_untold.new.self c.args.event c.requires.untold c.in-Ok.ensures.ok
    (c.in_err-tell_test-in-Ok.ensures.many (ap (λ e. Err e) (handed_on c.from_residual.result c.in_err-tell_test-in-Ok.field-0.0 TooMany c.from_residual.ensures.1 is)))

pub returns-in_err-tell_test-in-Ok-clause-stands : goal.returns-in_err-tell_test-in-Ok-clause-stands
returns-in_err-tell_test-in-Ok-clause-stands g c =
    stands_so g.L.LockTable.locks g.D.Daemon.commands g.D.Daemon.stands (state_of g.L.LockTable.locks c.args.self.now) c.apply_untold.new.self c.tell_test.new.self.world c.args.event nothing_told
    c.tell_test.ensures.world c.requires.stands c.in-Ok.ensures.ok

pub returns-in-Err-clause-ok : goal.returns-in-Err-clause-ok
returns-in-Err-clause-ok g c =
    refused_ok g.D.Daemon.commands g.D.Daemon.stands (state_of g.L.LockTable.locks c.args.self.now) c.args.event c.args.out.now.items (kept_state g.L.LockTable.locks c.apply_untold.new.self.kept)
    c.apply_untold.new.self.hosts c.in-Err.error c.after_error.result c.after_error.ensures c.in-Err.ensures.err c.in-Err.ensures.only

pub returns-in-Err-clause-refused : goal.returns-in-Err-clause-refused
returns-in-Err-clause-refused g c w s why there = refused_so c.in-Err.error c.after_error.result why _ c.after_error.ensures (c.in-Err.ensures.refused w s why there)

pub returns-in-Err-clause-many : goal.returns-in-Err-clause-many
returns-in-Err-clause-many g c = λ is. never_many c.in-Err.error c.after_error.result c.after_error.ensures is

pub returns-in_ok-tell_test-in-Ok-clause-ok : goal.returns-in_ok-tell_test-in-Ok-clause-ok
returns-in_ok-tell_test-in-Ok-clause-ok g c =
    untold_so g.L.LockTable.locks g.D.Daemon.commands g.D.Daemon.stands (state_of g.L.LockTable.locks c.args.self.now) c.apply_untold.new.self c.args.event c.requires.untold c.in-Ok.ensures.ok
    c.tell_test.new.self.world c.tell_test.new.self.counts c.machine_of-machine.result c.test_of-test.result c.args.out.now.items c.tell_test.new.out.items c.tell_test.ensures.world
    c.machine_of-machine.ensures c.test_of-test.ensures c.in_ok-tell_test-in-Ok.ensures.counts c.in_ok-tell_test-in-Ok.ensures.text

pub returns-in_ok-tell_test-in-Ok-clause-stands : goal.returns-in_ok-tell_test-in-Ok-clause-stands
returns-in_ok-tell_test-in-Ok-clause-stands g c =
    stands_so g.L.LockTable.locks g.D.Daemon.commands g.D.Daemon.stands (state_of g.L.LockTable.locks c.args.self.now) c.apply_untold.new.self c.tell_test.new.self.world c.args.event nothing_told
    c.tell_test.ensures.world c.requires.stands c.in-Ok.ensures.ok

pub invariant_of-self : goal.invariant_of-self
invariant_of-self g c =
    record {
      known = untold_stays g.L.LockTable.locks g.D.Daemon.commands g.D.Daemon.stands c.args.self.now.world c.apply_untold.new.self c.args.event c.args.self.now.calm c.apply_untold.result
          c.args.self.now.known c.requires.stands c.apply_untold.ensures.ok c.apply_untold.ensures.err;
    }
