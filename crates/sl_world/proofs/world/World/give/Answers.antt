use Rattle.sl_machine.specs.KeptParts.{kept_state}
use Rattle.sl_world.proofs.GivenSteps.{is_given, taken_up, takes_step}
use Rattle.sl_world.proofs.ToldSteps.{heard_part, step_told}
use Rattle.sl_world.proofs.world.World.give.Goals as goal
use Rattle.std.proofs.Common.{◌∙◌}

pub step-requires-2 : goal.step-requires-2
step-requires-2 g c =
    takes_step g.D.Daemon.commands g.D.Daemon.stands g.D.Daemon.makes g.L.LockTable.locks g.L.LockTable.has_room c.args.self.now.kept c.reserve.new.self c.args.self.now.hosts
    c.step.new.self c.args.machine c.reading-now.result c.args.input c.in_ok-effects.effects c.most-most.result (c.requires.ready (c.has_numbers-left.ensures.left c.if-not-left.false)) c.most-most.ensures c.reading-now.ensures.there
    c.in_ok-effects.ensures.ok c.reserve.ensures.same c.in_ok-reserve.ensures.room

pub returns-clause-ok : goal.returns-clause-ok
returns-clause-ok g c =
    record {
      effects = c.in_ok-effects.effects;
      given = is_given g.D.Daemon.stands g.D.Daemon.makes (kept_state g.L.LockTable.locks c.args.self.now.kept) (kept_state g.L.LockTable.locks c.step-2.new.self) c.args.self.now.hosts
          c.step.new.self c.args.machine c.reading-now.result c.args.input c.in_ok-effects.effects c.reading-now.ensures.there c.in_ok-effects.ensures.ok
          (c.step-2.ensures.stays ∙ taken_up g.L.LockTable.locks c.args.self.now.kept c.reserve.new.self c.args.machine c.args.input c.in_ok-locks.locks c.in_ok-effects.effects c.hear-heard.result
          c.reserve.ensures.same c.hear-heard.ensures (heard_part c.args.input c.in_ok-locks.locks c.in_ok-locks.ensures)) (c.has_numbers-left.ensures.left c.if-not-left.false);
      told_is = step_told c.step-2.new.told c.args.input c.in_ok-locks.locks c.in_ok-effects.effects (kept_state g.L.LockTable.locks c.args.self.now.kept)
          (kept_state g.L.LockTable.locks c.reserve.new.self) c.args.machine c.reserve.ensures.same c.in_ok-locks.ensures c.step-2.ensures.told;
    }
