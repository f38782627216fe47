use Rattle.sl_machine.specs.KeptParts.{kept_state}
use Rattle.sl_run.specs.declared.event.Event.TheVariants.{Do}
use Rattle.sl_trace.specs.declared.input.Answer.TheVariants.{Written}
use Rattle.sl_trace.specs.declared.input.Input.TheVariants.{Answer as Told}
use Rattle.sl_world.proofs.AllowedEvents.{do_given, may_give}
use Rattle.sl_world.proofs.DoneCalls.{sized_after, write_comes}
use Rattle.sl_world.proofs.ToldSteps.{told_comes}
use Rattle.sl_world.proofs.world.World.do_write.Goals as goal
use Rattle.std.specs.Prelude.{None}

pub give-requires : goal.give-requires
give-requires g c =
    may_give g.D.Daemon.commands g.D.Daemon.stands (kept_state g.L.LockTable.locks c.args.self.now.kept) c.args.self.now.hosts (Do c.args.machine c.args.call) (Told c.args.call Written) c.requires.allowed
    (do_given g.D.Daemon.commands (kept_state g.L.LockTable.locks c.args.self.now.kept) c.args.machine c.args.call None c.requires.writes)

pub put-requires : goal.put-requires
put-requires g c =
    sized_after g.D.Daemon.stands g.D.Daemon.makes (kept_state g.L.LockTable.locks c.args.self.now.kept) (kept_state g.L.LockTable.locks c.give.new.self.kept) c.args.self.now.hosts c.give.new.self.hosts c.args.machine c.args.call
    c.in_ok-landing.landing c.in_ok-give.ensures.ok.effects
    (record { none = c.in_ok-landing.ensures.none; some = c.in_ok-landing.ensures.some; flies = c.in_ok-landing.ensures.flies }) c.in_ok-give.ensures.ok.given

pub returns-clause-ok : goal.returns-clause-ok
returns-clause-ok g c =
    let k = kept_state g.L.LockTable.locks c.args.self.now.kept in
    told_comes g.D.Daemon.commands g.D.Daemon.stands g.D.Daemon.makes k c.args.self.now.hosts (Do c.args.machine c.args.call) (Told c.args.call Written) c.give.new.told
    (kept_state g.L.LockTable.locks c.give.new.self.kept) (kept_state g.L.LockTable.locks c.put.new.kept) c.give.new.self.hosts
    (do_given g.D.Daemon.commands k c.args.machine c.args.call None c.requires.writes c.requires.allowed.unrefused) c.in_ok-give.ensures.ok
    (λ fx given. write_comes g.D.Daemon.commands g.D.Daemon.stands g.D.Daemon.makes k c.args.self.now.hosts c.args.machine c.args.call c.in_ok-landing.landing fx
    (kept_state g.L.LockTable.locks c.give.new.self.kept) (kept_state g.L.LockTable.locks c.put.new.kept) c.give.new.self.hosts c.requires.allowed c.requires.writes
    (record { none = c.in_ok-landing.ensures.none; some = c.in_ok-landing.ensures.some; flies = c.in_ok-landing.ensures.flies }) given c.put.ensures)
