use Rattle.sl_world_state.specs.Daemons.{read_of}
use Rattle.sl_world_state.specs.Inputs.{rest_in}
use Rattle.sl_world_state.specs.Refusals.{left_in}
use Rattle.sl_machine.specs.KeptParts.{kept_state}
use Rattle.sl_run.specs.declared.event.Event.TheVariants.{Do}
use Rattle.sl_world.proofs.AllowedEvents.{do_given, may_give}
use Rattle.sl_world.proofs.DoneCalls.{read_comes}
use Rattle.sl_world.proofs.ToldSteps.{told_comes}
use Rattle.sl_world.proofs.world.World.do_call.Goals as goal
use Rattle.sl_world.specs.AllowedEvents.{MayGive}
use Rattle.sl_world.specs.GivenSteps.{HasSampled}
use Rattle.sl_world.specs.ToldEvents.{GivesTold}
use Rattle.std.proofs.Common.{subst, sym}
use Rattle.std.proofs.lemmas.Result.{on_ok_weaker}
use Rattle.std.specs.Prelude.{Some, option_map}

pub give_read-requires : goal.give_read-requires
give_read-requires g c =
    subst (λ k. MayGive g.D.Daemon.stands k c.args.self.now.hosts c.args.machine (read_of c.args.call c.in-Some.sectors)) (sym c.gathered.ensures.same)
    (may_give g.D.Daemon.commands g.D.Daemon.stands (kept_state g.L.LockTable.locks c.args.self.now.kept) c.args.self.now.hosts (Do c.args.machine c.args.call) (read_of c.args.call c.in-Some.sectors) c.requires
    (do_given g.D.Daemon.commands (kept_state g.L.LockTable.locks c.args.self.now.kept) c.args.machine c.args.call (Some c.in-Some.sectors.bytes) (λ f there. subst (λ o. HasSampled f (rest_in (kept_state g.L.LockTable.locks c.args.self.now.kept) f (left_in f)) (option_map (λ s. s.bytes) o)) c.in-Some.is (c.in_ok-sectors.ensures.bytes f there))))

pub returns-in-Some-clause-ok : goal.returns-in-Some-clause-ok
returns-in-Some-clause-ok g c =
    let k = kept_state g.L.LockTable.locks c.args.self.now.kept in
    on_ok_weaker c.give_read.result
    (λ given. told_comes g.D.Daemon.commands g.D.Daemon.stands g.D.Daemon.makes k c.args.self.now.hosts (Do c.args.machine c.args.call) (read_of c.args.call c.in-Some.sectors) c.give_read.new.told
    (kept_state g.L.LockTable.locks c.give_read.new.self.kept) (kept_state g.L.LockTable.locks c.give_read.new.self.kept) c.give_read.new.self.hosts
    (do_given g.D.Daemon.commands k c.args.machine c.args.call (Some c.in-Some.sectors.bytes)
    (λ f there. subst (λ o. HasSampled f (rest_in k f (left_in f)) (option_map (λ s. s.bytes) o)) c.in-Some.is (c.in_ok-sectors.ensures.bytes f there)) c.requires.unrefused)
    (subst (λ x. GivesTold g.D.Daemon.stands g.D.Daemon.makes x c.args.self.now.hosts c.args.machine (read_of c.args.call c.in-Some.sectors)
    (kept_state g.L.LockTable.locks c.give_read.new.self.kept) c.give_read.new.self.hosts c.give_read.new.told) c.gathered.ensures.same given)
    (λ fx g'. read_comes g.D.Daemon.commands g.D.Daemon.stands g.D.Daemon.makes k c.args.self.now.hosts c.args.machine c.args.call c.in-Some.sectors.bytes fx
    (kept_state g.L.LockTable.locks c.give_read.new.self.kept) c.give_read.new.self.hosts c.requires
    (λ f there. subst (λ o. HasSampled f (rest_in k f (left_in f)) (option_map (λ s. s.bytes) o)) c.in-Some.is (c.in_ok-sectors.ensures.bytes f there)) g'))
    c.give_read.ensures.ok
