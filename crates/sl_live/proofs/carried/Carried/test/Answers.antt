use Rattle.sl_book.specs.Logs.{entries}
use Rattle.sl_live.proofs.CarriedLaws.{guard_carried}
use Rattle.sl_live.proofs.carried.Carried.test.Goals as goal
use Rattle.sl_live.specs.CarriedOut.{AreCarried}
use Rattle.std.proofs.Common.{subst, sym}

pub invariant_of-self : goal.invariant_of-self
invariant_of-self g c = λ whole.
    let k = c.self.inside in
    subst (λ x. AreCarried g.P.Spawner.acts (entries k.front) k.taken k.killed x) (sym c.in_err-killed.ensures.err.1) (c.self.invariant whole)

pub invariant_of-self-2 : goal.invariant_of-self-2
invariant_of-self-2 g c = λ whole.
    let k = c.self.inside in
    let so = c.in_ok-killed.ensures in
    subst (λ b. AreCarried g.P.Spawner.acts (entries k.front) k.taken b c.device_step.new.children) (sym c.either-killed.ensures)
    (guard_carried g.P.Spawner.acts g.P.Spawner.faults g.P.Spawner.running (g.C.Clock.last c.device_step.new.clock) (g.V.Device.last c.args.device.now) (g.V.Device.last c.device_step.new.device)
    (g.V.Device.fire c.args.device.now) so.ok.0 c.in_ok-killed.killed (entries k.front) k.taken k.killed k.children c.device_step.new.children so.killed so.ok.2
    (c.self.invariant whole))
