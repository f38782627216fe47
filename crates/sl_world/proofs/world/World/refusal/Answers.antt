use Rattle.sl_world_state.specs.Refusals.{refusal_in}
use Rattle.sl_machine.proofs.AllRefusals.{refusals_are_those}
use Rattle.sl_machine.specs.KeptParts.{kept_state}
use Rattle.sl_machine.specs.EventTests.{refusal_with}
use Rattle.sl_world.proofs.GivenSteps.{if_ok_then}
use Rattle.sl_world.proofs.world.World.refusal.Goals as goal
use Rattle.std.proofs.Common.{sym, ◌∙◌, ◌≡◌}

pub returns-clause-exact : goal.returns-clause-exact
returns-clause-exact g c =
    let k = kept_state g.L.LockTable.locks c.args.self.now.kept in
    if_ok_then (λ r. r ≡ refusal_with c.is_for_locks-locks.result k c.args.event.now) (λ r. r ≡ refusal_in g.D.Daemon.commands k c.args.event.now) c.refusal.result
    (λ r is. is ∙ refusals_are_those g.D.Daemon.commands k c.args.event.now c.is_for_locks-locks.result (sym c.is_for_locks-locks.ensures)) c.refusal.ensures.exact
