use Rattle.sl_world_state.specs.KeptWorld.{MachineState}
use Rattle.sl_locks.specs.Steps.{lock_input}
use Rattle.sl_machine.proofs.machine.Machine.step.Goals as goal
use Rattle.sl_machine.specs.Machines.{machine_state}
use Rattle.sl_run.specs.Locks.{locks_after, told_effects}
use Rattle.std.proofs.Common.{ap, ◌∙◌}

pub returns-clause-stays : goal.returns-clause-stays
unfolding machine_state
returns-clause-stays g c =
    c.turn_locks.ensures.stays
    ∙ ap (λ (s : MachineState). record s { locks = (locks_after c.args.self.now.job (lock_input c.args.input) c.args.told.now.effects s.locks).0 }) c.put_away.ensures.stays

pub returns-clause-told : goal.returns-clause-told
unfolding machine_state
returns-clause-told g c =
    record {
      effects = c.turn_locks.ensures.effects ∙ ap (λ (s : MachineState). told_effects c.args.self.now.job (lock_input c.args.input) c.args.told.now.effects s.locks) c.put_away.ensures.stays;
      line = c.turn_locks.ensures.line ∙ ap (λ (s : MachineState). (locks_after c.args.self.now.job (lock_input c.args.input) c.args.told.now.effects s.locks).1) c.put_away.ensures.stays;
    }
