use Rattle.sl_world_state.specs.KeptWorld.{MachineState}
use Rattle.sl_machine.specs.Machines.{machine_state}
use Rattle.sl_world.proofs.ends.runs_on.Goals as goal
use Rattle.sl_words.proofs.CaseLaws.{none_some, some_value}
use Rattle.std.proofs.Common.{ap, ◌∙◌}

pub returns-in-None-clause-there : goal.returns-in-None-clause-there
returns-in-None-clause-there g c = λ s there. absurd (none_some s (c.in-None.ensures ∙ there))

pub returns-in-Some-clause-there : goal.returns-in-Some-clause-there
unfolding machine_state
returns-in-Some-clause-there g c =
    λ s there. ap (λ (x : MachineState). x.runs) (some_value (machine_state g.L.LockTable.locks c.in-Some.found.now) s (c.in-Some.ensures ∙ there))
