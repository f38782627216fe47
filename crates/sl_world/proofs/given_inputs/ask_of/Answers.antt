use Rattle.sl_machine.specs.Machines.{machine_state}
use Rattle.sl_world.proofs.GivenSteps.{ask_there}
use Rattle.sl_world.proofs.given_inputs.ask_of.Goals as goal
use Rattle.std.proofs.Common.{ap, sym, ◌∙◌}
use Rattle.std.specs.Option.{option_copied, option_map}

pub returns-in-Some-2 : goal.returns-in-Some-2
returns-in-Some-2 g c =
    ask_there g.L.LockTable.locks c.args.kept.now c.args.machine c.in-Some.found.now c.in-Some-2.text
    (sym c.machine.ensures ∙ ap (λ o. option_map (machine_state g.L.LockTable.locks) (option_copied o)) c.in-Some.is) (sym c.in-Some-2.is ∙ c.in_ok-text-in-Some.ensures)
