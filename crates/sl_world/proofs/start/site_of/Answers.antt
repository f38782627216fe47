use Rattle.sl_machine.specs.Machines.{machine_state}
use Rattle.sl_world.proofs.StartedDaemons.{site_is}
use Rattle.sl_world.proofs.start.site_of.Goals as goal
use Rattle.std.proofs.Common.{ap, sym, ◌∙◌}
use Rattle.std.specs.Option.{option_copied, option_map}

pub returns-in-Some-clause-site : goal.returns-in-Some-clause-site
returns-in-Some-clause-site g c =
    site_is g.L.LockTable.locks c.args.kept.now c.args.machine c.args.name c.in-Some.found.now c.next.result c.new-in-Some.result
    (sym c.machine.ensures ∙ ap (λ o. option_map (machine_state g.L.LockTable.locks) (option_copied o)) c.in-Some.is) c.next.ensures (c.new-in-Some.ensures ∙ c.new.ensures.items)
