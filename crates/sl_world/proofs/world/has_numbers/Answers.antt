use Rattle.sl_machine.specs.Machines.{machine_state}
use Rattle.sl_world.proofs.GivenSteps.{none_below, not_below, numbers_lack, numbers_there}
use Rattle.sl_world.proofs.world.has_numbers.Goals as goal
use Rattle.std.proofs.Common.{ap, subst, sym, ◌<◌, ◌∙◌, ◌≤◌}
use Rattle.std.specs.Option.{option_copied, option_map}

pub returns-then-next-lt-LEFT-clause-left : goal.returns-then-next-lt-LEFT-clause-left
returns-then-next-lt-LEFT-clause-left g c job =
    numbers_there g.L.LockTable.locks c.args.kept.now c.args.machine c.in-Some.found.now
    (sym c.machine.ensures ∙ ap (λ o. option_map (machine_state g.L.LockTable.locks) (option_copied o)) c.in-Some.is)
    (subst (λ n. n < 9223372036854773760) c.next.ensures c.if-next-lt-LEFT.true) job

pub returns-then-next-lt-LEFT-clause-lacks : goal.returns-then-next-lt-LEFT-clause-lacks
returns-then-next-lt-LEFT-clause-lacks g c job =
    numbers_lack g.L.LockTable.locks c.args.kept.now c.args.machine c.in-Some.found.now
    (sym c.machine.ensures ∙ ap (λ o. option_map (machine_state g.L.LockTable.locks) (option_copied o)) c.in-Some.is)
    (λ call less. not_below c.in-Some.found.now.job 9223372036854773760 job less)

pub returns-else-next-lt-LEFT-clause-lacks : goal.returns-else-next-lt-LEFT-clause-lacks
returns-else-next-lt-LEFT-clause-lacks g c is =
    numbers_lack g.L.LockTable.locks c.args.kept.now c.args.machine c.in-Some.found.now
    (sym c.machine.ensures ∙ ap (λ o. option_map (machine_state g.L.LockTable.locks) (option_copied o)) c.in-Some.is)
    (λ call less. none_below 9223372036854773760 c.in-Some.found.now.flights.next (subst (λ n. 9223372036854773760 ≤ n) c.next.ensures c.if-next-lt-LEFT.false) call)
