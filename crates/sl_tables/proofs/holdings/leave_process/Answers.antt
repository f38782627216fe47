use Rattle.indexmap.specs.IndexMap.{get}
use Rattle.sl_tables.proofs.HoldingsStand.{is_of_sought, led_by}
use Rattle.sl_tables.proofs.holdings.leave_process.Goals as goal
use Rattle.sl_tables.specs.Holdings.{fits, is_of_process, sought_of}
use Rattle.sl_tables.specs.declared.holdings.Sought.{Sought}
use Rattle.std.proofs.Common.{nat_eq, subst, sym, true, ◌≡◌, ◌≤◌}
use Rattle.std.specs.List.{AllByRecursion}

pub seek-requires : goal.seek-requires
seek-requires c =
    subst (λ (s : Sought). AllByRecursion (λ p. fits s p.1 ≡ true → c.args.number ≤ p.0) c.args.held.now.items) (sym c.of.ensures)
    (led_by (λ p. fits (sought_of c.args.process) p.1) (λ p. is_of_process c.args.process p.1) c.args.number (get nat_eq c.args.processes.now c.args.process) c.args.held.now.items
    (λ p on. is_of_sought c.args.process p.1 on) (sym c.if-is_first.ensures) c.requires.led)
