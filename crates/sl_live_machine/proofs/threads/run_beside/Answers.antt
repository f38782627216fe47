use Rattle.sl_live_machine.proofs.threads.run_beside.Goals as goal
use Rattle.std.proofs.Common.{rules}

pub returns-clause-seats : goal.returns-clause-seats
returns-clause-seats g c = search (rules, c.join.ensures.first)

pub returns-clause-printer : goal.returns-clause-printer
returns-clause-printer g c = search (rules, c.join.ensures.second)
