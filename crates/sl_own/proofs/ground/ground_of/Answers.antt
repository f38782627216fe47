-- Its place is one less than its number; nothing but a spawner is handed out.
use Rattle.sl_outside.proofs.ActLaws.{grows_between}
use Rattle.sl_own.proofs.ground.ground_of.Goals as goal
use Rattle.std.proofs.Common.{arith, ◌∙◌}

pub returns-clause-numbered : goal.returns-clause-numbered
returns-clause-numbered g c = let one = c.requires in omega (arith, one)

pub returns-clause-lendings : goal.returns-clause-lendings
returns-clause-lendings g c =
    grows_between _ _ _ _ _ c.clocks_of.ensures.lendings c.spawner.ensures.lendings (c.gate.ensures.lendings ∙ c.device.ensures.lendings)
