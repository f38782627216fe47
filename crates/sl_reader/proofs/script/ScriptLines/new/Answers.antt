-- A script begins.
use Rattle.sl_reader.proofs.ScriptLaws.{begins}
use Rattle.sl_reader.proofs.script.ScriptLines.new.Goals as goal
use Rattle.std.proofs.Common.{refl}

pub returns-clause-none : goal.returns-clause-none
returns-clause-none g c =
    begins g.J.Origin.keeps g.J.Origin.left g.J.Origin.faults g.J.Origin.began g.J.Origin.scope _ c.requires.left c.requires.faults c.requires.began c.requires.scope c.requires.keeps refl c.requires.ends
