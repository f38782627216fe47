use Rattle.sl_live_run.proofs.GivenLaws.{nothing_put}
use Rattle.sl_own.proofs.run.script_writer.Goals as goal
use Rattle.std.proofs.Common.{ap}

pub returns : goal.returns
returns g c = nothing_put c.new.result (ap (λ s. s.count) c.new.ensures)
