use Rattle.sl_world_state.specs.Daemons.{read_of}
use Rattle.sl_script.proofs.ScriptsFollow.{step_stays}
use Rattle.sl_script.proofs.daemon.ScriptDaemon.read.Goals as goal
use Rattle.sl_script.specs.declared.answered_inputs.Heard.TheVariants.{Call}
use Rattle.std.proofs.Common.{refl}

pub returns-clause-stays : goal.returns-clause-stays
returns-clause-stays c st es follows come =
    step_stays c.args.self.now c.go_on.new.self st es c.args.now (read_of c.args.call c.args.sectors.now) (Call c.args.call) c.go_on.result refl c.go_on.ensures.ok follows
