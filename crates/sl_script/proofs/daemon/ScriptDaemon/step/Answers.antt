use Rattle.sl_script.proofs.ScriptsFollow.{step_stays}
use Rattle.sl_script.proofs.daemon.ScriptDaemon.step.Goals as goal
use Rattle.sl_script.specs.MadeSteps.{AreMade}
use Rattle.sl_script.specs.ScriptStates.{ScriptState, after_step, child_next}
use Rattle.std.proofs.Common.{subst, ◌≡◌}
use Rattle.std.specs.Prelude.{IfOk}

pub returns-clause-stays : goal.returns-clause-stays
returns-clause-stays c st es follows come =
    step_stays c.args.self.now c.go_on.new.self st es c.args.now c.args.input.now c.of.result c.go_on.result c.of.ensures
    (subst (λ (s : ScriptState). IfOk c.go_on.result (λ fx. (c.go_on.new.self ≡ after_step c.of.result fx s) × AreMade s.next s.sector (child_next s) fx)) c.follow.ensures c.go_on.ensures.ok) follows
