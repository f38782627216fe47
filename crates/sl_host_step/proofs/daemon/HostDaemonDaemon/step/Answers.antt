use Rattle.sl_host_step.proofs.HostDaemons.{steps_so}
use Rattle.sl_host_step.proofs.daemon.HostDaemonDaemon.step.Goals as goal
use Rattle.sl_host_step.specs.Moments.{HasStepped}
use Rattle.sl_host.specs.Host.{HostView}
use Rattle.std.proofs.Common.{subst}
use Rattle.std.specs.Prelude.{IfOk}

pub returns-clause-stays : goal.returns-clause-stays
returns-clause-stays c st es serves may =
    steps_so c.args.now c.args.input.now c.args.self.now c.step_at.new.host c.step_at.result st es c.is_byte_input.ensures
    (subst (λ (v : HostView). IfOk c.step_at.result (λ fx. HasStepped c.args.now c.args.input.now v c.step_at.new.host fx)) c.self.view_is c.step_at.ensures.ok) serves may
