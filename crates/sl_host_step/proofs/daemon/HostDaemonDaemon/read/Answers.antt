use Rattle.sl_world_state.specs.Daemons.{read_of}
use Rattle.sl_host_step.proofs.HostDaemons.{steps_so}
use Rattle.sl_host_step.proofs.daemon.HostDaemonDaemon.read.Goals as goal
use Rattle.sl_host_step.specs.Moments.{HasStepped}
use Rattle.sl_host.specs.Host.{HostView}
use Rattle.std.proofs.Common.{subst}
use Rattle.std.specs.Prelude.{IfOk}

pub returns-clause-stays : goal.returns-clause-stays
returns-clause-stays c st es serves may =
    let i = read_of c.args.call c.args.sectors.now in
    steps_so c.args.now i c.args.self.now c.step_read.new.host c.step_read.result st es c.are_byte_sectors.ensures
    (subst (λ (v : HostView). IfOk c.step_read.result (λ fx. HasStepped c.args.now i v c.step_read.new.host fx)) c.self.view_is c.step_read.ensures.ok) serves may
