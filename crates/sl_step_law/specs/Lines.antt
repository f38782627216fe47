-- A line at its input asks for nothing; but that of the values that its holder set the last is enough, where it sets one.
use Rattle.sl_due.specs.Steps.{Step}
use Rattle.sl_host_law.specs.Decisions.DecisionLaws.{LastIsEnough}
use Rattle.sl_host_law.specs.Steps.LinesFollow.{LineMay}
use Rattle.sl_host_state.specs.KeptState.{HostState}
use Rattle.sl_step_law.specs.ReadyHosts.{IsReady}
use Rattle.sl_trace.specs.declared.command.Command.{Command}
use Rattle.std.specs.Prelude.{List, Ok, ℕ, ◌≡◌}

abbrev pub LinesMay : Type 0
LinesMay = (h : HostState) (x : Step) (text : List ℕ) (c : Command) → IsReady h x → h.config.read text ≡ Ok c → LastIsEnough h x c → LineMay h x text c
