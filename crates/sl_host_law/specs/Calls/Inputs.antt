-- The inputs that answer no call: each is heard before anything is decided on it.
use Rattle.sl_due.specs.DueCommands.{answer_line}
use Rattle.sl_due.specs.Steps.{Step, seen, with_input}
use Rattle.sl_host_law.specs.SharedFacts.AtInput.{IsAtInput}
use Rattle.sl_host_state.specs.HeardInputs.{answered_line, heard_exit, heard_line, heard_number, heard_start}
use Rattle.sl_host_state.specs.KeptState.{HostState}
use Rattle.sl_host_state.specs.HostStands.{Stands}
use Rattle.sl_trace.specs.Traces.{next_job}
use Rattle.sl_trace.specs.declared.command.Command.{Command}
use Rattle.sl_trace.specs.declared.input.Input.TheVariants.{Exit, Line, Number, Spawned, Wake}
use Rattle.sl_trace.specs.declared.reply.Reply.{Reply}
use Rattle.std.specs.Prelude.{Bool, List, Ok, [], ℕ, ◌≡◌}

-- The host that hears it stands for the step with it.
pub record InputsAreHeard : Type 0 where
  -- a line whose command is carried out
  pub line : (h : HostState) (x : Step) (text : List ℕ) (c : Command) → h.config.read text ≡ Ok c → IsAtInput h → Stands Wake h x
      → Stands (Line text) (heard_line c h) (with_input (Line text) x)
  -- one that is answered at once
  pub answered : (h : HostState) (x : Step) (text : List ℕ) (r : Reply) → h.made.calls ≡ [] → Stands Wake h x
      → Stands (Line text) (answered_line (h.config.read text) r h) (answer_line text (next_job x.setting (seen x)) r x)
  -- a line that is no command
  pub number : (h : HostState) (x : Step) (text : List ℕ) → Stands Wake h x → Stands (Number text) (heard_number h) (with_input (Number text) x)
  pub exit : (h : HostState) (x : Step) (p : ℕ) → Stands Wake h x → Stands (Exit p) (heard_exit p h) (with_input (Exit p) x)
  pub start : (h : HostState) (x : Step) (p : ℕ) (ok : Bool) → Stands Wake h x → Stands (Spawned p ok) (heard_start p ok h) (with_input (Spawned p ok) x)
