-- For which settings and traces a host serves as a daemon: between steps it stands for the trace, and is sound.
use Rattle.sl_area.specs.AreaSizes.{layout_of}
use Rattle.sl_host_law.specs.Steps.SoundHosts.{IsSound}
use Rattle.sl_host_state.specs.KeptState.{HostKept, state_of}
use Rattle.sl_host_state.specs.HostStands.{HostStands}
use Rattle.sl_run.specs.Lawful.{IsSetting}
use Rattle.sl_run.specs.declared.header.Header.{Header}
use Rattle.sl_text.specs.Forms.{Form}
use Rattle.sl_trace.specs.CommandForms.{command_in, forms}
use Rattle.sl_trace.specs.Traces.{Setting, Trace}
use Rattle.sl_trace.specs.declared.command.Command.{Command}
use Rattle.sl_host.specs.Host.{HostView}
use Rattle.std.specs.Prelude.{List, Result, ℕ, ◌≡◌, ◌≤◌}

-- It reads all commands, at the places of the header's layout.
abbrev pub whole_commands : Header → List (Form Command)
whole_commands h = forms (layout_of h.geometry)

-- Lines are read so.
abbrev pub ReadsWhole : HostKept → (List ℕ → Result Command ℕ) → Type 0
ReadsWhole k read = (text : List ℕ) → read text ≡ command_in (forms (layout_of k.config.sizes)) text

-- No step is in progress.
abbrev pub IsIdle : HostView → Type 0
IsIdle v = (v.left ≡ 0) × (v.calls ≡ 0) × (v.most ≡ 0) × (v.most_calls ≡ 0)

-- What is kept stands for the trace.
pub record Keeping (k : HostKept) (st : Setting) (es : Trace) : Type 0 where
  pub setting : IsSetting st
  pub reads : ReadsWhole k st.read
  pub stands : HostStands (state_of st.read k) st es
  pub sound : IsSound (state_of st.read k)
  pub grace : k.config.grace ≤ 600000

abbrev pub Serves : HostView → Setting → Trace → Type 0
Serves v st es = Keeping v.kept st es
