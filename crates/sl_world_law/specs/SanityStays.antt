-- An event that may happen leaves a sane world sane.
use Rattle.sl_world_state.specs.Daemons.{IsNumbered, IsSoundCall}
use Rattle.sl_world_state.specs.SaneWorlds.{IsSane}
use Rattle.sl_run.specs.EventChanges.{happens}
use Rattle.sl_run.specs.Inputs.{input_of, machine_of}
use Rattle.sl_run.specs.Refusals.{may_happen}
use Rattle.sl_run.specs.Runs.{HasSteps}
use Rattle.sl_run.specs.Worlds.{Daemon, Machine, World, machine_at}
use Rattle.sl_run.specs.declared.event.Event.{Event}
use Rattle.sl_run.specs.declared.header.Header.{Header}
use Rattle.sl_text.specs.Forms.{Form}
use Rattle.sl_trace.specs.Traces.{Setting, Trace}
use Rattle.sl_trace.specs.declared.command.Command.{Command}
use Rattle.sl_trace.specs.declared.effects.Call.{Call}
use Rattle.sl_trace.specs.declared.effects.Effects.{Effects}
use Rattle.sl_trace.specs.declared.input.Input.{Input}
use Rattle.std.specs.Prelude.{Contains, List, Some, true, [], ◌∷◌, ◌≡◌}

-- A step's calls and children have the next numbers, and its calls are sound.
pub record IsSoundStep (st : Setting) (es : Trace) (fx : Effects) : Type 0 where
  pub numbered : IsNumbered st es fx
  pub sound : (c : Call) → Contains fx.calls c → IsSoundCall st.layout.sector c

-- So is that of the daemon to which an event gives an input, if it gives one.
abbrev pub HasSoundStep : World → Event → Effects → Type 0
HasSoundStep w e fx =
    (i : Input) → input_of w e ≡ Some i → (a : Machine) (d : Daemon) → machine_at w (machine_of e) ≡ Some a → a.daemon ≡ Some d → IsSoundStep d.setting d.trace fx

-- What is known of a world is known of it after each event.
abbrev pub SanityStays : Type 0
SanityStays =
    (commands : Header → List (Form Command)) (w : World) → IsSane commands w → (e : Event) → may_happen w e ≡ true → (fx : Effects) → HasSteps w e (fx ∷ [])
    → HasSoundStep w e fx → IsSane commands (happens w e (fx ∷ []))
