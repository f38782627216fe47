-- What a step of a daemon leaves, in a world and in what is kept of it.
use Rattle.sl_world_state.specs.KeptWorld.{KeptState}
use Rattle.sl_world_state.specs.ShownWorlds.{Tells}
use Rattle.sl_world_state.specs.Steps.{taken_kept}
use Rattle.sl_run.specs.EventChanges.{take_step}
use Rattle.sl_run.specs.Worlds.{Daemon, Machine, Stamp, World, machine_at}
use Rattle.sl_trace.specs.declared.effects.Effects.{Effects}
use Rattle.sl_trace.specs.declared.input.Input.{Input}
use Rattle.std.specs.Prelude.{Contains, None, Some, [], ℕ, ◌<◌, ◌≡◌}

-- The running daemon of a machine takes a step, whatever its input and effects. The machine's resets are older.
abbrev pub StepsAreKept : Type 0
StepsAreKept =
    (k : KeptState) (w : World) → Tells k w → (m : ℕ) (a : Machine) (d : Daemon) → machine_at w m ≡ Some a → a.daemon ≡ Some d
    → ((r : Stamp) → Contains a.resets r → r.step < w.step) → (i : Input) (fx : Effects)
    → Tells (taken_kept m (Some i) fx k) (take_step m (Some i) fx w)

-- A machine does something itself, which makes no calls.
abbrev pub OwnIsKept : Type 0
OwnIsKept = (k : KeptState) (w : World) → Tells k w → (m : ℕ) (fx : Effects) → fx.calls ≡ [] → Tells (taken_kept m None fx k) (take_step m None fx w)
