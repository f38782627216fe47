-- A host between two steps: nothing stands by, or the room of one step more.
use Rattle.sl_host_state.specs.KeptState.{HostKept}
use Rattle.sl_host_step.specs.StepMemory.{HasRoom, ScratchState, Suffices}
use Rattle.sl_host_step.specs.declared.step_memory.Reach.TheVariants.{All}
use Rattle.sl_host_step.specs.HostServes.{IsIdle}
use Rattle.sl_host_step.specs.AwaitedCalls.{joins_at}
use Rattle.sl_trace.specs.declared.input.Answer.TheVariants.{Failed, Read, Written}
use Rattle.sl_trace.specs.declared.input.Input.TheVariants.{Answer as Told, Exit, Line, Number, Spawned, Wake}
use Rattle.sl_trace.specs.declared.input.Input.{Input}
use Rattle.sl_host.specs.Host.{HostView}
use Rattle.std.specs.Prelude.{Bool, false, min, true, ℕ, ◌≡◌}

-- For how many steps there is room without more memory.
abbrev pub spare_of : HostView → ℕ
spare_of v = min 1 v.left

-- Where none stands by the host is idle; else it has the room of any step, and so have the lists that a step goes by.
pub record Rests (s : ScratchState) (v : HostView) : Type 0 where
  pub none : s.spare ≡ false → IsIdle v
  pub some : s.spare ≡ true → HasRoom All v v × Suffices s v

-- Whether a step at this input takes memory beside its room: a line is read into a command, and a joining keeps the sector that it is told.
abbrev pub takes_more : HostKept → Input → Bool
takes_more k (Line text) = true
takes_more k (Told number (Read bytes)) = joins_at k number
takes_more k (Told number Written) = false
takes_more k (Told number Failed) = false
takes_more k (Number text) = false
takes_more k Wake = false
takes_more k (Exit p) = false
takes_more k (Spawned p ok) = false
