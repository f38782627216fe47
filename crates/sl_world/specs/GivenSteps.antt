-- A daemon takes a step, and what is kept takes it up.
use Rattle.sl_world_state.specs.declared.daemon.Most.{Most}
use Rattle.sl_world_state.specs.Changes.{write_at}
use Rattle.sl_world_state.specs.KeptWorld.{FlightState, KeptState, MachineState, machine_in}
use Rattle.sl_world_state.specs.Refusals.{left_in}
use Rattle.sl_world_state.specs.Steps.{taken_kept}
use Rattle.sl_machine.specs.declared.calls.Landing.{Landing}
use Rattle.sl_time.specs.Times.{reading_of}
use Rattle.sl_trace.specs.Traces.{Setting, Trace}
use Rattle.sl_trace.specs.declared.effects.Effects.{Effects}
use Rattle.sl_trace.specs.declared.input.Input.{Input}
use Rattle.sl_world.specs.AllowedEvents.{LeavesAt}
use Rattle.sl_world_law.specs.WorldsStand.{HasStepped}
use Rattle.std.specs.Arc.{arc_value}
use Rattle.std.specs.List.{slice_set}
use Rattle.std.specs.Prelude.{List, None, Option, Some, is_some, slice_get, true, ℕ, ◌-◌, ◌≡◌}

-- The daemon of machine m took a step at this input: there is one still.
pub record IsGiven {D : Type 0} (stands : D → Setting → Trace → Type 0) (makes : D → Most) (k : KeptState) (hosts : List (Option D)) (m : ℕ) (i : Input)
    (after : KeptState) (running : List (Option D)) (fx : Effects) : Type 0 where
  pub kept : after ≡ taken_kept m (Some i) fx k
  pub next : D
  pub hosts_are : running ≡ slice_set hosts (m - 1) (Some next)
  pub numbers : LeavesAt k m
  pub goes : (h : D) (s : MachineState) → slice_get hosts (m - 1) ≡ Some (Some h) → machine_in k m ≡ Some s
      → HasStepped stands (makes h) h next (reading_of s.clock) i fx

-- Nothing has changed that is seen.
pub record IsSame {D : Type 0} (k : KeptState) (hosts : List (Option D)) (after : KeptState) (running : List (Option D)) : Type 0 where
  pub kept : after ≡ k
  pub hosts_are : running ≡ hosts

-- These are the bytes of a read, or the call writes.
abbrev pub HasSampled : FlightState → List ℕ → Option (List ℕ) → Type 0
HasSampled f bytes None = is_some f.write ≡ true
HasSampled f bytes (Some given) = (f.write ≡ None) × (given ≡ bytes)

-- So many sectors are left of a read, or the call writes.
abbrev pub IsLeft : FlightState → Option ℕ → Type 0
IsLeft f None = is_some f.write ≡ true
IsLeft f (Some n) = (f.write ≡ None) × (n ≡ left_in f)

-- What a write leaves is put on its disk.
abbrev pub written_by : Option Landing → KeptState → KeptState
written_by None k = k
written_by (Some l) k = write_at l.place (arc_value l.image) k
