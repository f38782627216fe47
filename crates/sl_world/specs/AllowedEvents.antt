-- Events that nothing refuses, and what they make of a world.
use Rattle.sl_world_state.specs.KeptWorld.{KeptState, MachineState, machine_in}
use Rattle.sl_world_state.specs.Refusals.{refusal_in}
use Rattle.sl_world_state.specs.SaneWorlds.{WorldStands}
use Rattle.sl_run.specs.Worlds.{World}
use Rattle.sl_run.specs.declared.event.Event.{Event}
use Rattle.sl_run.specs.declared.header.Header.{Header}
use Rattle.sl_world_law.specs.SaneInputs.{HasNumbers}
use Rattle.sl_text.specs.Forms.{Form}
use Rattle.sl_trace.specs.Traces.{Setting, Trace}
use Rattle.sl_trace.specs.declared.command.Command.{Command}
use Rattle.sl_trace.specs.declared.effects.Effects.{Effects}
use Rattle.sl_trace.specs.declared.input.Input.{Input}
use Rattle.sl_world_law.specs.WorldsStand.{Comes, IsReady}
use Rattle.std.specs.Prelude.{List, None, Option, Some, ℕ, ◌≡◌}

-- Some world is stood for.
pub record StandsForSome {D : Type 0} (commands : Header → List (Form Command)) (stands : D → Setting → Trace → Type 0) (k : KeptState) (hosts : List (Option D)) : Type 0 where
  pub world : World
  pub stands_for : WorldStands commands stands k hosts world

-- .. and nothing refuses the event.
pub record IsAllowed {D : Type 0} (commands : Header → List (Form Command)) (stands : D → Setting → Trace → Type 0) (k : KeptState) (hosts : List (Option D)) (e : Event) : Type 0 where
  pub world : World
  pub stands_for : WorldStands commands stands k hosts world
  pub unrefused : refusal_in commands k e ≡ None

-- The event has come to pass in each world that was stood for.
abbrev pub AllCome : {D : Type 0} → (Header → List (Form Command)) → (D → Setting → Trace → Type 0) → KeptState → List (Option D) → Event → KeptState → List (Option D) → Effects → Type 0
AllCome commands stands k hosts e after running fx = (w : World) → WorldStands commands stands k hosts w → Comes commands stands w e fx after running

-- Numbers are left on machine m.
abbrev pub LeavesAt : KeptState → ℕ → Type 0
LeavesAt k m = (s : MachineState) → machine_in k m ≡ Some s → HasNumbers s.next

-- Or some number is not left.
abbrev pub LacksAt : KeptState → ℕ → Type 0
LacksAt k m = (s : MachineState) → machine_in k m ≡ Some s → HasNumbers s.next → ⊥

-- While they are, this may come to the daemon of machine m.
pub record MayGive {D : Type 0} (stands : D → Setting → Trace → Type 0) (k : KeptState) (hosts : List (Option D)) (m : ℕ) (i : Input) : Type 0 where
  pub ready : LeavesAt k m → IsReady stands k hosts m i
