-- Worlds in which time may stand still: no keepalive is too old, and no write of before a reset may land too late.
use Rattle.sl_world_state.specs.SaneWorlds.{IsSane}
use Rattle.sl_run.specs.EventChanges.{happens}
use Rattle.sl_run.specs.Refusals.{may_happen}
use Rattle.sl_run.specs.Worlds.{Course, Machine, Program, Stamp, World, machine_at, may_land, world_with}
use Rattle.sl_run.specs.declared.event.Event.TheVariants.{Pass}
use Rattle.sl_run.specs.declared.event.Event.{Event}
use Rattle.sl_run.specs.declared.header.Header.{Header}
use Rattle.sl_text.specs.Forms.{Form}
use Rattle.sl_time.specs.Times.{TimingNumbers}
use Rattle.sl_trace.specs.declared.command.Command.{Command}
use Rattle.sl_trace.specs.declared.effects.Effects.{Effects}
use Rattle.std.specs.Prelude.{Bool, Contains, List, None, Some, filter, nat_lt, true, [], ℕ, ◌+◌, ◌<◌, ◌∷◌, ◌≡◌, ◌≤◌}

-- What is asked of a machine that is up or not, at this moment and before this step, by its last keepalive, its resets and its calls.
pub record IsTimelyBy (t : TimingNumbers) (moment step : ℕ) (up : Bool) (kept : Stamp) (resets : List Stamp) (calls : List Course) : Type 0 where
  pub fires : up ≡ true → moment ≤ kept.moment + t.fire
  pub past : (r : Stamp) → Contains resets r → r.step < step
  pub lands : (c : Course) → Contains calls c → may_land c ≡ true → (r : Stamp) → Contains (filter (λ (x : Stamp). nat_lt c.made.step x.step) resets) r
      → moment ≤ r.moment + t.land

abbrev pub IsTimely : TimingNumbers → ℕ → ℕ → Machine → Type 0
IsTimely t moment step a = IsTimelyBy t moment step a.up a.kept a.resets a.calls

-- So of each machine of a world.
abbrev pub AreTimely : World → Type 0
AreTimely w = (m : ℕ) (a : Machine) → machine_at w m ≡ Some a → IsTimely w.header.timing w.moment w.step a

abbrev pub FirstWorldsAreTimely : Type 0
FirstWorldsAreTimely = (p : Program) (h : Header) → AreTimely (world_with p h)

abbrev pub EventsStayTimely : Type 0
EventsStayTimely = (w : World) (e : Event) (fx : Effects) → may_happen w e ≡ true → AreTimely w → AreTimely (happens w e (fx ∷ []))

abbrev pub TimeMayStandStill : Type 0
TimeMayStandStill =
    (commands : Header → List (Form Command)) (w : World) → IsSane commands w → AreTimely w → may_happen w (Pass 0 None) ≡ true
