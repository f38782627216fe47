-- How many asks may follow an event: of a machine's locks, and of a world.
use Rattle.sl_run.specs.Lvm.{Acquiring, Course, Moving, Reading, Releasing, Writing}
use Rattle.sl_report.specs.Schedules.{NoAsk}
use Rattle.sl_run.specs.Inputs.{asking}
use Rattle.sl_run.specs.EventChanges.{happens}
use Rattle.sl_run.specs.Refusals.{may_happen}
use Rattle.sl_run.specs.Locks.{Locks}
use Rattle.sl_run.specs.Worlds.{Machine, World, machine_at}
use Rattle.sl_run.specs.declared.event.Event.TheVariants.{GiveAsk}
use Rattle.sl_run.specs.declared.event.Event.{Event}
use Rattle.sl_trace.specs.declared.effects.Effects.{Effects}
use Rattle.std.specs.Option.{option_map_or}
use Rattle.std.specs.Prelude.{None, Some, is_some, suc, true, [], ℕ, ◌+◌, ◌-◌, ◌∷◌, ◌≡◌, ◌≤◌}

-- How many asks are left of a line with the one that it came to: an acquire may be asked again so often, and the value is read behind it; a
-- release follows a write.
abbrev pub left_of : ℕ → Course → ℕ
left_of retries Moving = 1
left_of retries (Acquiring l mode again compares) = (retries - again) + 2
left_of retries (Reading l) = 1
left_of retries (Writing l) = 2
left_of retries (Releasing l refused) = 1

-- .. of a machine's line, where an ask is due.
abbrev pub asks_left : Locks → ℕ
asks_left k = elim k.due [ None ↦ 0 | Some text ↦ option_map_or (left_of k.lvm.retries) k.lvm.course 1 ]

-- A machine's locks ask again as often as the header says, at most; and where an ask is due, a daemon runs that takes it.
pub record IsFairMachine (most : ℕ) (a : Machine) : Type 0 where
  pub retries : a.locks.lvm.retries ≤ most
  pub taken : is_some a.locks.due ≡ true → is_some a.daemon ≡ true

-- So it is on each machine of a world.
pub record IsFair (w : World) : Type 0 where
  pub header : w.header.retries ≤ 8
  pub each : (m : ℕ) (a : Machine) → machine_at w m ≡ Some a → IsFairMachine 8 a

-- No other machine has an ask due, and this one has at most so many left.
pub record AsksOn (w : World) (m n : ℕ) : Type 0 where
  pub fair : IsFair w
  pub others : (k : ℕ) (a : Machine) → machine_at w k ≡ Some a → (k ≡ m → ⊥) → a.locks.due ≡ None
  pub left : (a : Machine) → machine_at w m ≡ Some a → asks_left a.locks ≤ n

-- An event that may happen where no ask is due leaves at most ten asks, all on its machine.
abbrev pub EventsAskFew : Type 0
EventsAskFew =
    (w : World) (e : Event) (fx : Effects) → IsFair w → NoAsk w → may_happen w e ≡ true → (m : ℕ) × AsksOn (happens w e (fx ∷ [])) m 10

-- The next ask is that machine's, it may be given, and leaves one fewer; where none is left none is due.
pub record AsksEnd : Type 0 where
  pub given : (w : World) (m n k : ℕ) → AsksOn w m n → asking w ≡ Some k → (k ≡ m) × (may_happen w (GiveAsk k) ≡ true)
  pub fewer : (w : World) (m n : ℕ) (fx : Effects) → AsksOn w m (suc n) → asking w ≡ Some m → AsksOn (happens w (GiveAsk m) (fx ∷ [])) m n
  pub none : (w : World) (m : ℕ) → AsksOn w m 0 → NoAsk w
