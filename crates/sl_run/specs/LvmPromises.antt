-- What is promised of lvmlockd's lines: what they tell is held, asks are few, and `ok same` tells the truth.
use Rattle.sl_area.specs.AreaLayout.{value_offset}
use Rattle.sl_run.specs.LockNames.{Lock, group_lock, group_path}
use Rattle.sl_run.specs.Lvm.{Acquiring, HeldLock, Reading, comparison, is_seen}
use Rattle.sl_run.specs.EventChanges.{number_of_step}
use Rattle.sl_run.specs.Inputs.{input_of, machine_of}
use Rattle.sl_run.specs.Locks.{locks_after}
use Rattle.sl_run.specs.Runs.{AfterEachFront, Happening}
use Rattle.sl_run.specs.Safety.{world_at}
use Rattle.sl_run.specs.Worlds.{Course as MadeCall, Machine, Program, World, machine_at}
use Rattle.sl_run.specs.declared.header.Header.{Header}
use Rattle.sl_sector.specs.declared.sector.Rec.TheVariants.{ValueIs}
use Rattle.sl_sector.specs.declared.sector.ValueRec.{ValueRec}
use Rattle.sl_trace.specs.Traces.{record_of, same_place}
use Rattle.sl_trace.specs.declared.effects.Effects.{Effects}
use Rattle.sl_trace.specs.declared.effects.Mode.TheVariants.{Shared}
use Rattle.sl_trace.specs.declared.effects.Mode.{Mode}
use Rattle.sl_trace.specs.declared.input.Input.{Input}
use Rattle.std.specs.Prelude.{Bool, Contains, IsSomeAnd, IsTrue, List, Some, true, [], ℕ, ◌*◌, ◌++◌, ◌<◌, ◌∷◌, ◌≡◌, ◌≤◌}
use Rattle.sl_run.specs.Volumes.{IsActiveVolume, VolumesAreExclusive}

-- Each lock that a machine's table has, which is what its lines tell, is a holding of the machine, in the lock's mode.
abbrev pub LocksAreHeld : World → Type 0
LocksAreHeld w =
    (m : ℕ) (a : Machine) (l : HeldLock) → machine_at w m ≡ Some a → Contains a.locks.lvm.held l → IsActiveVolume w a l.lock.group l.lock.number l.mode

-- So no logical volume is told active on two machines, unless both share it.
abbrev pub ToldVolumesAreExclusive : World → Type 0
ToldVolumesAreExclusive w =
    (m k : ℕ) (a b : Machine) (x y : HeldLock) → machine_at w m ≡ Some a → machine_at w k ≡ Some b → (m ≡ k → ⊥) → Contains a.locks.lvm.held x →
    Contains b.locks.lvm.held y → x.lock.group ≡ y.lock.group → x.lock.number ≡ y.lock.number → (x.mode ≡ Shared) × (y.mode ≡ Shared)

-- An acquire is asked again at most so often for one line as the header has it.
abbrev pub AsksAreFew : World → Type 0
AsksAreFew w =
    (m : ℕ) (a : Machine) (l : Lock) (mode : Mode) (again : ℕ) (compares : Bool) → machine_at w m ≡ Some a →
    a.locks.lvm.course ≡ Some (Acquiring l mode again compares) → again ≤ w.header.retries

-- The machine's locks have this version of the group's value for the last one.
abbrev pub HasSeen : World → ℕ → List ℕ → ℕ → ℕ → Type 0
HasSeen w m group lver seq = (a : Machine) × (machine_at w m ≡ Some a) × IsTrue (is_seen a.locks.lvm group lver seq)

-- The event tells lvmlockd on the machine that the value of the group, whose lock it takes, is the one that was seen.
pub record TellsSame (w : World) (x : Happening) (m : ℕ) (group : List ℕ) : Type 0 where
  pub machine : Machine
  pub input : Input
  pub effects : Effects
  pub line : ℕ
  pub there : (machine_of x.0 ≡ m) × (machine_at w m ≡ Some machine)
  pub step : (input_of w x.0 ≡ Some input) × (x.1 ≡ effects ∷ [])
  pub reads : machine.locks.lvm.course ≡ Some (Reading (group_lock group))
  pub told : (locks_after (number_of_step machine) input effects machine.locks).1 ≡ Some (line, comparison true)

-- A write of the group's value by another machine.
pub record IsSetElsewhere (w : World) (m : ℕ) (group : List ℕ) (c : MadeCall) : Type 0 where
  pub machine : (k : ℕ) × (b : Machine) × (k ≡ m → ⊥) × (machine_at w k ≡ Some b) × Contains b.calls c
  pub value : (v : ValueRec) × (record_of c.call.op ≡ Some (ValueIs v))
  pub place : IsTrue (same_place c.call.path c.call.offset (group_path group) (value_offset w.layout ((group_lock group).number * w.layout.area)))

-- Where the value of a group is told to be the one that was seen, no other machine's write of it was answered ok since it was seen.
abbrev pub SameIsUnchanged : Program → Header → List Happening → Type 0
SameIsUnchanged program h xs =
    (before during rest : List Happening) (y : Happening) (m : ℕ) (group : List ℕ) (lver seq : ℕ) → xs ≡ before ++ during ++ y ∷ rest →
    AfterEachFront during (λ now. HasSeen (world_at program h (before ++ now)) m group lver seq) →
    TellsSame (world_at program h (before ++ during)) y m group →
    (c : MadeCall) → IsSetElsewhere (world_at program h (before ++ during)) m group c → c.done ≡ true →
    IsSomeAnd c.answered (λ s. s.step < (world_at program h before).step)

-- So it is after every event of every lawful run in which replies have their causes.
pub record VolumesAreSafe (program : Program) (h : Header) (xs : List Happening) : Type 0 where
  pub exclusive : VolumesAreExclusive (world_at program h xs)
  pub few : AsksAreFew (world_at program h xs)
  pub same : SameIsUnchanged program h xs
  pub held : AfterEachFront xs (λ now. LocksAreHeld (world_at program h now))
  pub told : AfterEachFront xs (λ now. ToldVolumesAreExclusive (world_at program h now))
