-- Which value a reader of a resource may be given.
use Rattle.sl_area.specs.AreaSizes.{record_in}
use Rattle.sl_area.specs.AreaLayout.{value_offset}
use Rattle.sl_run.specs.Runs.{Happening}
use Rattle.sl_run.specs.Safety.{LawfulRun, world_at}
use Rattle.sl_run.specs.Worlds.{Course, Daemon, Machine, Program, World, daemon_numbered, initial_bytes, machine_at}
use Rattle.sl_run.specs.declared.header.Header.{Header}
use Rattle.sl_sector.specs.SectorLayouts.{value_in}
use Rattle.sl_sector.specs.declared.sector.Rec.TheVariants.{ValueIs}
use Rattle.sl_sector.specs.declared.sector.ValueRec.{ValueRec}
use Rattle.sl_trace.specs.Traces.{call_numbered, record_of, reply_to, same_place}
use Rattle.sl_trace.specs.declared.effects.Purpose.TheVariants.{ValueRead}
use Rattle.sl_trace.specs.declared.effects.Spot.{Spot}
use Rattle.sl_trace.specs.declared.reply.Reply.TheVariants.{Value}
use Rattle.std.specs.Prelude.{Contains, IsSomeAnd, IsTrue, List, Some, true, ℕ, ◌<◌, ◌≡◌, ◌≤◌, ◌⊎◌}

-- A write of this value on the resource, in the course of a machine's calls.
pub record IsSet (w : World) (at : Spot) (c : Course) (v : ValueRec) : Type 0 where
  pub machine : (m : ℕ) × (a : Machine) × (machine_at w m ≡ Some a) × Contains a.calls c
  pub value : record_of c.call.op ≡ Some (ValueIs v)
  pub place : IsTrue (same_place c.call.path c.call.offset at.path (value_offset w.layout at.base))

-- It was answered ok before this step.
abbrev pub IsSetBefore : Course → ℕ → Type 0
IsSetBefore c step = (c.done ≡ true) × IsSomeAnd c.answered (λ a. a.step < step)

-- What a reader may be given that is answered at this step: the value of a set that was submitted before, where no set that was
-- answered ok before came after it; or what stood there at first, where no set was answered ok before.
abbrev pub MayRead : World → Spot → ℕ → ValueRec → Type 0
MayRead w at step v =
    ((c : Course) × IsSet w at c v × (c.made.step < step)
    × ((d : Course) (u : ValueRec) → IsSet w at d u → IsSetBefore d step → d.made.step ≤ c.made.step))
    ⊎ ((value_in (record_in w.layout (initial_bytes w.layout w.header at.path (value_offset w.layout at.base))) ≡ Some v)
    × ((d : Course) (u : ValueRec) → IsSet w at d u → IsSetBefore d step → ⊥))

-- A reader's call, and what it is given.
pub record IsGivenValue (w : World) (at : Spot) (c : Course) (step : ℕ) (v : ValueRec) : Type 0 where
  pub daemon : (m : ℕ) × (a : Machine) × (d : Daemon) × (job : ℕ) × (i : ℕ) × (machine_at w m ≡ Some a) × Contains a.calls c
      × (daemon_numbered a c.daemon ≡ Some d) × (c.call.purpose ≡ ValueRead job)
      × (reply_to d.trace job ≡ Some (record { at = i; reply = Value v.lver v.seq v.bytes }))
      -- the reply came in the step of this call's answer
      × IsSomeAnd (call_numbered d.trace c.call.number) (λ m. IsSomeAnd m.answer (λ b. b.at ≡ i))
  pub place : IsTrue (same_place c.call.path c.call.offset at.path (value_offset w.layout at.base))
  pub answered : IsSomeAnd c.answered (λ a. a.step ≡ step)

-- Each value that a reader is given is such a value. (The writer's id isn't told.).
abbrev pub ValuesAreLast : World → Type 0
ValuesAreLast w =
    (at : Spot) (c : Course) (step : ℕ) (v : ValueRec) → IsGivenValue w at c step v →
    (host : ℕ) × MayRead w at step (record v { host = host })

-- So it is after every lawful run.
abbrev pub ValueTheorem : Type 0
ValueTheorem = (program : Program) (h : Header) (xs : List Happening) → LawfulRun program h xs → ValuesAreLast (world_at program h xs)
