-- Waits on a machine, from one of its stamps to another, as moments. A joining, a watch and a silence each wait from the stamp of an
-- answer to that of a submission; what a read saw before the answer, and what one saw after the submission, lies further apart still.
use Rattle.sl_ids.specs.Clocks.Watchdog.{MayAct}
use Rattle.sl_run_law.specs.Moment.MomentsFollowSteps.{IsKept, point_of, stamps_on}
use Rattle.sl_run.specs.Runs.{Happening}
use Rattle.sl_run.specs.Safety.{LawfulRun, world_at}
use Rattle.sl_run.specs.Worlds.{Machine, Program, Stamp, World, machine_at}
use Rattle.sl_run.specs.declared.header.Header.{Header}
use Rattle.sl_time.specs.Times.{dead, gone, hold, join_max, reading_of, take_over}
use Rattle.std.specs.Prelude.{Contains, List, Some, ℕ, ◌+◌, ◌<◌, ◌≡◌, ◌≤◌}

-- What the machine read there.
abbrev pub reading_at : Stamp → ℕ
reading_at s = reading_of s.clock

-- Two stamps of machine m, the first not the later one.
pub record IsWait (w : World) (m : ℕ) (from to : Stamp) : Type 0 where
  pub machine : Machine
  pub at : machine_at w m ≡ Some machine
  pub begins : Contains (stamps_on machine) from
  pub ends : Contains (stamps_on machine) to
  pub order : from.step ≤ to.step

-- Something that is kept not later than a stamp, with its moment.
pub record IsBefore (w : World) (moment : ℕ) (s : Stamp) : Type 0 where
  pub step : ℕ
  pub kept : IsKept w step moment
  pub order : step ≤ s.step

-- .. and not earlier.
pub record IsAfter (w : World) (moment : ℕ) (s : Stamp) : Type 0 where
  pub step : ℕ
  pub kept : IsKept w step moment
  pub order : s.step ≤ step

-- What is said of each wait in a lawful run.
abbrev pub OfEachWait : (Header → World → Stamp → Stamp → Type 0) → Type 0
OfEachWait P = (p : Program) (h : Header) (xs : List Happening) → LawfulRun p h xs → (m : ℕ) (from to : Stamp)
    → IsWait (world_at p h xs) m from to → P h (world_at p h xs) from to

-- ---- between the two stamps

-- A wait of `dead` lasts longer than `gone`.
abbrev pub DeadWaits : Type 0
DeadWaits = OfEachWait (λ h w from to. reading_at from + dead h.timing ≤ reading_at to → from.moment + gone h.timing < to.moment)

-- A watch of `take_over` lasts longer than `hold` and `gone`.
abbrev pub TakeOverWaits : Type 0
TakeOverWaits =
    OfEachWait (λ h w from to. reading_at from + take_over h.timing ≤ reading_at to → from.moment + (hold h.timing + gone h.timing) < to.moment)

-- At most `join_max` lasts less than `hold`.
abbrev pub JoinMaxWaits : Type 0
JoinMaxWaits = OfEachWait (λ h w from to. reading_at to ≤ reading_at from + join_max h.timing → to.moment < from.moment + hold h.timing)

-- ---- around them

-- The verify read is submitted at least `dead` after the claim's answer: it is sampled more than `gone` after the claim landed.
abbrev pub VerifyReadsAreLate : Type 0
VerifyReadsAreLate =
    OfEachWait (λ h w answered submitted. (landed sampled : ℕ) → reading_at answered + dead h.timing ≤ reading_at submitted → IsBefore w landed answered
    → IsAfter w sampled submitted → landed + gone h.timing < sampled)

-- The last read of a watch is submitted at least `take_over` after the first one's answer: what is sampled after that submission is
-- sampled more than `hold` and `gone` after the first read was.
abbrev pub WatchesAreLong : Type 0
WatchesAreLong =
    OfEachWait (λ h w answered last. (first deciding : ℕ) → reading_at answered + take_over h.timing ≤ reading_at last → IsBefore w first answered
    → IsAfter w deciding last → first + (hold h.timing + gone h.timing) < deciding)

-- A silence spans at least `dead`, from the answer of its first sighting to the submission of its last: the last was sampled more than
-- `gone` after the first, and so after what landed before the first.
abbrev pub SilencesAreLong : Type 0
SilencesAreLong =
    OfEachWait (λ h w after before. (landed first last : ℕ) → reading_at after + dead h.timing ≤ reading_at before
    → IsBefore w first after → IsAfter w last before → landed ≤ first → (first + gone h.timing < last) × (landed + gone h.timing < last))

-- ---- what the watchdog bounds

-- A session that registers again at most `join_max` after it submitted its claim does so less than `hold` after, and acts for less than
-- `hold` and `gone` after.
abbrev pub ClaimsAreBounded : Type 0
ClaimsAreBounded =
    OfEachWait (λ h w submitted registered. (now : ℕ) → reading_at registered ≤ reading_at submitted + join_max h.timing
    → MayAct h.timing (point_of registered) now
    → (registered.moment < submitted.moment + hold h.timing) × (now + 1 < submitted.moment + (hold h.timing + gone h.timing)))

-- A claim that may still land was decided less than `gone` ago: its deciding read was sampled after the connection was registered.
abbrev pub PendingAreBounded : Type 0
PendingAreBounded = (p : Program) (h : Header) (xs : List Happening) → LawfulRun p h xs → (m : ℕ) (a : Machine) (registered : Stamp) (sampled now : ℕ)
    → machine_at (world_at p h xs) m ≡ Some a → Contains (stamps_on a) registered → IsAfter (world_at p h xs) sampled registered
    → MayAct h.timing (point_of registered) now → now < sampled + gone h.timing
