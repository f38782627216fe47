-- Waits on a machine: its clock drifts between two stamps, so what it read says how far their moments are apart.
use Rattle.sl_ids.proofs.Clocks.ClockLaws.{dead_long, join_max_short, take_over_long}
use Rattle.sl_ids.proofs.Clocks.WatchdogLaws.{claim, pending, silence, verify, watch}
use Rattle.sl_ids.specs.Clocks.Points.{Precedes}
use Rattle.sl_run_law.proofs.Moment.MomentsFollowSteps.{drift_between, moments_follow}
use Rattle.sl_run_law.specs.Moment.MomentsFollowSteps.{IsKept, Of_stamp, point_of}
use Rattle.sl_run_law.specs.Moment.Waits.{ClaimsAreBounded, DeadWaits, IsAfter, IsBefore, IsWait, JoinMaxWaits, PendingAreBounded, SilencesAreLong, TakeOverWaits, VerifyReadsAreLate, WatchesAreLong}
use Rattle.sl_run.specs.Runs.{Happening}
use Rattle.sl_run.specs.Safety.{LawfulRun, world_at}
use Rattle.sl_run.specs.Worlds.{Program, Stamp, World}
use Rattle.sl_run.specs.declared.header.Header.{Header}
use Rattle.std.proofs.Common.{refl}
use Rattle.std.specs.Prelude.{List, ℕ, ◌≤◌}

-- ---- what a wait is

drifts : (p : Program) (h : Header) (xs : List Happening) → LawfulRun p h xs → (m : ℕ) (from to : Stamp) → IsWait (world_at p h xs) m from to
    → Precedes h.timing.rho (point_of from) (point_of to)
drifts p h xs run m from to i = drift_between p h xs run m i.machine from to i.at i.begins i.ends i.order

begins_kept : (w : World) (m : ℕ) (from to : Stamp) → IsWait w m from to → IsKept w from.step from.moment
begins_kept w m from to i = Of_stamp m i.machine from i.at i.begins refl refl

ends_kept : (w : World) (m : ℕ) (from to : Stamp) → IsWait w m from to → IsKept w to.step to.moment
ends_kept w m from to i = Of_stamp m i.machine to i.at i.ends refl refl

is_before : (p : Program) (h : Header) (xs : List Happening) → LawfulRun p h xs → (moment : ℕ) (s : Stamp) → IsKept (world_at p h xs) s.step s.moment
    → IsBefore (world_at p h xs) moment s → moment ≤ s.moment
is_before p h xs run moment s kept b = moments_follow p h xs run b.step s.step moment s.moment b.kept kept b.order

is_after : (p : Program) (h : Header) (xs : List Happening) → LawfulRun p h xs → (moment : ℕ) (s : Stamp) → IsKept (world_at p h xs) s.step s.moment
    → IsAfter (world_at p h xs) moment s → s.moment ≤ moment
is_after p h xs run moment s kept b = moments_follow p h xs run s.step b.step s.moment moment kept b.kept b.order

-- ---- between the stamps

pub dead_waits : DeadWaits
dead_waits p h xs run m from to i = dead_long h.timing (point_of from) (point_of to) (drifts p h xs run m from to i)

pub take_over_waits : TakeOverWaits
take_over_waits p h xs run m from to i = take_over_long h.timing (point_of from) (point_of to) (drifts p h xs run m from to i)

pub join_max_waits : JoinMaxWaits
join_max_waits p h xs run m from to i = join_max_short h.timing (point_of from) (point_of to) run.header.timing (drifts p h xs run m from to i)

-- ---- around them

pub verify_late : VerifyReadsAreLate
verify_late p h xs run m answered submitted i landed sampled far b a =
    let w : World = world_at p h xs in
    verify h.timing (point_of answered) (point_of submitted) landed sampled (drifts p h xs run m answered submitted i) far
    (is_before p h xs run landed answered (begins_kept w m answered submitted i) b) (is_after p h xs run sampled submitted (ends_kept w m answered submitted i) a)

pub watches_long : WatchesAreLong
watches_long p h xs run m answered last i first deciding far b a =
    let w : World = world_at p h xs in
    watch h.timing (point_of answered) (point_of last) first deciding (drifts p h xs run m answered last i) far
    (is_before p h xs run first answered (begins_kept w m answered last i) b) (is_after p h xs run deciding last (ends_kept w m answered last i) a)

pub silences_long : SilencesAreLong
silences_long p h xs run m after before i landed first last far b a le =
    let w : World = world_at p h xs in
    silence h.timing (point_of after) (point_of before) landed first last (drifts p h xs run m after before i) far le
    (is_before p h xs run first after (begins_kept w m after before i) b) (is_after p h xs run last before (ends_kept w m after before i) a)

-- ---- what the watchdog bounds

pub claims_bounded : ClaimsAreBounded
claims_bounded p h xs run m submitted registered i now soon acts =
    claim h.timing (point_of submitted) (point_of registered) now run.header.timing (drifts p h xs run m submitted registered i) soon acts

pub pending_bounded : PendingAreBounded
pending_bounded p h xs run m a registered sampled now at has after acts =
    pending h.timing (point_of registered) sampled now run.header.timing
    (is_after p h xs run sampled registered (Of_stamp m a registered at has refl refl) after) acts
