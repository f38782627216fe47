-- What an event needs: its tests, and the first that it fails. First its form (`is_shaped`), then the machine, then whether it is up or
-- has a daemon, then the call and its place, then what is left to do of it, then the premise. `event_tests` has them event by event.
use Rattle.sl_trace.specs.Jobs.{process_named}
use Rattle.sl_run.specs.Lvm.{lock_process}
use Rattle.sl_run.specs.Worlds.{Course, Machine, World, first_that, flight_of, is_in_flight, is_landed, is_of_running, is_torn_fate, is_write_course, machine_at, mebibyte, names_of, sector_size}
use Rattle.sl_run.specs.declared.event.Event.TheVariants.{AnswerCall, Crash, Do, DropWrite, ExitOf, GiveAsk, GiveCommand, GiveLvm, Land, Pass, Reset, Restart, Sample, SpawnedOf, StartDaemon, Tear, Test, WakeUp}
use Rattle.sl_run.specs.declared.event.Event.{Event}
use Rattle.sl_run.specs.declared.event.Refusal.TheVariants.{MissingCall, MissingDaemon, MissingDown, MissingFlight, MissingLanding, MissingLvm, MissingMachine, MissingPlace, MissingReset, MissingSample, MissingSpawn, MissingUp, PremiseName, PremiseTorn, Syntax}
use Rattle.sl_run.specs.declared.event.Refusal.{Refusal}
use Rattle.sl_trace.specs.Traces.{is_starting}
use Rattle.sl_trace.specs.declared.command.Command.TheVariants.{SetKillpath}
use Rattle.sl_trace.specs.declared.command.Command.{Command}
use Rattle.sl_trace.specs.declared.effects.Call.{Call}
use Rattle.sl_trace.specs.declared.effects.Op.TheVariants.{ReadSectors, WriteRecord}
use Rattle.sl_trace.specs.declared.effects.Op.{Op}
use Rattle.sl_words.specs.Words.{some_is}
use Rattle.std.specs.Int.{is_in_range}
use Rattle.std.specs.List.{list_any}
use Rattle.std.specs.Prelude.{Bool, Err, List, None, Ok, Option, Result, Some, bytes_eq, false, is_none, is_some, length, nat_le, nat_lt, not, true, [], ℕ, ◌&&◌, ◌*◌, ◌+◌, ◌-◌, ◌==◌, ◌||◌, ◌∷◌}
use Rattle.sl_run.specs.Premises.{torn_bytes, spells_something, pass_tests}

-- Whether a sector lies on a disk.
abbrev pub is_disk_sector : World → List ℕ → ℕ → Bool
is_disk_sector w path offset = list_any (λ d. bytes_eq d.path path && nat_le (offset + sector_size w) (d.mebibytes * mebibyte)) w.header.disks

-- How many sectors a call has.
abbrev pub sectors_of : Op → ℕ
sectors_of (ReadSectors n) = n
sectors_of (WriteRecord r) = 1

-- The last sector of the call lies on its disk.
abbrev pub is_placed : World → Call → Bool
is_placed w c = is_disk_sector w c.path (c.offset + (sectors_of c.op - 1) * sector_size w)

-- How many sectors a read hasn't sampled.
abbrev pub sectors_left : Course → ℕ
sectors_left f = sectors_of f.call.op - length f.samples

-- Tests on the machine, with those that need one.
abbrev pub on_machine : World → ℕ → (Machine → List (Bool × Refusal)) → List (Bool × Refusal)
on_machine w m f = elim (machine_at w m) [ None ↦ (true, MissingMachine) ∷ [] | Some a ↦ f a ]

-- A daemon must run.
abbrev pub needs_daemon : Machine → Bool × Refusal
needs_daemon a = (is_none a.daemon, MissingDaemon)

-- The call must be in flight and of the right kind.
abbrev pub on_flight : Machine → ℕ → (Course → Bool) → (Course → List (Bool × Refusal)) → List (Bool × Refusal)
on_flight a c p f =
    elim (flight_of a c) [
      | None ↦ (true, MissingCall) ∷ []
      | Some x ↦ elim (p x) [ false ↦ (true, MissingCall) ∷ [] | true ↦ f x ]
    ]

-- Whether the call reads.
abbrev pub is_read_course : Course → Bool
is_read_course c = not (is_write_course c)

-- Whether the running daemon has a start of this child unanswered.
abbrev pub has_start : Machine → ℕ → Bool
has_start a p = some_is (λ d. is_starting d.trace p) a.daemon

-- Whether a command is for lvmlockd's process, which acts by lines alone; its kill program may be set.
abbrev pub is_for_locks : Result Command ℕ → Bool
is_for_locks (Ok (SetKillpath p path)) = false
is_for_locks (Ok c) = some_is (λ p. p == lock_process) (process_named c)
is_for_locks (Err column) = false

-- Whether the text is such a command to the running daemon.
abbrev pub acts_for_locks : Machine → List ℕ → Bool
acts_for_locks a text = some_is (λ d. is_for_locks (d.setting.read text)) a.daemon

-- The refusals that apply to the event, in order.
unfoldable pub event_tests : World → Event → List (Bool × Refusal)
event_tests w (Pass d growths) = pass_tests w d growths
event_tests w (WakeUp m) = on_machine w m (λ a. needs_daemon a ∷ [])
event_tests w (GiveCommand m text) = on_machine w m (λ a. needs_daemon a ∷ (acts_for_locks a text || is_some a.locks.due, MissingLvm) ∷ [])
event_tests w (GiveLvm m line) = on_machine w m (λ a. needs_daemon a ∷ (is_some a.locks.line, MissingLvm) ∷ [])
event_tests w (GiveAsk m) = on_machine w m (λ a. needs_daemon a ∷ (is_none a.locks.due, MissingLvm) ∷ [])
event_tests w (Sample m c k) =
    on_machine w m (λ a. needs_daemon a ∷ on_flight a c is_read_course (λ f.
    (not (is_placed w f.call), MissingPlace) ∷ (nat_lt (sectors_left f) k, MissingSample) ∷ []))
event_tests w (Land m c) =
    on_machine w m (λ a. on_flight a c is_write_course (λ f.
    (not (is_placed w f.call), MissingPlace) ∷ (not (is_in_flight f.fate), MissingFlight) ∷ []))
event_tests w (Tear m c k bytes) =
    on_machine w m (λ a. on_flight a c is_write_course (λ f.
    (not (is_placed w f.call), MissingPlace) ∷ (not (is_in_flight f.fate), MissingFlight)
    ∷ (spells_something w (torn_bytes w f.call k bytes), PremiseTorn) ∷ []))
event_tests w (AnswerCall m c ok) =
    on_machine w m (λ a. needs_daemon a ∷ on_flight a c (is_of_running a) (λ f.
    (ok && is_read_course f && nat_lt 0 (sectors_left f), MissingSample) ∷ (ok && is_write_course f && not (is_landed f.fate), MissingLanding) ∷ []))
event_tests w (Do m c) =
    on_machine w m (λ a. needs_daemon a ∷ on_flight a c (is_of_running a) (λ f.
    (not (is_placed w f.call), MissingPlace) ∷ (is_torn_fate f.fate, MissingLanding) ∷ []))
event_tests w (DropWrite m c) =
    on_machine w m (λ a. on_flight a c is_write_course (λ f. (is_of_running a f || not (is_in_flight f.fate), MissingFlight) ∷ []))
event_tests w (Test m) = on_machine w m (λ a. (not a.up, MissingUp) ∷ [])
event_tests w (ExitOf m p) = on_machine w m (λ a. (not a.up, MissingUp) ∷ [])
event_tests w (SpawnedOf m p ok) = on_machine w m (λ a. needs_daemon a ∷ (not (has_start a p), MissingSpawn) ∷ [])
event_tests w (StartDaemon m name) =
    on_machine w m (λ a. (not a.up, MissingUp) ∷ (a.used, MissingReset) ∷ (list_any (bytes_eq name) (names_of w), PremiseName) ∷ [])
event_tests w (Crash m) = on_machine w m (λ a. needs_daemon a ∷ [])
event_tests w (Reset m) = on_machine w m (λ a. (not a.up, MissingUp) ∷ [])
event_tests w (Restart m) = on_machine w m (λ a. (a.up, MissingDown) ∷ [])

-- Whether the event is one that a line may spell: as many clocks as machines, at least one sector, no more bytes than a sector has, a
-- process number in its range.
abbrev pub is_shaped : World → Event → Bool
is_shaped w (Pass d (Some growths)) = length growths == w.header.machines
is_shaped w (Sample m c k) = nat_lt 0 k
is_shaped w (Tear m c k bytes) = nat_le (k + length bytes) (sector_size w)
is_shaped w (ExitOf m p) = is_in_range 1 2000000 p
is_shaped w (SpawnedOf m p ok) = is_in_range 1 2000000 p
is_shaped w e = true

-- The first refusal that fits.
abbrev pub refusal_of : World → Event → Option Refusal
refusal_of w e = first_that ((not (is_shaped w e), Syntax) ∷ event_tests w e)

-- The event may happen where none fits.
abbrev pub may_happen : World → Event → Bool
may_happen w e = is_none (refusal_of w e)
