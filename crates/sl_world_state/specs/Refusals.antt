-- Why an event may not happen, by what is kept: the tests of the definitions, in their order.
use Rattle.sl_area.specs.AreaSizes.{layout_of, record_in}
use Rattle.sl_world_state.specs.Daemons.{text_for_locks}
use Rattle.sl_world_state.specs.KeptWorld.{FlightState, KeptState, MachineState, flight_in, machine_in, sector_of_call}
use Rattle.sl_run.specs.Premises.{drifts, growth_of}
use Rattle.sl_run.specs.Worlds.{first_that}
use Rattle.sl_run.specs.declared.event.Event.TheVariants.{AnswerCall, Crash, Do, DropWrite, ExitOf, GiveAsk, GiveCommand, GiveLvm, Land, Pass, Reset, Restart, Sample, SpawnedOf, StartDaemon, Tear, Test, WakeUp}
use Rattle.sl_run.specs.declared.event.Event.{Event}
use Rattle.sl_run.specs.declared.event.Refusal.TheVariants.{LimitMoment, MissingCall, MissingDaemon, MissingDown, MissingFlight, MissingLanding, MissingLvm, MissingMachine, MissingPlace, MissingReset, MissingSample, MissingSpawn, MissingUp, PremiseDrift, PremiseLanding, PremiseName, PremiseTorn, PremiseWatchdog, Syntax}
use Rattle.sl_run.specs.declared.event.Refusal.{Refusal}
use Rattle.sl_run.specs.declared.header.Header.{Header}
use Rattle.sl_text.specs.Forms.{Form}
use Rattle.sl_time.specs.Times.{reading_of}
use Rattle.sl_trace.specs.declared.command.Command.{Command}
use Rattle.sl_words.specs.Bounds.{moments}
use Rattle.sl_words.specs.Words.{some_is}
use Rattle.std.specs.Int.{is_in_range}
use Rattle.std.specs.List.{enumerate_from, list_any}
use Rattle.std.specs.Prelude.{Bool, List, None, Option, Some, bytes_eq, drop, false, is_none, is_ok, is_some, length, nat_le, nat_lt, not, take, true, [], ℕ, ◌&&◌, ◌++◌, ◌+◌, ◌-◌, ◌==◌, ◌||◌, ◌∷◌}

-- ---- time

-- Whether the machine's reading would reach the bound.
abbrev pub reads_past : ℕ → Option (List ℕ) → ℕ × MachineState → Bool
reads_past d growths p = nat_le moments (reading_of (p.1.clock + growth_of d growths p.0))

-- Whether its clock would go wrong.
abbrev pub drifts_off : ℕ → ℕ → Option (List ℕ) → ℕ × MachineState → Bool
drifts_off rho d growths p = not (drifts rho d (growth_of d growths p.0))

-- Whether its last keepalive would be too old.
abbrev pub starves : ℕ → ℕ → MachineState → Bool
starves fire moment s = s.up && nat_lt (s.kept + fire) moment

-- Whether a write may still land.
abbrev pub lands : FlightState → Bool
lands f = is_some f.write && f.flying

-- Whether a write of before a reset could land too late.
abbrev pub is_overdue : ℕ → ℕ → FlightState → Bool
is_overdue land moment f = lands f && some_is (λ r. nat_lt (r + land) moment) f.cut

-- Why so much time may not pass.
unfoldable pub pass_tests_in : KeptState → ℕ → Option (List ℕ) → List (Bool × Refusal)
pass_tests_in k d growths =
    let h : Header = k.header in
    (nat_le moments (k.moment + d) || list_any (reads_past d growths) (enumerate_from 1 k.machines), LimitMoment)
    ∷ (list_any (drifts_off h.timing.rho d growths) (enumerate_from 1 k.machines), PremiseDrift)
    ∷ (list_any (starves h.timing.fire (k.moment + d)) k.machines, PremiseWatchdog)
    ∷ (list_any (λ s. list_any (is_overdue h.timing.land (k.moment + d)) s.flights) k.machines, PremiseLanding) ∷ []

-- ---- machines and calls

-- Tests on the machine, with those that need one.
abbrev pub on_kept : KeptState → ℕ → (MachineState → List (Bool × Refusal)) → List (Bool × Refusal)
on_kept k m f = elim (machine_in k m) [ None ↦ (true, MissingMachine) ∷ [] | Some s ↦ f s ]

-- A daemon must run.
abbrev pub needs_running : MachineState → Bool × Refusal
needs_running s = (not s.runs, MissingDaemon)

-- The call must be in flight and of the right kind.
abbrev pub on_flight_in : MachineState → ℕ → (FlightState → Bool) → (FlightState → List (Bool × Refusal)) → List (Bool × Refusal)
on_flight_in s c p f =
    elim (flight_in s c) [
      | None ↦ (true, MissingCall) ∷ []
      | Some x ↦ elim (p x) [ false ↦ (true, MissingCall) ∷ [] | true ↦ f x ]
    ]

-- Whether it writes; whether it reads.
abbrev pub writes_in : FlightState → Bool
writes_in f = is_some f.write

abbrev pub reads_in : FlightState → Bool
reads_in f = not (is_some f.write)

-- How many sectors a read hasn't sampled.
abbrev pub left_in : FlightState → ℕ
left_in f = f.sectors - f.samples

-- What a torn write leaves: its first bytes, then the given ones, then what was there.
abbrev pub torn_in : KeptState → FlightState → ℕ → List ℕ → List ℕ
torn_in k f n bytes =
    elim f.write [ None ↦ [] | Some whole ↦ take n whole ++ bytes ++ drop (n + length bytes) (sector_of_call k.disks f.place 0) ]

-- Whether the bytes spell a record.
abbrev pub spells_in : Header → List ℕ → Bool
spells_in h bytes = is_ok (record_in (layout_of h.geometry) bytes)

-- ---- all tests

-- The refusals that apply to the event, in order.
unfoldable pub tests_in : (Header → List (Form Command)) → KeptState → Event → List (Bool × Refusal)
tests_in commands k (Pass d growths) = pass_tests_in k d growths
tests_in commands k (WakeUp m) = on_kept k m (λ s. needs_running s ∷ [])
tests_in commands k (GiveCommand m text) =
    on_kept k m (λ s. needs_running s ∷ (text_for_locks commands k.header text || is_some s.locks.due, MissingLvm) ∷ [])
tests_in commands k (GiveLvm m line) = on_kept k m (λ s. needs_running s ∷ (is_some s.locks.line, MissingLvm) ∷ [])
tests_in commands k (GiveAsk m) = on_kept k m (λ s. needs_running s ∷ (is_none s.locks.due, MissingLvm) ∷ [])
tests_in commands k (Sample m c n) =
    on_kept k m (λ s. needs_running s ∷ on_flight_in s c reads_in (λ f. (is_none f.place, MissingPlace) ∷ (nat_lt (left_in f) n, MissingSample) ∷ []))
tests_in commands k (Land m c) =
    on_kept k m (λ s. on_flight_in s c writes_in (λ f. (is_none f.place, MissingPlace) ∷ (not f.flying, MissingFlight) ∷ []))
tests_in commands k (Tear m c n bytes) =
    on_kept k m (λ s. on_flight_in s c writes_in (λ f.
    (is_none f.place, MissingPlace) ∷ (not f.flying, MissingFlight) ∷ (spells_in k.header (torn_in k f n bytes), PremiseTorn) ∷ []))
tests_in commands k (AnswerCall m c ok) =
    on_kept k m (λ s. needs_running s ∷ on_flight_in s c (λ f. f.own) (λ f.
    (ok && reads_in f && nat_lt 0 (left_in f), MissingSample) ∷ (ok && writes_in f && not f.landed, MissingLanding) ∷ []))
tests_in commands k (Do m c) =
    on_kept k m (λ s. needs_running s ∷ on_flight_in s c (λ f. f.own) (λ f. (is_none f.place, MissingPlace) ∷ (f.torn, MissingLanding) ∷ []))
tests_in commands k (DropWrite m c) = on_kept k m (λ s. on_flight_in s c writes_in (λ f. (f.own || not f.flying, MissingFlight) ∷ []))
tests_in commands k (Test m) = on_kept k m (λ s. (not s.up, MissingUp) ∷ [])
tests_in commands k (ExitOf m p) = on_kept k m (λ s. (not s.up, MissingUp) ∷ [])
tests_in commands k (SpawnedOf m p ok) = on_kept k m (λ s. needs_running s ∷ (not (list_any (λ q. q == p) s.starting), MissingSpawn) ∷ [])
tests_in commands k (StartDaemon m name) =
    on_kept k m (λ s. (not s.up, MissingUp) ∷ (s.used, MissingReset) ∷ (list_any (bytes_eq name) k.names, PremiseName) ∷ [])
tests_in commands k (Crash m) = on_kept k m (λ s. needs_running s ∷ [])
tests_in commands k (Reset m) = on_kept k m (λ s. (not s.up, MissingUp) ∷ [])
tests_in commands k (Restart m) = on_kept k m (λ s. (s.up, MissingDown) ∷ [])

-- Whether the event is one that a line may spell.
abbrev pub is_shaped_in : Header → Event → Bool
is_shaped_in h (Pass d (Some growths)) = length growths == h.machines
is_shaped_in h (Sample m c n) = nat_lt 0 n
is_shaped_in h (Tear m c n bytes) = nat_le (n + length bytes) h.geometry.sector
is_shaped_in h (ExitOf m p) = is_in_range 1 2000000 p
is_shaped_in h (SpawnedOf m p ok) = is_in_range 1 2000000 p
is_shaped_in h e = true

-- The first refusal that fits.
abbrev pub refusal_in : (Header → List (Form Command)) → KeptState → Event → Option Refusal
refusal_in commands k e = first_that ((not (is_shaped_in k.header e), Syntax) ∷ tests_in commands k e)
