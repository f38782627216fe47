-- What an event asks of its machine. (What it asks of the disks and of all names is not told here: a tear's bytes, and a start's name.)
use Rattle.sl_world_state.specs.Daemons.{text_for_locks}
use Rattle.sl_world_state.specs.KeptWorld.{FlightState, KeptState, MachineState}
use Rattle.sl_world_state.specs.Refusals.{left_in, needs_running, on_flight_in, is_shaped_in, on_kept, pass_tests_in, reads_in, refusal_in, spells_in, torn_in, writes_in}
use Rattle.sl_run.specs.Inputs.{machine_of}
use Rattle.sl_run.specs.Worlds.{first_that}
use Rattle.sl_run.specs.declared.header.Header.{Header}
use Rattle.sl_text.specs.Forms.{Form}
use Rattle.sl_trace.specs.declared.command.Command.{Command}
use Rattle.sl_run.specs.declared.event.Event.TheVariants.{AnswerCall, Crash, Do, DropWrite, ExitOf, GiveAsk, GiveCommand, GiveLvm, Land, Pass, Reset, Restart, Sample, SpawnedOf, StartDaemon, Tear, Test, WakeUp}
use Rattle.sl_run.specs.declared.event.Event.{Event}
use Rattle.sl_run.specs.declared.event.Refusal.TheVariants.{MissingCall, MissingDown, MissingFlight, MissingLanding, MissingLvm, MissingPlace, MissingReset, MissingSample, MissingSpawn, MissingUp, PremiseName, PremiseTorn, Syntax}
use Rattle.sl_run.specs.declared.event.Refusal.{Refusal}
use Rattle.std.specs.List.{list_any}
use Rattle.std.specs.Prelude.{Bool, List, Option, bytes_eq, false, true, is_none, is_some, nat_lt, not, [], ℕ, ◌&&◌, ◌==◌, ◌||◌, ◌∷◌, ◌≡◌}

-- Whether the event is a tear: its bytes are looked at, which may want memory.
abbrev pub is_tear : Event → Bool
is_tear (Tear m c k bytes) = true
is_tear e = false

-- ---- calls

abbrev pub sample_tests : ℕ → FlightState → List (Bool × Refusal)
sample_tests n f = (is_none f.place, MissingPlace) ∷ (nat_lt (left_in f) n, MissingSample) ∷ []

abbrev pub land_tests : FlightState → List (Bool × Refusal)
land_tests f = (is_none f.place, MissingPlace) ∷ (not f.flying, MissingFlight) ∷ []

abbrev pub answer_tests : Bool → FlightState → List (Bool × Refusal)
answer_tests ok f = (ok && reads_in f && nat_lt 0 (left_in f), MissingSample) ∷ (ok && writes_in f && not f.landed, MissingLanding) ∷ []

abbrev pub do_tests : FlightState → List (Bool × Refusal)
do_tests f = (is_none f.place, MissingPlace) ∷ (f.torn, MissingLanding) ∷ []

abbrev pub drop_tests : FlightState → List (Bool × Refusal)
drop_tests f = (f.own || not f.flying, MissingFlight) ∷ []

-- ---- machines: `locks` tells whether the text of a command is for lvmlockd's process

abbrev pub machine_tests : Bool → Event → MachineState → List (Bool × Refusal)
machine_tests locks (Pass d growths) s = []
machine_tests locks (WakeUp m) s = needs_running s ∷ []
machine_tests locks (GiveCommand m text) s = needs_running s ∷ (locks || is_some s.locks.due, MissingLvm) ∷ []
machine_tests locks (GiveLvm m line) s = needs_running s ∷ (is_some s.locks.line, MissingLvm) ∷ []
machine_tests locks (GiveAsk m) s = needs_running s ∷ (is_none s.locks.due, MissingLvm) ∷ []
machine_tests locks (Sample m c n) s = needs_running s ∷ on_flight_in s c reads_in (sample_tests n)
machine_tests locks (Land m c) s = on_flight_in s c writes_in land_tests
machine_tests locks (Tear m c n bytes) s = on_flight_in s c writes_in land_tests
machine_tests locks (AnswerCall m c ok) s = needs_running s ∷ on_flight_in s c (λ f. f.own) (answer_tests ok)
machine_tests locks (Do m c) s = needs_running s ∷ on_flight_in s c (λ f. f.own) do_tests
machine_tests locks (DropWrite m c) s = on_flight_in s c writes_in drop_tests
machine_tests locks (Test m) s = (not s.up, MissingUp) ∷ []
machine_tests locks (ExitOf m p) s = (not s.up, MissingUp) ∷ []
machine_tests locks (SpawnedOf m p ok) s = needs_running s ∷ (not (list_any (λ q. q == p) s.starting), MissingSpawn) ∷ []
machine_tests locks (StartDaemon m name) s = (not s.up, MissingUp) ∷ (s.used, MissingReset) ∷ []
machine_tests locks (Crash m) s = needs_running s ∷ []
machine_tests locks (Reset m) s = (not s.up, MissingUp) ∷ []
machine_tests locks (Restart m) s = (s.up, MissingDown) ∷ []

-- A call must be of the right kind.
abbrev pub of_kind : (FlightState → Bool) → (FlightState → List (Bool × Refusal)) → FlightState → List (Bool × Refusal)
of_kind p f x = elim (p x) [ false ↦ (true, MissingCall) ∷ [] | true ↦ f x ]

-- ---- tears: what a write leaves may spell nothing

abbrev pub torn_tests : Bool → FlightState → List (Bool × Refusal)
torn_tests spells f = (is_none f.place, MissingPlace) ∷ (not f.flying, MissingFlight) ∷ (spells, PremiseTorn) ∷ []

abbrev pub tear_tests : KeptState → ℕ → ℕ → ℕ → List ℕ → List (Bool × Refusal)
tear_tests k m c n given = on_kept k m (λ s. on_flight_in s c writes_in (λ f. torn_tests (spells_in k.header (torn_in k f n given)) f))

-- ---- starts: a name is given once

abbrev pub start_tests : KeptState → List ℕ → MachineState → List (Bool × Refusal)
start_tests k name s = (not s.up, MissingUp) ∷ (s.used, MissingReset) ∷ (list_any (bytes_eq name) k.names, PremiseName) ∷ []

-- ---- all events

-- The refusals that apply to an event; `locks` tells whether a command's text is for lvmlockd's process.
abbrev pub tests_with : Bool → KeptState → Event → List (Bool × Refusal)
tests_with locks k (Pass d growths) = pass_tests_in k d growths
tests_with locks k (Tear m c n given) = tear_tests k m c n given
tests_with locks k (StartDaemon m name) = on_kept k m (start_tests k name)
tests_with locks k e = on_kept k (machine_of e) (machine_tests locks e)

-- The first that fits.
abbrev pub refusal_with : Bool → KeptState → Event → Option Refusal
refusal_with locks k e = first_that ((not (is_shaped_in k.header e), Syntax) ∷ tests_with locks k e)

-- Whether the text of a command is for lvmlockd's process.
abbrev pub bars_locks : (Header → List (Form Command)) → KeptState → Event → Bool
bars_locks commands k (GiveCommand m text) = text_for_locks commands k.header text
bars_locks commands k e = false

-- The refusal of an event by what is kept.
abbrev pub RefusalsAreThose : Type 0
RefusalsAreThose =
    (commands : Header → List (Form Command)) (k : KeptState) (e : Event) (locks : Bool) → bars_locks commands k e ≡ locks → refusal_with locks k e ≡ refusal_in commands k e
