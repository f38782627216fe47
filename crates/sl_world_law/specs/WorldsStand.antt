-- What each event makes of what is kept and of the daemons that run, and for which world that stands then.
use Rattle.sl_area.specs.AreaSizes.{layout_of}
use Rattle.sl_world_state.specs.Daemons.{IsNumbered, IsSoundCall, IsStep, MayCome, Stood, begun_with, entry_of, program_of}
use Rattle.sl_world_state.specs.declared.daemon.Most.{Most}
use Rattle.sl_world_state.specs.declared.daemon.Site.{Site}
use Rattle.sl_world_state.specs.FirstKept.{first_state, given_to, session_of}
use Rattle.sl_world_state.specs.Inputs.{input_in, own_in}
use Rattle.sl_world_state.specs.KeptWorld.{KeptState, MachineState, machine_in}
use Rattle.sl_world_state.specs.Refusals.{refusal_in}
use Rattle.sl_world_state.specs.SaneWorlds.{ReadsCommands, WorldStands}
use Rattle.sl_world_state.specs.Steps.{stepped_kept}
use Rattle.sl_run.specs.Lawful.{IsSetting}
use Rattle.sl_run.specs.EventChanges.{happens}
use Rattle.sl_run.specs.Inputs.{machine_of}
use Rattle.sl_run.specs.Refusals.{may_happen, refusal_of}
use Rattle.sl_run.specs.Headers.{IsHeader}
use Rattle.sl_run.specs.Runs.{EachDaemon, HasSteps}
use Rattle.sl_run.specs.Worlds.{World, first_numbers, world_with}
use Rattle.sl_run.specs.declared.event.Event.TheVariants.{Crash, Reset, StartDaemon}
use Rattle.sl_run.specs.declared.event.Event.{Event}
use Rattle.sl_run.specs.declared.header.Header.{Header}
use Rattle.sl_run.specs.declared.header.SessionLine.{SessionLine}
use Rattle.sl_world_law.specs.SaneInputs.{HasNumbers}
use Rattle.sl_text.specs.Forms.{Form}
use Rattle.sl_text.specs.Names.{is_name}
use Rattle.sl_time.specs.Times.{reading_of}
use Rattle.sl_trace.specs.Traces.{Setting, Trace, next_call, next_job}
use Rattle.sl_trace.specs.declared.command.Command.{Command}
use Rattle.sl_trace.specs.declared.effects.Call.{Call}
use Rattle.sl_trace.specs.declared.effects.Effects.{Effects}
use Rattle.sl_trace.specs.declared.input.Input.{Input}
use Rattle.std.specs.List.{range_with_len, slice_set}
use Rattle.std.specs.Prelude.{Bool, Contains, IsTrue, List, None, Option, Some, false, length, map, option_map, slice_get, true, [], ℕ, ◌+◌, ◌-◌, ◌∷◌, ◌≡◌}

-- Where the daemon of an event's machine stands among the daemons.
abbrev pub seat_of : Event → ℕ
seat_of e = machine_of e - 1

-- An event has come to pass: what is kept then, and the daemons that run then, stand for the world then.
pub record Comes {D : Type 0} (commands : Header → List (Form Command)) (stands : D → Setting → Trace → Type 0) (w : World) (e : Event) (fx : Effects) (k : KeptState)
    (hosts : List (Option D)) : Type 0 where
  pub may : may_happen w e ≡ true
  pub steps : HasSteps w e (fx ∷ [])
  pub stays : WorldStands commands stands k hosts (happens w e (fx ∷ []))

-- ---- refusals

abbrev pub RefusalsStand : {D : Type 0} → (Header → List (Form Command)) → (D → Setting → Trace → Type 0) → Type 0
RefusalsStand {D} commands stands =
    (k : KeptState) (hosts : List (Option D)) (w : World)
    → WorldStands commands stands k hosts w → (e : Event) → refusal_of w e ≡ refusal_in commands k e

-- ---- steps

-- A daemon runs on machine m, and this may come to it.
pub record IsReady {D : Type 0} (stands : D → Setting → Trace → Type 0) (k : KeptState) (hosts : List (Option D)) (m : ℕ) (i : Input) : Type 0 where
  pub machine : MachineState
  pub there : machine_in k m ≡ Some machine
  pub host : D
  pub runs : slice_get hosts (m - 1) ≡ Some (Some host)
  pub setting : Setting
  pub trace : Trace
  pub stood : stands host setting trace
  pub comes : MayCome setting trace (reading_of machine.clock) i
  pub next : next_call setting trace ≡ machine.next.call
  pub job : next_job setting trace ≡ machine.next.job
  pub layout : setting.layout ≡ layout_of k.header.geometry

-- Numbers are left on the event's machine.
abbrev pub LeavesNumbers : KeptState → Event → Type 0
LeavesNumbers k e = (s : MachineState) → machine_in k (machine_of e) ≡ Some s → HasNumbers s.next

abbrev pub StepsAreReady : {D : Type 0} → (Header → List (Form Command)) → (D → Setting → Trace → Type 0) → Type 0
StepsAreReady {D} commands stands =
    (k : KeptState) (hosts : List (Option D)) (w : World)
    → WorldStands commands stands k hosts w → (e : Event) → refusal_in commands k e ≡ None → (i : Input) → input_in k e ≡ Some i → LeavesNumbers k e
    → IsReady stands k hosts (machine_of e) i

-- What a step makes of a daemon: it stands for each trace that it stood for, with one entry more.
pub record HasStepped {D : Type 0} (stands : D → Setting → Trace → Type 0) (most : Most) (host next : D) (now : ℕ) (i : Input) (fx : Effects) : Type 0 where
  pub stays : (st : Setting) (es : Trace) → stands host st es → MayCome st es now i → stands next st (entry_of now i fx ∷ es) × IsNumbered st es fx
  pub sound : (st : Setting) (es : Trace) → stands host st es → MayCome st es now i → IsStep st most fx

-- What what is kept needs to know of a step: its calls have the machine's next numbers and are sound, and there is no more of it than was said.
pub record FitsKept (k : KeptState) (s : MachineState) (most : Most) (fx : Effects) : Type 0 where
  pub setting : Setting
  pub layout : setting.layout ≡ layout_of k.header.geometry
  pub step : IsStep setting most fx
  pub numbered : map (λ c. c.number) fx.calls ≡ range_with_len s.next.call (length fx.calls)
  pub sound : (c : Call) → Contains fx.calls c → IsSoundCall k.header.geometry.sector c

abbrev pub StepsFit : {D : Type 0} → (Header → List (Form Command)) → (D → Setting → Trace → Type 0) → Type 0
StepsFit {D} commands stands =
    (k : KeptState) (hosts : List (Option D)) (m : ℕ) (i : Input) (r : IsReady stands k hosts m i) (next : D) (most : Most) (fx : Effects)
    → HasStepped stands most r.host next (reading_of r.machine.clock) i fx → FitsKept k r.machine most fx

abbrev pub StepsStand : {D : Type 0} → (Header → List (Form Command)) → (D → Setting → Trace → Type 0) → Type 0
StepsStand {D} commands stands =
    (k : KeptState) (hosts : List (Option D)) (w : World)
    → WorldStands commands stands k hosts w → (e : Event) → refusal_in commands k e ≡ None → (i : Input) → input_in k e ≡ Some i → LeavesNumbers k e
    → (s : MachineState) → machine_in k (machine_of e) ≡ Some s → (host next : D) → slice_get hosts (seat_of e) ≡ Some (Some host)
    → (most : Most) (fx : Effects) → HasStepped stands most host next (reading_of s.clock) i fx
    → Comes commands stands w e fx (stepped_kept e fx k) (slice_set hosts (seat_of e) (Some next))

-- ---- events that no daemon takes

-- Whether the event begins or ends a daemon.
abbrev pub begins_or_ends : Event → Bool
begins_or_ends (StartDaemon m name) = true
begins_or_ends (Crash m) = true
begins_or_ends (Reset m) = true
begins_or_ends e = false

-- Where the daemons stay as they are.
abbrev pub OwnStands : {D : Type 0} → (Header → List (Form Command)) → (D → Setting → Trace → Type 0) → Type 0
OwnStands {D} commands stands =
    (k : KeptState) (hosts : List (Option D)) (w : World)
    → WorldStands commands stands k hosts w → (e : Event) → refusal_in commands k e ≡ None → input_in k e ≡ None → begins_or_ends e ≡ false
    → Comes commands stands w e (own_in k e) (stepped_kept e (own_in k e) k) hosts

-- Where the daemon of a machine ends, if one runs.
abbrev pub EndStands : {D : Type 0} → (Header → List (Form Command)) → (D → Setting → Trace → Type 0) → Event → Type 0
EndStands {D} commands stands e =
    (k : KeptState) (hosts : List (Option D)) (w : World)
    → WorldStands commands stands k hosts w → refusal_in commands k e ≡ None
    → Comes commands stands w e (own_in k e) (stepped_kept e (own_in k e) k) (slice_set hosts (seat_of e) None)

pub record EndsStand {D : Type 0} (commands : Header → List (Form Command)) (stands : D → Setting → Trace → Type 0) : Type 0 where
  pub crashes : (m : ℕ) → EndStands commands stands (Crash m)
  pub resets : (m : ℕ) → EndStands commands stands (Reset m)

-- With what a daemon begins.
abbrev pub new_site : ℕ → List ℕ → MachineState → Site
new_site m name s = record { machine = m; name = name; first = s.next; given = [] }

-- A daemon may begin so.
abbrev pub BeginningsAreSettings : {D : Type 0} → (Header → List (Form Command)) → (D → Setting → Trace → Type 0) → Type 0
BeginningsAreSettings {D} commands stands =
    (k : KeptState) (hosts : List (Option D)) (w : World)
    → WorldStands commands stands k hosts w → (m : ℕ) (name : List ℕ) → IsTrue (is_name name) → (s : MachineState)
    → IsHeader k.header × IsSetting (begun_with commands k.header (new_site m name s))

-- Where one begins.
abbrev pub BeginningsStand : {D : Type 0} → (Header → List (Form Command)) → (D → Setting → Trace → Type 0) → Type 0
BeginningsStand {D} commands stands =
    (k : KeptState) (hosts : List (Option D)) (w : World)
    → WorldStands commands stands k hosts w → (m : ℕ) (name : List ℕ) → IsTrue (is_name name) → refusal_in commands k (StartDaemon m name) ≡ None
    → (s : MachineState) → machine_in k m ≡ Some s → (host : D) → stands host (begun_with commands k.header (new_site m name s)) []
    → Comes commands stands w (StartDaemon m name) (own_in k (StartDaemon m name)) (stepped_kept (StartDaemon m name) (own_in k (StartDaemon m name)) k)
    (slice_set hosts (m - 1) (Some host))

-- ---- first worlds

-- With what the daemon of a session line begins.
abbrev pub first_site : Header → ℕ → SessionLine → Site
first_site h m s = record { machine = m; name = s.name; first = first_numbers; given = given_to h m }

-- A daemon runs on a machine that has a session line, and stands for no step; none on others.
abbrev pub HasBegun : {D : Type 0} → (Header → List (Form Command)) → (D → Setting → Trace → Type 0) → Header → ℕ → Option SessionLine → Option D → Type 0
HasBegun commands stands h m None None = Unit {0}
HasBegun commands stands h m None (Some host) = ⊥
HasBegun commands stands h m (Some s) None = ⊥
HasBegun commands stands h m (Some s) (Some host) = stands host (begun_with commands h (first_site h m s)) []

-- So on each.
pub record HaveBegun {D : Type 0} (commands : Header → List (Form Command)) (stands : D → Setting → Trace → Type 0) (h : Header) (hosts : List (Option D)) : Type 0 where
  pub counted : length hosts ≡ h.machines
  pub each : (i : ℕ) (o : Option D) → slice_get hosts i ≡ Some o → HasBegun commands stands h (i + 1) (session_of h (i + 1)) o

-- Session lines make settings.
abbrev pub FirstSettings : Type 0
FirstSettings =
    (commands : Header → List (Form Command)) (h : Header) → IsHeader h → ReadsCommands commands h → (m : ℕ) (s : SessionLine) → session_of h m ≡ Some s
    → IsSetting (begun_with commands h (first_site h m s))

abbrev pub FirstWorldsStand : {D : Type 0} → (Header → List (Form Command)) → (D → Setting → Trace → Type 0) → Type 0
FirstWorldsStand {D} commands stands =
    (h : Header) → IsHeader h → ReadsCommands commands h
    → (hosts : List (Option D)) → HaveBegun commands stands h hosts → WorldStands commands stands (first_state h) hosts (world_with (program_of commands) h)

-- ---- a daemon that is its trace

pub record PureDaemon : Type 0 where
  pub setting : Setting
  pub trace : Trace

-- It stands for its own trace alone.
abbrev pub is_trace_of : PureDaemon → Setting → Trace → Type 0
is_trace_of d st es = (d.setting ≡ st) × (d.trace ≡ es)

-- Those of a header's session lines.
abbrev pub pure_hosts : (Header → List (Form Command)) → Header → List (Option PureDaemon)
pure_hosts commands h =
    map (λ m. option_map (λ s. record { setting = begun_with commands h (first_site h m s); trace = [] }) (session_of h m)) (range_with_len 1 h.machines)

-- So of each good header there is a world that is stood for.
abbrev pub PureWorldsStand : Type 0
PureWorldsStand =
    (commands : Header → List (Form Command)) (h : Header) → IsHeader h → ReadsCommands commands h
    → WorldStands commands is_trace_of (first_state h) (pure_hosts commands h) (world_with (program_of commands) h)

-- ---- each daemon

-- A daemon of this kind stood for the trace of each daemon that ever ran.
abbrev pub EachStood : {D : Type 0} → (Header → List (Form Command)) → (D → Setting → Trace → Type 0) → Type 0
EachStood {D} commands stands =
    (k : KeptState) (hosts : List (Option D)) (w : World)
    → WorldStands commands stands k hosts w → EachDaemon (Stood stands) w
