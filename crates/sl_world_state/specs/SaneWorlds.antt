-- What is known of each world, beside what is kept of it: every event keeps it, if daemons number their calls and children.
use Rattle.sl_area.specs.AreaSizes.{layout_of}
use Rattle.sl_world_state.specs.Daemons.{IsSoundCall, Stood, program_of}
use Rattle.sl_world_state.specs.KeptWorld.{KeptState}
use Rattle.sl_world_state.specs.ShownWorlds.{Tells}
use Rattle.sl_run.specs.Refusals.{sectors_of}
use Rattle.sl_run.specs.Headers.{IsHeader}
use Rattle.sl_run.specs.Worlds.{Course, Daemon, Landing, Machine, Stamp, World, daemons_on, flights, is_of_running, next_numbers, reading_now, sector_size}
use Rattle.sl_run.specs.declared.header.Header.{Header}
use Rattle.sl_text.specs.Forms.{Form}
use Rattle.sl_trace.specs.CommandForms.{IsCommand, command_in}
use Rattle.sl_trace.specs.Traces.{Setting, Trace, children, first_child, last_reading, outstanding}
use Rattle.sl_trace.specs.declared.command.Command.{Command}
use Rattle.sl_words.specs.Bounds.{moments}
use Rattle.std.specs.List.{range_with_len}
use Rattle.std.specs.Prelude.{AllPairs, Contains, List, None, Ok, Option, Some, filter, length, map, slice_get, true, ℕ, ◌*◌, ◌+◌, ◌<◌, ◌≡◌, ◌≢◌, ◌≤◌}

-- A machine.
pub record IsSaneMachine (w : World) (a : Machine) : Type 0 where
  -- what is newer has a greater step: a call that is made now has no reset since
  pub resets : (r : Stamp) → Contains a.resets r → (r.step < w.step) × (r.moment ≤ w.moment)
  pub made : (c : Course) → Contains a.calls c → c.made.step < w.step
  -- a number names one call
  pub distinct : AllPairs (λ c d. c.call.number ≢ d.call.number) a.calls
  pub numbers : (c : Course) → Contains a.calls c → c.call.number < (next_numbers a).call
  -- a daemon's place among the machine's names one daemon
  pub daemons : (c : Course) → Contains a.calls c → c.daemon < length (daemons_on a)
  pub newest : (d : Daemon) → a.daemon ≡ Some d → d.number + 1 ≡ length (daemons_on a)
  pub used : (d : Daemon) → a.daemon ≡ Some d → a.used ≡ true
  pub up : (d : Daemon) → a.daemon ≡ Some d → a.up ≡ true
  -- the trace of the daemon that runs has the same calls open as the machine
  pub open_calls : (d : Daemon) → a.daemon ≡ Some d → map (λ m. m.call) (outstanding d.trace) ≡ map (λ c. c.call) (filter (is_of_running a) (flights a))
  -- its children are numbered in order
  pub children_numbered : (d : Daemon) → a.daemon ≡ Some d → map (λ k. k.process) (children d.trace) ≡ range_with_len first_child (length (children d.trace))
  pub time : (d : Daemon) → a.daemon ≡ Some d → last_reading d.setting d.trace ≤ reading_now a
  -- calls lie at whole sectors, and a read has sampled whole sectors, no more than it asks for
  pub calls : (c : Course) → Contains (flights a) c → IsSoundCall (sector_size w) c.call
  pub reads : (c : Course) → Contains (flights a) c → (length c.sampled ≡ length c.samples * sector_size w) × (length c.samples ≤ sectors_of c.call.op)
  pub in_time : (reading_now a < moments) × (a.kept.moment ≤ w.moment)

-- A daemon reads the commands of the header.
abbrev pub ReadsForms : (Header → List (Form Command)) → Header → Setting → Type 0
ReadsForms commands h st = st.read ≡ command_in (commands h)

-- The daemon value that runs on a machine, if one does, stands for the trace of the machine's daemon.
abbrev pub RunsOn : {D : Type 0} → (D → Setting → Trace → Type 0) → Option D → Option Daemon → Type 0
RunsOn stands None None = Unit {0}
RunsOn stands None (Some d) = ⊥
RunsOn stands (Some x) None = ⊥
RunsOn stands (Some x) (Some d) = stands x d.setting d.trace

-- A world: what is said of each machine by its place.
pub record IsSane (commands : Header → List (Form Command)) (w : World) : Type 0 where
  pub header : IsHeader w.header
  pub program : w.program ≡ program_of commands
  pub layout : w.layout ≡ layout_of w.header.geometry
  pub counted : length w.machines ≡ w.header.machines
  pub below : w.moment < moments
  pub sane : (i : ℕ) (a : Machine) → slice_get w.machines i ≡ Some a → IsSaneMachine w a
  pub forms : (i : ℕ) (a : Machine) (d : Daemon) → slice_get w.machines i ≡ Some a → Contains (daemons_on a) d → ReadsForms commands w.header d.setting
  pub layouts : (i : ℕ) (a : Machine) (d : Daemon) → slice_get w.machines i ≡ Some a → Contains (daemons_on a) d → d.setting.layout ≡ w.layout
  -- what lands is a sector's bytes
  pub landings : (l : Landing) → Contains w.landings l → length l.bytes ≡ sector_size w

-- What the commands of a header read are commands of its layout.
abbrev pub ReadsCommands : (Header → List (Form Command)) → Header → Type 0
ReadsCommands commands h = (text : List ℕ) (c : Command) → command_in (commands h) text ≡ Ok c → IsCommand (layout_of h.geometry) c

-- What is kept, and the daemons that run, stand for a world.
pub record WorldStands {D : Type 0} (commands : Header → List (Form Command)) (stands : D → Setting → Trace → Type 0) (k : KeptState) (hosts : List (Option D)) (w : World) : Type 0 where
  pub tells : Tells k w
  pub sane : IsSane commands w
  pub reads : ReadsCommands commands w.header
  pub counted : length hosts ≡ length w.machines
  pub runs : (i : ℕ) (a : Machine) (o : Option D) → slice_get w.machines i ≡ Some a → slice_get hosts i ≡ Some o → RunsOn stands o a.daemon
  -- a daemon of this kind stood for each trace
  pub stood : (i : ℕ) (a : Machine) (d : Daemon) → slice_get w.machines i ≡ Some a → Contains (daemons_on a) d → Stood stands d.setting d.trace
