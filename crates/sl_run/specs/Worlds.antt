-- The world: the moment, the machines, and for each place what landed there, in order. Beside what an executed world needs it keeps the
-- history that a proof asks for: when each thing happened, and all calls, landings and resets of the past.
--
-- What becomes of a call (`Course`), by its `Fate` and whether it is answered:
--
--     read:   In_flight, sampled sector by sector ------------------------> answered
--     write:  In_flight --> Landed ---------------------------------------> answered ok, or failed
--                      \--> Torn -----------------------------------------> answered failed
--                      \--------------------------------------------------> answered failed; it may not land any more
--                      \--> Dropped: its daemon has ended, and it never lands
--
-- Of a daemon that has ended a write is in flight until it has landed, was torn or was dropped, and a read not at all (`is_open`).
use Rattle.sl_area.specs.AreaSizes.{Layout, layout_of, layout_with, program_digest, sector_with}
use Rattle.sl_area.specs.AreaLayout.{area_sectors, in_area}
use Rattle.sl_area.specs.AreaRecords.{fresh_block_at, fresh_delta, fresh_leader, leader_record, no_request, no_value}
use Rattle.sl_run.specs.Locks.{Locks, fresh_locks}
use Rattle.sl_run.specs.declared.event.Refusal.{Refusal}
use Rattle.sl_run.specs.declared.header.Header.{Header}
use Rattle.sl_run.specs.declared.header.LockspaceLine.{LockspaceLine}
use Rattle.sl_run.specs.declared.header.ResourceLine.{ResourceLine}
use Rattle.sl_run.specs.declared.header.SessionLine.{SessionLine}
use Rattle.sl_sector.specs.declared.sector.DeltaRec.{DeltaRec}
use Rattle.sl_sector.specs.declared.sector.DeltaState.TheVariants.{Live}
use Rattle.sl_sector.specs.declared.sector.Rec.TheVariants.{DeltaIs, RequestIs, ValueIs}
use Rattle.sl_sector.specs.declared.sector.Rec.{Rec}
use Rattle.sl_text.specs.Forms.{Form}
use Rattle.sl_time.specs.Times.{reading_of}
use Rattle.sl_trace.specs.CommandForms.{command_in, forms}
use Rattle.sl_trace.specs.WatchdogConnections.{Connection, given_connection}
use Rattle.sl_trace.specs.Traces.{Setting, Trace, is_write, next_call, next_job, same_place}
use Rattle.sl_trace.specs.declared.command.Command.{Command}
use Rattle.sl_trace.specs.declared.effects.Call.{Call}
use Rattle.sl_trace.specs.declared.effects.Grant.{Grant}
use Rattle.sl_trace.specs.declared.input.Given.{Given}
use Rattle.sl_trace.specs.declared.input.Numbers.{Numbers}
use Rattle.sl_words.specs.Words.{choose, first_of_list, some_is}
use Rattle.std.specs.List.{range_with_len}
use Rattle.std.specs.Option.{option_map_or}
use Rattle.std.specs.Prelude.{Bool, List, None, Option, Some, bytes_eq, false, filter, filter_map, find, flat_map, if◌then◌else◌, is_none, is_some, map, nat_le, nat_lt, option_map, replicate, slice_get, slice_set, true, [], ℕ, ◌&&◌, ◌*◌, ◌++◌, ◌+◌, ◌-◌, ◌/◌, ◌==◌, ◌||◌, ◌∷◌}

-- When something happened: the number of the step, the moment, and the clock of the machine, in thousandths of a millisecond. Of two
-- things the one with the lesser step came first; all that happens between two entries of the run has a step of its own.
pub record Stamp : Type 0 where
  pub step : ℕ
  pub moment : ℕ
  pub clock : ℕ

-- What became of a call on its disk.
pub data Fate : Type 0 where
  -- a read, or a write that hasn't taken effect
  In_flight : Fate
  -- a write that took effect whole
  Landed : Fate
  -- a write that took effect in part
  Torn : Fate
  -- a write of an ended daemon that never takes effect
  Dropped : Fate

-- A sector that a read has sampled: when, and which of the place's landings it saw, counted from 0 for what stood there at first.
pub record Sampling : Type 0 where
  pub step : ℕ
  pub moment : ℕ
  pub index : ℕ

-- The course of a call, from its submission on; it is kept for ever.
pub record Course : Type 0 where
  pub call : Call
  -- the place of its daemon among the machine's
  pub daemon : ℕ
  pub made : Stamp
  -- what a read has sampled so far: the bytes, and the samples
  pub sampled : List ℕ
  pub samples : List Sampling
  pub fate : Fate
  pub answered : Option Stamp
  -- answered ok
  pub done : Bool

-- A daemon with its place among the machine's, its trace, and when each entry came, the newest first.
pub record Daemon : Type 0 where
  pub number : ℕ
  pub setting : Setting
  pub begun : Stamp
  pub trace : Trace
  pub stamps : List Stamp

-- What a machine held when it was reset: a write of its process that was in flight then may land for `land` longer.
pub record Lingering : Type 0 where
  pub held : Grant
  -- the moment of the reset
  pub reset : ℕ

-- A machine.
pub record Machine : Type 0 where
  pub up : Bool
  -- in thousandths of a millisecond
  pub clock : ℕ
  -- on what the last keepalive rests
  pub kept : Stamp
  pub connections : List Connection
  -- the one that runs
  pub daemon : Option Daemon
  -- those that have ended, the newest first
  pub ended : List Daemon
  -- one ran since the last restart
  pub used : Bool
  -- all that were ever submitted here, the newest first
  pub calls : List Course
  -- in the order of their grants
  pub holdings : List Grant
  -- what it held when it was reset: of the last reset first, and of those before what lingered then
  pub lingering : List Lingering
  -- the newest first
  pub resets : List Stamp
  -- lvmlockd's, made anew with each daemon
  pub locks : Locks

-- What a write left at a place.
pub record Landing : Type 0 where
  pub path : List ℕ
  pub offset : ℕ
  pub bytes : List ℕ
  -- as the write was submitted, or else torn
  pub whole : Bool
  -- the machine and the call, or none for what stood there at first
  pub writer : Option (ℕ × ℕ)
  pub step : ℕ
  pub moment : ℕ

-- What a program brings to a world: the digest of its sectors, and the forms of the commands that its daemons read under a header.
pub record Program : Type 0 where
  pub digest : List ℕ → List ℕ
  pub commands : Header → List (Form Command)

-- The whole program: SHA-256 and all commands.
abbrev pub whole_program : Program
whole_program = record { digest = program_digest; commands = (λ h. forms (layout_of h.geometry)) }

-- The world.
pub record World : Type 0 where
  pub program : Program
  pub header : Header
  pub layout : Layout
  -- how many steps have been made
  pub step : ℕ
  pub moment : ℕ
  -- machine m is the m-th
  pub machines : List Machine
  -- of all places, the newest first
  pub landings : List Landing

-- The unit of a disk's size.
abbrev pub mebibyte : ℕ
mebibyte = 1048576

-- The refusal of the first test that holds.
abbrev pub first_that : List (Bool × Refusal) → Option Refusal
first_that tests = option_map (λ t. t.1) (find (λ t. t.0) tests)

-- The bytes of a sector.
abbrev pub sector_size : World → ℕ
sector_size w = w.layout.sector

-- ---- what stands at a place

-- A machine's first reading.
abbrev pub clock_reading : Header → ℕ → ℕ
clock_reading h m = option_map_or (λ c. c.reading) (find (λ c. c.machine == m) h.clocks) 0

-- The delta record that a session of the header has.
abbrev pub member_delta : Header → SessionLine → DeltaRec
member_delta h s =
    record { state = Live; id = s.id; generation = 1; seq = 1; stamp = clock_reading h s.machine; lockspace = s.lockspace; host = Some s.name; bitmap = replicate 250 0 }

-- The record of an id at moment 0: a session's of the header, or a fresh one.
abbrev pub initial_delta : Header → LockspaceLine → ℕ → DeltaRec
initial_delta h l id =
    elim (find (λ s. bytes_eq s.lockspace l.name && s.id == id) h.sessions) [ None ↦ fresh_delta l.name id | Some s ↦ member_delta h s ]

-- Sector k of a lockspace's area at moment 0.
abbrev pub initial_of_lockspace : Header → LockspaceLine → ℕ → Option Rec
initial_of_lockspace h l k = choose (nat_lt k h.geometry.hosts) (DeltaIs (initial_delta h l (k + 1)))

-- Sector k of a resource's area at moment 0.
abbrev pub initial_of_resource : Layout → ResourceLine → ℕ → Option Rec
initial_of_resource g r k =
    if k == 0 then Some (leader_record g (fresh_leader g r.lockspace r.name))
    else (if k == 1 then Some (RequestIs no_request)
    else (if nat_lt k (area_sectors g) then Some (fresh_block_at g r.lockspace r.name k)
    else choose ((k + 1) * g.sector == g.area) (ValueIs no_value)))

-- The record that a sector spells at moment 0, if any.
unfoldable pub initial_record : Layout → Header → List ℕ → ℕ → Option Rec
initial_record g h path offset =
    elim (find (λ l. bytes_eq l.path path && in_area g l.offset offset) h.lockspaces) [
      | Some l ↦ initial_of_lockspace h l ((offset - l.offset) / g.sector)
      | None ↦ elim (find (λ r. bytes_eq r.path path && in_area g r.offset offset) h.resources) [
        | Some r ↦ initial_of_resource g r ((offset - r.offset) / g.sector)
        | None ↦ None
      ]
    ]

-- The bytes of a sector at moment 0: a record, or zeros.
abbrev pub initial_bytes : Layout → Header → List ℕ → ℕ → List ℕ
initial_bytes g h path offset = elim (initial_record g h path offset) [ None ↦ replicate g.sector 0 | Some r ↦ sector_with g r ]

-- What landed at a place since moment 0, the newest first.
abbrev pub landed_at : World → List ℕ → ℕ → List Landing
landed_at w path offset = filter (λ l. same_place l.path l.offset path offset) w.landings

-- What stood at a place at moment 0, as a landing.
abbrev pub first_landing : World → List ℕ → ℕ → Landing
first_landing w path offset =
    record {
      path = path;
      offset = offset;
      bytes = initial_bytes w.layout w.header path offset;
      whole = true;
      writer = None;
      step = 0;
      moment = 0;
    }

-- All that ever stood at a place, the newest first.
abbrev pub history_of : World → List ℕ → ℕ → List Landing
history_of w path offset = landed_at w path offset ++ first_landing w path offset ∷ []

-- What landed at a place last, if anything did.
abbrev pub last_landing : World → List ℕ → ℕ → Option Landing
last_landing w path offset = find (λ l. same_place l.path l.offset path offset) w.landings

-- A place holds the newest of its history.
abbrev pub content : World → List ℕ → ℕ → List ℕ
content w path offset = elim (last_landing w path offset) [ Some l ↦ l.bytes | None ↦ initial_bytes w.layout w.header path offset ]

-- ---- machines

-- Machine m.
abbrev pub machine_at : World → ℕ → Option Machine
machine_at w m = if m == 0 then None else slice_get w.machines (m - 1)

-- The world with machine m changed.
abbrev pub change_machine : ℕ → (Machine → Machine) → World → World
change_machine m f w = elim (machine_at w m) [ None ↦ w | Some a ↦ record w { machines = slice_set w.machines (m - 1) (f a) } ]

-- What a machine's clock shows.
abbrev pub reading_now : Machine → ℕ
reading_now a = reading_of a.clock

-- Now, on a machine.
abbrev pub stamp_now : World → Machine → Stamp
stamp_now w a = record { step = w.step; moment = w.moment; clock = a.clock }

-- Whether a write that was in flight at that reset may land still.
abbrev pub lingers : ℕ → ℕ → Lingering → Bool
lingers land moment l = nat_le moment (l.reset + land)

-- What lingers on a machine.
abbrev pub lingering_now : World → Machine → List Lingering
lingering_now w a = filter (lingers w.header.timing.land w.moment) a.lingering

-- Each daemon that ever began on a machine, the newest first.
abbrev pub daemons_on : Machine → List Daemon
daemons_on a = elim a.daemon [ None ↦ a.ended | Some d ↦ d ∷ a.ended ]

-- The daemon with this place among the machine's.
abbrev pub daemon_numbered : Machine → ℕ → Option Daemon
daemon_numbered a number = find (λ d. d.number == number) (daemons_on a)

-- All names that daemons had.
abbrev pub names_of : World → List (List ℕ)
names_of w = flat_map (λ a. map (λ d. d.setting.name) (daemons_on a)) w.machines

-- The numbers of a machine's first daemon.
abbrev pub first_numbers : Numbers
first_numbers = record { call = 1; job = 1 }

-- The numbers of the next call and the next job of the machine.
abbrev pub next_numbers : Machine → Numbers
next_numbers a =
    elim (first_of_list (daemons_on a)) [ None ↦ first_numbers | Some d ↦ record { call = next_call d.setting d.trace; job = next_job d.setting d.trace } ]

-- ---- calls

-- Whether it hasn't taken effect.
abbrev pub is_in_flight : Fate → Bool
is_in_flight In_flight = true
is_in_flight f = false

-- Whether it took effect whole.
abbrev pub is_landed : Fate → Bool
is_landed Landed = true
is_landed f = false

-- Whether it took effect in part.
abbrev pub is_torn_fate : Fate → Bool
is_torn_fate Torn = true
is_torn_fate f = false

-- Whether the call writes.
abbrev pub is_write_course : Course → Bool
is_write_course c = is_write c.call.op

-- Whether the call is the running daemon's.
abbrev pub is_of_running : Machine → Course → Bool
is_of_running a c = some_is (λ d. d.number == c.daemon) a.daemon

-- Whether a write may still take effect.
abbrev pub may_land : Course → Bool
may_land c = is_write_course c && is_none c.answered && is_in_flight c.fate

-- Whether the call is in flight: unanswered while its daemon runs; after that, a write until it has landed, was torn or was dropped.
abbrev pub is_open : Machine → Course → Bool
is_open a c = is_none c.answered && (is_of_running a c || may_land c)

-- The machine's calls in flight.
abbrev pub flights : Machine → List Course
flights a = filter (is_open a) a.calls

-- The call in flight with this number.
abbrev pub flight_of : Machine → ℕ → Option Course
flight_of a number = find (λ c. c.call.number == number && is_open a c) a.calls

-- The resets after this step, the newest first.
abbrev pub resets_after : Machine → ℕ → List Stamp
resets_after a step = filter (λ r. nat_lt step r.step) a.resets

-- ---- the header's world

-- The first stamp.
abbrev pub first_stamp : Header → ℕ → Stamp
first_stamp h m = record { step = 0; moment = 0; clock = 1000 * clock_reading h m }

-- A session line of machine m, as its daemon is given it.
abbrev pub given_of : Header → ℕ → SessionLine → Option Given
given_of h m s =
    elim (s.machine == m) [
      | false ↦ None
      | true ↦ option_map (λ l. record { lockspace = s.lockspace; id = s.id; path = l.path; offset = l.offset; renewed = clock_reading h m })
          (find (λ l. bytes_eq l.name s.lockspace) h.lockspaces)
    ]

-- What a daemon is made of.
abbrev pub setting_of : Program → Layout → Header → ℕ → List ℕ → Numbers → List Given → Setting
setting_of p g h m name first given =
    record { timing = h.timing; grace = h.grace; layout = g; machine = m; name = name; first = first; given = given; read = command_in (p.commands h) }

-- A daemon without entries.
abbrev pub new_daemon : ℕ → Setting → Stamp → Daemon
new_daemon number st begun = record { number = number; setting = st; begun = begun; trace = []; stamps = [] }

-- The daemon that a machine has at moment 0: that of its session lines.
abbrev pub first_daemon : Program → Layout → Header → ℕ → List Given → Option Daemon
first_daemon p g h m given =
    option_map (λ s. new_daemon 0 (setting_of p g h m s.name first_numbers given) (first_stamp h m)) (find (λ s. s.machine == m) h.sessions)

-- Machine m at moment 0.
unfoldable pub machine_of_header : Program → Layout → Header → ℕ → Machine
machine_of_header p g h m =
    let given : List Given = filter_map (given_of h m) h.sessions in
    record {
      up = true;
      clock = 1000 * clock_reading h m;
      kept = first_stamp h m;
      connections = map (given_connection h.timing) given;
      daemon = first_daemon p g h m given;
      ended = [];
      used = is_some (first_daemon p g h m given);
      calls = [];
      holdings = [];
      lingering = [];
      resets = [];
      locks = fresh_locks h;
    }

-- The world at moment 0, with this program.
abbrev pub world_with : Program → Header → World
world_with p h =
    let g : Layout = layout_with p.digest h.geometry in
    record {
      program = p;
      header = h;
      layout = g;
      step = 1;
      moment = 0;
      machines = map (machine_of_header p g h) (range_with_len 1 h.machines);
      landings = [];
    }
