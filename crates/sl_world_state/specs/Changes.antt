-- What an event changes before a daemon, if any, takes its step, by what is kept.
use Rattle.sl_world_state.specs.Inputs.{rest_in}
use Rattle.sl_world_state.specs.KeptWorld.{FlightState, KeptState, MachineState, Place, change_machine_in, flight_of_machine}
use Rattle.sl_world_state.specs.Refusals.{lands, left_in, torn_in}
use Rattle.sl_run.specs.Premises.{growth_of}
use Rattle.sl_run.specs.Locks.{fresh_locks}
use Rattle.sl_run.specs.declared.event.Event.TheVariants.{Crash, Do, DropWrite, Land, Pass, Reset, Restart, Sample, StartDaemon, Tear, Test}
use Rattle.sl_run.specs.declared.event.Event.{Event}
use Rattle.sl_run.specs.Worlds.{lingers}
use Rattle.sl_run.specs.declared.header.Header.{Header}
use Rattle.sl_time.specs.Times.{reading_of}
use Rattle.sl_trace.specs.WatchdogConnections.{test_holds}
use Rattle.std.specs.List.{enumerate_from}
use Rattle.std.specs.Prelude.{Bool, List, None, Option, Some, false, filter, if◌then◌else◌, map, slice_get, slice_set, true, unwrap_or, [], ℕ, ◌++◌, ◌+◌, ◌==◌, ◌||◌, ◌∷◌}

-- ---- time

-- A machine later.
abbrev pub machine_later : ℕ → Option (List ℕ) → ℕ × MachineState → MachineState
machine_later d growths p = record p.1 { clock = p.1.clock + growth_of d growths p.0 }

abbrev pub passed_in : ℕ → Option (List ℕ) → KeptState → KeptState
passed_in d growths k = record k { moment = k.moment + d; machines = map (machine_later d growths) (enumerate_from 1 k.machines) }

-- A test that holds moves the keepalive.
abbrev pub tested_machine : ℕ → MachineState → MachineState
tested_machine moment s = record s { kept = (if test_holds s.connections (reading_of s.clock) then moment else s.kept) }

-- ---- calls

-- Whether it is in flight still: the running daemon's, or a write that may land.
abbrev pub stays_open : FlightState → Bool
stays_open f = f.own || lands f

-- The call with this number, changed; it goes where it is in flight no more.
abbrev pub change_flight : ℕ → (FlightState → FlightState) → MachineState → MachineState
change_flight c g s = record s { flights = filter stays_open (map (λ f. elim (f.number == c) [ true ↦ g f | false ↦ f ]) s.flights) }

abbrev pub landed_flight : FlightState → FlightState
landed_flight f = record f { flying = false; landed = true; torn = false }

abbrev pub torn_flight : FlightState → FlightState
torn_flight f = record f { flying = false; landed = false; torn = true }

abbrev pub dropped_flight : FlightState → FlightState
dropped_flight f = record f { flying = false; landed = false; torn = false }

-- With so many sectors more.
abbrev pub sampled_flight : KeptState → ℕ → FlightState → FlightState
sampled_flight k n f = record f { sampled = rest_in k f n; samples = f.samples + n }

-- A sector is written.
abbrev pub write_sector : Place → List ℕ → List (List (List ℕ)) → List (List (List ℕ))
write_sector p bytes disks = elim (slice_get disks p.disk) [ None ↦ disks | Some sectors ↦ slice_set disks p.disk (slice_set sectors p.sector bytes) ]

abbrev pub write_at : Option Place → List ℕ → KeptState → KeptState
write_at None bytes k = k
write_at (Some p) bytes k = record k { disks = write_sector p bytes k.disks }

abbrev pub landed_in : ℕ → ℕ → KeptState → KeptState
landed_in m c k =
    elim (flight_of_machine k m c) [
      | None ↦ k
      | Some f ↦ change_machine_in m (change_flight c landed_flight) (write_at f.place (unwrap_or f.write []) k)
    ]

abbrev pub torn_by : ℕ → ℕ → ℕ → List ℕ → KeptState → KeptState
torn_by m c n bytes k =
    elim (flight_of_machine k m c) [
      | None ↦ k
      | Some f ↦ change_machine_in m (change_flight c torn_flight) (write_at f.place (torn_in k f n bytes) k)
    ]

-- What an answer ok needs is done: the rest is sampled, or the write lands.
abbrev pub completed_in : ℕ → ℕ → KeptState → KeptState
completed_in m c k =
    elim (flight_of_machine k m c) [
      | None ↦ k
      | Some f ↦ elim f.write [
        | None ↦ change_machine_in m (change_flight c (sampled_flight k (left_in f))) k
        | Some whole ↦ elim f.flying [ true ↦ landed_in m c k | false ↦ k ]
      ]
    ]

-- ---- lives of daemons and machines

abbrev pub started_machine : Header → MachineState → MachineState
started_machine h s = record s { runs = true; used = true; starting = []; locks = fresh_locks h }

-- A call whose daemon has ended.
abbrev pub disowned : FlightState → FlightState
disowned f = record f { own = false }

-- A daemon has ended: its writes stay in flight.
abbrev pub crashed_machine : MachineState → MachineState
crashed_machine s = record s { runs = false; starting = []; flights = map disowned (filter lands s.flights) }

-- With one more reset, the newest.
abbrev pub first_cut : ℕ → Option ℕ → Option ℕ
first_cut moment None = Some moment
first_cut moment (Some r) = Some r

abbrev pub cut_flight : ℕ → FlightState → FlightState
cut_flight moment f = record f { own = false; cut = first_cut moment f.cut }

-- The machine has gone down: each of its writes has a moment from which on it may not land for ever, and what it held lingers.
abbrev pub reset_machine : Header → ℕ → MachineState → MachineState
reset_machine h moment s =
    record s {
      up = false;
      connections = [];
      runs = false;
      starting = [];
      held = [];
      lingering = map (λ g. record { held = g; reset = moment }) s.held ++ filter (lingers h.timing.land moment) s.lingering;
      locks = fresh_locks h;
      flights = map (cut_flight moment) (filter lands s.flights);
    }

abbrev pub restarted_machine : ℕ → MachineState → MachineState
restarted_machine moment s = record s { up = true; kept = moment; used = false }

abbrev pub named_in : List ℕ → KeptState → KeptState
named_in name k = record k { names = name ∷ k.names }

-- ---- all events

unfoldable pub first_kept : Event → KeptState → KeptState
first_kept (Pass d growths) k = passed_in d growths k
first_kept (Sample m c n) k = change_machine_in m (change_flight c (sampled_flight k n)) k
first_kept (Land m c) k = landed_in m c k
first_kept (Tear m c n bytes) k = torn_by m c n bytes k
first_kept (Do m c) k = completed_in m c k
first_kept (DropWrite m c) k = change_machine_in m (change_flight c dropped_flight) k
first_kept (Test m) k = change_machine_in m (tested_machine k.moment) k
first_kept (StartDaemon m name) k = named_in name (change_machine_in m (started_machine k.header) k)
first_kept (Crash m) k = change_machine_in m crashed_machine k
first_kept (Reset m) k = change_machine_in m (reset_machine k.header k.moment) k
first_kept (Restart m) k = change_machine_in m (restarted_machine k.moment) k
first_kept e k = k
