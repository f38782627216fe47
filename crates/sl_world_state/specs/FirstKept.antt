-- What is kept of a header's world at moment 0.
use Rattle.sl_area.specs.AreaSizes.{layout_of}
use Rattle.sl_world_state.specs.KeptWorld.{KeptState, MachineState}
use Rattle.sl_run.specs.Locks.{fresh_locks}
use Rattle.sl_run.specs.Worlds.{clock_reading, first_numbers, given_of, initial_bytes, mebibyte}
use Rattle.sl_run.specs.declared.header.Disk.{Disk}
use Rattle.sl_run.specs.declared.header.Header.{Header}
use Rattle.sl_run.specs.declared.header.SessionLine.{SessionLine}
use Rattle.sl_trace.specs.WatchdogConnections.{given_connection}
use Rattle.sl_trace.specs.declared.input.Given.{Given}
use Rattle.std.specs.List.{filter_map, range_with_len}
use Rattle.std.specs.Prelude.{List, Option, find, is_some, map, option_map, true, [], ℕ, ◌*◌, ◌/◌, ◌==◌}

-- The first session line of a machine: it has a daemon if it has one.
abbrev pub session_of : Header → ℕ → Option SessionLine
session_of h m = find (λ s. s.machine == m) h.sessions

-- The sessions that a machine's daemon begins with.
abbrev pub given_to : Header → ℕ → List Given
given_to h m = filter_map (given_of h m) h.sessions

-- A machine.
abbrev pub first_machine : Header → ℕ → MachineState
first_machine h m =
    record {
      up = true;
      used = is_some (session_of h m);
      runs = is_some (session_of h m);
      clock = 1000 * clock_reading h m;
      kept = 0;
      connections = map (given_connection h.timing) (given_to h m);
      next = first_numbers;
      starting = [];
      flights = [];
      held = [];
      lingering = [];
      locks = fresh_locks h;
    }

-- What stands at each sector of a disk.
abbrev pub first_sectors : Header → Disk → List (List ℕ)
first_sectors h d =
    map (λ n. initial_bytes (layout_of h.geometry) h d.path (n * h.geometry.sector)) (range_with_len 0 (d.mebibytes * mebibyte / h.geometry.sector))

-- All names, machine by machine.
abbrev pub first_names : Header → List (List ℕ)
first_names h = filter_map (λ m. option_map (λ (s : SessionLine). s.name) (session_of h m)) (range_with_len 1 h.machines)

-- The world.
unfoldable pub first_state : Header → KeptState
first_state h =
    record {
      header = h;
      moment = 0;
      machines = map (first_machine h) (range_with_len 1 h.machines);
      disks = map (first_sectors h) h.disks;
      names = first_names h;
    }
