-- What is kept of each machine, as a function of the machine; and of which world something is kept.
use Rattle.sl_area.specs.AreaSizes.{layout_of, sector_with}
use Rattle.sl_world_state.specs.KeptWorld.{FlightState, KeptState, MachineState, Place}
use Rattle.sl_run.specs.Refusals.{sectors_of}
use Rattle.sl_run.specs.Worlds.{Course, Daemon, Machine, Stamp, World, content, flights, is_in_flight, is_landed, is_of_running, is_torn_fate, mebibyte, names_of, next_numbers, resets_after, sector_size}
use Rattle.sl_run.specs.declared.header.Disk.{Disk}
use Rattle.sl_run.specs.declared.header.Header.{Header}
use Rattle.sl_trace.specs.Traces.{children, record_of}
use Rattle.sl_trace.specs.declared.effects.Call.{Call}
use Rattle.sl_trace.specs.declared.effects.Op.{Op}
use Rattle.sl_words.specs.Words.{least}
use Rattle.std.specs.List.{list_any, range_with_len}
use Rattle.std.specs.Prelude.{Bool, List, None, Option, Some, bytes_eq, false, filter, is_none, is_some, length, map, nat_le, option_map, position, true, [], ℕ, ◌&&◌, ◌*◌, ◌+◌, ◌-◌, ◌/◌, ◌≡◌}

-- ---- a call

-- Whether its last sector lies on its disk.
abbrev pub is_placed_in : Header → Call → Bool
is_placed_in h c =
    list_any (λ d. bytes_eq d.path c.path && nat_le (c.offset + (sectors_of c.op - 1) * h.geometry.sector + h.geometry.sector) (d.mebibytes * mebibyte)) h.disks

-- The sector at an offset of a disk.
abbrev pub place_at : Header → List ℕ → ℕ → Option Place
place_at h path offset = option_map (λ d. record { disk = d; sector = offset / h.geometry.sector }) (position (λ d. bytes_eq d.path path) h.disks)

-- Where a call lies.
unfoldable pub place_in : Header → Call → Option Place
place_in h c = elim (is_placed_in h c) [ false ↦ None | true ↦ place_at h c.path c.offset ]

-- What a write leaves whole.
abbrev pub write_in : Header → Op → Option (List ℕ)
write_in h op = option_map (sector_with (layout_of h.geometry)) (record_of op)

-- The first reset since the call was made.
abbrev pub cut_of : Machine → Course → Option ℕ
cut_of a c = least (map (λ (r : Stamp). r.moment) (resets_after a c.made.step))

-- What is kept of a call.
abbrev pub flight_of_course : Header → Machine → Course → FlightState
flight_of_course h a c =
    record {
      number = c.call.number;
      place = place_in h c.call;
      sectors = sectors_of c.call.op;
      write = write_in h c.call.op;
      sampled = c.sampled;
      samples = length c.samples;
      flying = is_in_flight c.fate;
      landed = is_landed c.fate;
      torn = is_torn_fate c.fate;
      own = is_of_running a c;
      cut = cut_of a c;
    }

-- ---- a machine

-- The children of a daemon whose start has no answer.
abbrev pub starting_of : Option Daemon → List ℕ
starting_of None = []
starting_of (Some d) = map (λ k. k.process) (filter (λ k. is_none k.answer) (children d.trace))

-- What is kept of a machine.
unfoldable pub shown : Header → Machine → MachineState
shown h a =
    record {
      up = a.up;
      used = a.used;
      runs = is_some a.daemon;
      clock = a.clock;
      kept = a.kept.moment;
      connections = a.connections;
      next = next_numbers a;
      starting = starting_of a.daemon;
      flights = map (flight_of_course h a) (flights a);
      held = a.holdings;
      lingering = a.lingering;
      locks = a.locks;
    }

-- ---- the world

-- What stands at each sector of a disk.
abbrev pub sectors_of_disk : World → Disk → List (List ℕ)
sectors_of_disk w d = map (λ n. content w d.path (n * sector_size w)) (range_with_len 0 (d.mebibytes * mebibyte / sector_size w))

-- What stands on all.
unfoldable pub disks_of : World → List (List (List ℕ))
disks_of w = map (sectors_of_disk w) w.header.disks

-- What is kept is that of this world. (Names are kept in an order of their own: which names there are is all that is asked.)
pub record Tells (k : KeptState) (w : World) : Type 0 where
  pub header : w.header ≡ k.header
  pub layout : w.layout ≡ layout_of k.header.geometry
  pub moment : w.moment ≡ k.moment
  pub machines : map (shown w.header) w.machines ≡ k.machines
  pub disks : disks_of w ≡ k.disks
  pub names : (name : List ℕ) → list_any (bytes_eq name) (names_of w) ≡ list_any (bytes_eq name) k.names
