-- What is kept of a world.
use Rattle.sl_run.specs.Locks.{Locks}
use Rattle.sl_run.specs.Worlds.{Lingering}
use Rattle.sl_run.specs.declared.header.Header.{Header}
use Rattle.sl_trace.specs.WatchdogConnections.{Connection}
use Rattle.sl_trace.specs.declared.effects.Grant.{Grant}
use Rattle.sl_trace.specs.declared.input.Numbers.{Numbers}
use Rattle.std.specs.Prelude.{Bool, List, None, Option, Some, find, if◌then◌else◌, option_and_then, slice_get, slice_set, unwrap_or, [], ℕ, ◌+◌, ◌-◌, ◌==◌}

-- A sector: the place of its disk among the header's, and its own on the disk.
pub record Place : Type 0 where
  pub disk : ℕ
  pub sector : ℕ

-- A call in flight. Its path, its purpose and its session are not kept: nobody asks for them again.
pub record FlightState : Type 0 where
  pub number : ℕ
  -- where its first sector lies; none where its last lies on no disk
  pub place : Option Place
  pub sectors : ℕ
  -- what it leaves whole; none for a read
  pub write : Option (List ℕ)
  -- what it has sampled, and of how many sectors
  pub sampled : List ℕ
  pub samples : ℕ
  -- what became of it
  pub flying : Bool
  pub landed : Bool
  pub torn : Bool
  -- whether the daemon that runs made it
  pub own : Bool
  -- the moment of the first reset since it was made
  pub cut : Option ℕ

-- A machine.
pub record MachineState : Type 0 where
  pub up : Bool
  -- a daemon ran since the last restart
  pub used : Bool
  -- one runs
  pub runs : Bool
  -- in thousandths of a millisecond
  pub clock : ℕ
  -- the moment on which the last keepalive rests
  pub kept : ℕ
  pub connections : List Connection
  -- the numbers of the next call and the next job
  pub next : Numbers
  -- the children of the daemon that runs whose start has no answer
  pub starting : List ℕ
  -- the newest first
  pub flights : List FlightState
  pub held : List Grant
  -- what it held when it was reset
  pub lingering : List Lingering
  pub locks : Locks

-- The world: what its next event asks for.
pub record KeptState : Type 0 where
  pub header : Header
  pub moment : ℕ
  pub machines : List MachineState
  -- what stands at each sector of each disk
  pub disks : List (List (List ℕ))
  -- all names that daemons had
  pub names : List (List ℕ)

-- ---- look-ups

-- Machine m.
abbrev pub machine_in : KeptState → ℕ → Option MachineState
machine_in k m = if m == 0 then None else slice_get k.machines (m - 1)

-- With machine m changed.
abbrev pub change_machine_in : ℕ → (MachineState → MachineState) → KeptState → KeptState
change_machine_in m f k = elim (machine_in k m) [ None ↦ k | Some s ↦ record k { machines = slice_set k.machines (m - 1) (f s) } ]

-- The call in flight with this number.
abbrev pub flight_in : MachineState → ℕ → Option FlightState
flight_in s c = find (λ f. f.number == c) s.flights

-- .. of machine m.
abbrev pub flight_of_machine : KeptState → ℕ → ℕ → Option FlightState
flight_of_machine k m c = option_and_then (λ s. flight_in s c) (machine_in k m)

-- What stands at sector n of disk d.
abbrev pub sector_in : List (List (List ℕ)) → ℕ → ℕ → List ℕ
sector_in disks d n = unwrap_or (option_and_then (λ sectors. slice_get sectors n) (slice_get disks d)) []

-- What stands at sector i of a call that lies there.
abbrev pub sector_of_call : List (List (List ℕ)) → Option Place → ℕ → List ℕ
sector_of_call disks None i = []
sector_of_call disks (Some p) i = sector_in disks p.disk (p.sector + i)
