-- A run of two machines in which a resource passes from the one to the other: machine 2 is granted it, machine 2 is reset, machine 1
-- watches its silence and is granted the resource under the next instance. It is the worked schedule of that name, each daemon doing
-- what is due. What is proved of lawful runs is proved of this one, so it is no empty talk.
use Rattle.sl_examples.specs.CheapDigest.{cheap_language, cheap_program}
use Rattle.sl_examples.specs.WorkedSchedules.{owner_reset_then_taken_over}
use Rattle.sl_run.specs.Lawful.{Lawful}
use Rattle.sl_report.specs.DueRuns.{due_run}
use Rattle.sl_report.specs.Schedules.{Header_read, NumberedLine, event_lines_of, numbered_lines, read_header}
use Rattle.sl_run.specs.Conflicts.{holding, lingering_holding, no_holdings, world_holdings, world_lingering}
use Rattle.sl_run.specs.Runs.{EachDaemon, Happening}
use Rattle.sl_run.specs.Safety.{LawfulRun, world_at}
use Rattle.sl_run.specs.Worlds.{World, world_with}
use Rattle.sl_run.specs.declared.event.Event.TheVariants.{Do, GiveCommand, Pass, Reset, Test, WakeUp}
use Rattle.sl_run.specs.declared.event.Event.{Event}
use Rattle.sl_run.specs.declared.header.Header.{Header}
use Rattle.sl_text.specs.Forms.{as_bytes}
use Rattle.sl_trace.specs.declared.effects.Effects.{Effects}
use Rattle.sl_trace.specs.declared.effects.Grant.{Grant}
use Rattle.sl_trace.specs.declared.effects.Mode.TheVariants.{Exclusive}
use Rattle.std.specs.Prelude.{List, None, Ok, codes, false, map, [], ℕ, ◌++◌, ◌∷◌, ◌≡◌}

-- The header of the schedule: two machines, each with a session; one disk, one lockspace, one resource.
abbrev pub witness_header : Header
witness_header =
    record {
      timing = record { io = 100; fire = 600; land = 100; rho = 0 };
      grace = 300;
      machines = 2;
      geometry = record { sector = 512; area = 1048576; hosts = 2; paired = false };
      retries = 0;
      clocks = [];
      disks = record { path = codes "/d"; mebibytes = 4 } ∷ [];
      lockspaces = record { name = codes "ls"; path = codes "/d"; offset = 0 } ∷ [];
      resources = record { lockspace = codes "ls"; name = codes "r"; path = codes "/d"; offset = 1048576 } ∷ [];
      sessions =
          record { machine = 1; lockspace = codes "ls"; id = 1; name = codes "a" }
          ∷ record { machine = 2; lockspace = codes "ls"; id = 2; name = codes "b" } ∷ [];
    }

-- Machine 2 acquires the resource.
abbrev pub owning_events : List Event
owning_events = GiveCommand 2 (codes "acquire -r ls:r:/d:1048576 -p 9") ∷ Do 2 1 ∷ Do 2 2 ∷ Do 2 3 ∷ Do 2 4 ∷ Do 2 5 ∷ Do 2 6 ∷ []

-- Machine 1 renews and watches; its first acquire comes too early, its second is granted.
abbrev pub taking_events : List Event
taking_events =
    Pass 200 None ∷ Test 1 ∷ WakeUp 1 ∷ Do 1 1 ∷ Do 1 2 ∷ Pass 600 None ∷ Test 1 ∷ WakeUp 1 ∷ Do 1 3 ∷ Do 1 4
    ∷ GiveCommand 1 (codes "acquire -r ls:r:/d:1048576 -p 7") ∷ Do 1 5 ∷ Pass 600 None ∷ Test 1 ∷ WakeUp 1 ∷ Do 1 6 ∷ Do 1 7
    ∷ Pass 301 None ∷ WakeUp 1 ∷ Do 1 8 ∷ Do 1 9 ∷ GiveCommand 1 (codes "acquire -r ls:r:/d:1048576 -p 7")
    ∷ Do 1 10 ∷ Do 1 11 ∷ Do 1 12 ∷ Do 1 13 ∷ Do 1 14 ∷ Do 1 15 ∷ []

-- All events of the schedule.
abbrev pub witness_events : List Event
witness_events = owning_events ++ Reset 2 ∷ taking_events

-- The world at moment 0.
abbrev pub witness_world : World
witness_world = world_with cheap_program witness_header

-- The run of these events, each daemon doing what is due.
abbrev pub witness_run : List Happening
witness_run = due_run witness_world witness_events

-- Header and events are what the lines of the schedule say.
pub record IsOfTheSchedule : Type 0 where
  pub rest : List NumberedLine
  pub reads : read_header cheap_language [] 1 (numbered_lines (as_bytes owner_reset_then_taken_over.source)) ≡ Header_read witness_header rest
  -- each line is an event; none is left out
  pub tells : map (λ l. l.1) (event_lines_of cheap_language witness_header rest) ≡ map (λ e. Ok e) witness_events

-- The only holding of the world: the resource, exclusive, on this machine, under this instance.
pub record HoldsAlone (w : World) (machine lver : ℕ) : Type 0 where
  pub held : Grant
  pub only : world_holdings w ≡ holding machine held ∷ []
  pub resource : (held.path ≡ codes "/d") × (held.offset ≡ 1048576)
  pub exclusive : held.mode ≡ Exclusive
  pub instance : held.lver ≡ lver

-- The resource passes from machine 2, which is reset, to machine 1. Behind the reset the holding lingers, since a write of its process that was
-- in flight may land still; where machine 1 holds the resource, nothing lingers any more.
pub record PassesOver (h : Header) (xs : List Happening) : Type 0 where
  pub before : List Happening
  pub effects : List Effects
  pub after : List Happening
  pub resets : xs ≡ before ++ (Reset 2, effects) ∷ after
  pub first : HoldsAlone (world_at cheap_program h before) 2 1
  pub lingers : world_lingering (world_at cheap_program h (before ++ (Reset 2, effects) ∷ [])) ≡ lingering_holding 2 (record { held = first.held; reset = 0 }) ∷ []
  pub passed : world_lingering (world_at cheap_program h xs) ≡ no_holdings
  pub last : HoldsAlone (world_at cheap_program h xs) 1 2

-- There is a lawful run in which a resource passes from one machine to another.
pub record TakeoverIsLawful : Type 0 where
  pub schedule : IsOfTheSchedule
  pub lawful : LawfulRun cheap_program witness_header witness_run
  -- not only orderly: what must be done by the end of an entry is done
  pub each : EachDaemon Lawful (world_at cheap_program witness_header witness_run)
  pub passes : PassesOver witness_header witness_run
