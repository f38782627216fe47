-- The numbers of statuses.
use Rattle.sl_direct.specs.declared.action.Directed.TheVariants as directed
use Rattle.sl_direct.specs.declared.action.Directed.{Directed}
use Rattle.sl_generate.specs.declared.generator.Generated.TheVariants as generated
use Rattle.sl_generate.specs.declared.generator.Generated.{Generated}
use Rattle.sl_live_play.specs.declared.play.Lived.TheVariants as lived
use Rattle.sl_live_play.specs.declared.play.Lived.{Lived}
use Rattle.sl_play.specs.declared.replay.Played.TheVariants as played
use Rattle.sl_play.specs.declared.replay.Played.{Played}
use Rattle.sl_story.specs.declared.story.Told.TheVariants as story
use Rattle.sl_story.specs.declared.story.Told.{Told}
use Rattle.sl_top.specs.declared.status.Status.TheVariants.{AreaFault, BadWords, Differs, Done, NoMemory, NotTheLeader, ReadFault, Refused, WriteFault}
use Rattle.sl_top.specs.declared.status.Status.{Status}
use Rattle.std.specs.Prelude.{ℕ}

-- The number that the process ends with.
abbrev pub code : Status → ℕ
code Done = 0
code Refused = 1
code BadWords = 2
code ReadFault = 3
code WriteFault = 4
code NoMemory = 5
code AreaFault = 6
code NotTheLeader = 7
code Differs = 8

-- The status of a replay that ended so.
abbrev pub status_of : Played → Status
status_of played.Done = Done
status_of played.Refused = Refused
status_of played.ReadFault = ReadFault
status_of played.WriteFault = WriteFault
status_of played.NoMemory = NoMemory

-- The status of an action that went so.
abbrev pub status_after : Directed → Status
status_after directed.Done = Done
status_after directed.WriteFault = WriteFault
status_after directed.NoMemory = NoMemory
status_after directed.AreaFault = AreaFault
status_after directed.NotTheLeader = NotTheLeader
status_after directed.TornBlock = NotTheLeader

-- The status of a generation that ended so.
abbrev pub status_of_generated : Generated → Status
status_of_generated generated.Done = Done
status_of_generated generated.WriteFault = WriteFault
status_of_generated generated.NoMemory = NoMemory

-- The status of a story that ended so: one that is short for want of room is told.
abbrev pub status_of_told : Told → Status
status_of_told story.Done = Done
status_of_told story.Short = Done
status_of_told story.WriteFault = WriteFault
status_of_told story.NoMemory = NoMemory

-- The status of a live run that ended so.
abbrev pub status_of_live : Lived → Status
status_of_live lived.Done = Done
status_of_live lived.Refused = Refused
status_of_live lived.ReadFault = ReadFault
status_of_live lived.WriteFault = WriteFault
status_of_live lived.NoMemory = NoMemory
status_of_live lived.AreaFault = AreaFault
status_of_live lived.Differs = Differs
