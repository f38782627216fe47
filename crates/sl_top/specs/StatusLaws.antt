-- What each status tells of a run.
use Rattle.sl_area.specs.AreaSizes.{Sizes}
use Rattle.sl_cli.specs.declared.command_words.Words.TheVariants.{Direct, Replay}
use Rattle.sl_cli.specs.declared.command_words.Words.{Words}
use Rattle.sl_direct.specs.Laws.{can_upgrade, sector_at}
use Rattle.sl_direct.specs.Lines.{is_its_leader, leader_in_sector}
use Rattle.sl_direct.specs.declared.action.Action.TheVariants.{ReadLeader, Upgrade}
use Rattle.sl_host_step.specs.HostServes.{Serves, whole_commands}
use Rattle.sl_reader.specs.ScriptReading.{ReadsScript}
use Rattle.sl_reader.specs.declared.live_lines.LiveLine.{LiveLine}
use Rattle.sl_reader.specs.declared.script_reading.ScriptEnd.{ScriptEnd}
use Rattle.sl_live_play.specs.DifferenceLines.{differ_text}
use Rattle.sl_live_play.specs.LiveOwed.{Differing, Tellers}
use Rattle.sl_live_run.specs.declared.compare.LiveDiffer.{LiveDiffer}
use Rattle.sl_own.specs.OwnGrounds.{Bars}
use Rattle.sl_own.specs.OwnOwed.{DifferingOwn, ReadsOwn}
use Rattle.sl_own.specs.OwnTexts.{no_place_text}
use Rattle.sl_own.specs.declared.no_place.NoPlace.{NoPlace}
use Rattle.sl_own.specs.declared.play.OwnManner.{OwnManner}
use Rattle.sl_reader.specs.HeaderBegins.{HeaderBegins}
use Rattle.sl_reader.specs.LineReads.{ReaderState}
use Rattle.sl_report.specs.Languages.{whole_language}
use Rattle.sl_run.specs.declared.header.Header.{Header}
use Rattle.sl_sound.specs.Reports.FollowedSchedules.{IsAccepted}
use Rattle.sl_top.specs.Runs.{IsCutShort, IsDirect, IsLive, IsOwn, Outside, Owes, ReadsSource}
use Rattle.sl_top.specs.declared.status.Status.TheVariants.{AreaFault, BadWords, Differs, Done, NoMemory, NotTheLeader, ReadFault, Refused, WriteFault}
use Rattle.sl_top.specs.declared.status.Status.{Status}
use Rattle.sl_trace.specs.declared.command.ResourceArg.{ResourceArg}
use Rattle.sl_io.specs.FaultCauses.{Rose}
use Rattle.std.specs.Io.KnownBytes.{Appends}
use Rattle.std.specs.Prelude.{Bool, List, None, Option, Some, false, ℕ, ◌++◌, ◌≡◌, ◌⊎◌}

-- Whether the disk's sector of so many bytes at a resource's offset spells its leader.
abbrev pub has_leader : ResourceArg → ℕ → List ℕ → Bool
has_leader r size content = is_its_leader r (leader_in_sector (sector_at size r.offset content))

-- A leader was to be read, and the sector was not the resource's leader, where the disk is told.
pub record IsNotTheLeader (w : Option Words) (x : Outside) : Type 0 where
  pub resource : ResourceArg
  pub geometry : Sizes
  pub asked : w ≡ Some (Direct (ReadLeader resource geometry))
  pub other : (content : List ℕ) → x.disks resource.path ≡ Some content → has_leader resource geometry.sector content ≡ false

-- An area was to be upgraded, and it could not be, where the disk is told: the sector was not the resource's leader of an area without
-- pairs for so many hosts, or a block was torn.
pub record CantBeUpgraded (w : Option Words) (x : Outside) : Type 0 where
  pub resource : ResourceArg
  pub geometry : Sizes
  pub asked : w ≡ Some (Direct (Upgrade resource geometry))
  pub other : (content : List ℕ) → x.disks resource.path ≡ Some content → can_upgrade resource geometry content ≡ false

-- A case was put out, behind what was told before, that holds of a machine of a live run, whose header and lines are those of the script that was read,
-- which goes on behind refused lines or not.
pub record SomeDiffer (keeps : Bool) (x y : Outside) : Type 0 where
  pub header : Header
  pub given : List LiveLine
  pub ended : Option ScriptEnd
  pub read : ReadsScript keeps x.left y.left x.source_faults y.source_faults header given ended
  pub machine : ℕ
  pub differ : LiveDiffer
  pub holds : Differing Serves whole_commands header given machine differ
  pub before : List ℕ
  pub told : Appends x.taken y.taken (before ++ differ_text machine differ)

-- The same of a machine in a process of its own, which was played in this manner.
pub record OneDiffers (manner : OwnManner) (x y : Outside) : Type 0 where
  pub header : Header
  pub given : List LiveLine
  pub ended : Option ScriptEnd
  pub read : ReadsOwn manner x.left y.left x.source_faults y.source_faults header given ended
  pub differ : LiveDiffer
  pub holds : DifferingOwn Serves whole_commands header manner.machine given differ
  pub before : List ℕ
  pub told : Appends x.taken y.taken (before ++ differ_text manner.machine differ)

-- Such a machine could not run in this folder: what its script's header asks for is not to be had there, and it was put out why.
pub record CantRun (folder : List ℕ) (manner : OwnManner) (x y : Outside) : Type 0 where
  pub reader : ReaderState
  pub header : Header
  pub begins : HeaderBegins x.left y.left reader header
  pub why : NoPlace
  pub bars : Bars x.disks folder header manner.machine x.device_faults y.device_faults why
  pub told : Appends x.taken y.taken (no_place_text why)

-- The words ask for machines that run by a script.
abbrev pub RunsMachines : Option Words → Type 0
RunsMachines w = IsLive w ⊎ IsOwn w

-- Each status but 0 and want of memory comes only with its cause.
pub record HasItsCause (w : Option Words) (x y : Outside) (s : Status) : Type 0 where
  pub refused : s ≡ Refused → ReadsSource w ⊎ RunsMachines w
  pub bad_words : s ≡ BadWords → w ≡ None
  pub read_fault : s ≡ ReadFault → (ReadsSource w ⊎ RunsMachines w) × Rose x.source_faults y.source_faults
  pub write_fault : s ≡ WriteFault → Rose x.sink_faults y.sink_faults
  -- a fault was counted; or one machine can't run where it is to
  pub area_fault : s ≡ AreaFault → ((IsDirect w ⊎ IsLive w) × Rose x.device_faults y.device_faults) ⊎ ((own : IsOwn w) × CantRun own.0 own.2 x y)
  pub not_the_leader : s ≡ NotTheLeader → IsNotTheLeader w x ⊎ CantBeUpgraded w x
  -- records of a live machine differ: the case that is put out holds
  pub differs : s ≡ Differs → ((live : IsLive w) × SomeDiffer live.1.keeps x y) ⊎ ((own : IsOwn w) × OneDiffers own.2 x y)

abbrev pub StatusesHaveCauses : {A P : Type 0} → Tellers A P → Type 0
StatusesHaveCauses tellers = (w : Option Words) (x y : Outside) (s : Status) → Owes tellers w x y s → HasItsCause w x y s

-- And where its cause stands, the status comes, if nothing cut the run short.
pub record CausesHaveStatuses {A P : Type 0} (tellers : Tellers A P) : Type 0 where
  pub bad_words : (x y : Outside) (s : Status) → Owes tellers None x y s → (s ≡ BadWords) ⊎ IsCutShort s
  pub not_the_leader : (r : ResourceArg) (g : Sizes) (content : List ℕ) (x y : Outside) (s : Status) → Owes tellers (Some (Direct (ReadLeader r g))) x y s
      → x.disks r.path ≡ Some content → has_leader r g.sector content ≡ false → (s ≡ NotTheLeader) ⊎ (s ≡ AreaFault) ⊎ IsCutShort s
  pub cant_be_upgraded : (r : ResourceArg) (g : Sizes) (content : List ℕ) (x y : Outside) (s : Status) → Owes tellers (Some (Direct (Upgrade r g))) x y s
      → x.disks r.path ≡ Some content → can_upgrade r g content ≡ false → (s ≡ NotTheLeader) ⊎ (s ≡ AreaFault) ⊎ IsCutShort s

-- Nothing failed: neither the source nor the sink counts more faults than before.
pub record NothingFailed (x y : Outside) : Type 0 where
  pub source : Rose x.source_faults y.source_faults → ⊥
  pub sink : Rose x.sink_faults y.sink_faults → ⊥

-- A schedule that is read and allowed from its first line to its last is done, if nothing fails and memory lasts; and no other schedule is.
pub record AcceptedSchedulesEndWell {A P : Type 0} (tellers : Tellers A P) : Type 0 where
  pub well : (source : List ℕ) (x y : Outside) (s : Status) → Owes tellers (Some Replay) x y s → x.left ≡ Some source → IsAccepted whole_language source → NothingFailed x y
      → (s ≡ Done) ⊎ (s ≡ NoMemory)
  pub only : (source : List ℕ) (x y : Outside) (s : Status) → Owes tellers (Some Replay) x y s → x.left ≡ Some source → s ≡ Done → IsAccepted whole_language source

-- Any other is refused, if nothing fails and memory lasts; and none that is accepted is.
pub record OtherSchedulesAreRefused {A P : Type 0} (tellers : Tellers A P) : Type 0 where
  pub well : (source : List ℕ) (x y : Outside) (s : Status) → Owes tellers (Some Replay) x y s → x.left ≡ Some source → (IsAccepted whole_language source → ⊥) → NothingFailed x y
      → (s ≡ Refused) ⊎ (s ≡ NoMemory)
  pub only : (source : List ℕ) (x y : Outside) (s : Status) → Owes tellers (Some Replay) x y s → x.left ≡ Some source → s ≡ Refused → IsAccepted whole_language source → ⊥
