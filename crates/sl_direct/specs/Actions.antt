-- What an action on an area owes: by what it found there, what it leaves there, what it prints, and how it ended.
use Rattle.sl_area.specs.AreaSizes.{IsGeometry, Sizes, layout_of}
use Rattle.sl_area.specs.Roles.{IsBase}
use Rattle.sl_area.specs.Sectors.{IsReadAt}
use Rattle.sl_direct.specs.Disks.{IsBrokenOff, IsInitialised}
use Rattle.sl_direct.specs.FreshAreas.{Write, labelled_writes, lockspace_writes, resource_writes}
use Rattle.sl_direct.specs.Lines.{dump_lines, fault_line, is_its_leader, labelled_line, leader_in_sector, leader_line, lockspace_line, resource_line}
use Rattle.sl_direct.specs.Upgrades.{Upgrades}
use Rattle.sl_direct.specs.declared.action.Action.TheVariants.{Dump, InitLabelled, InitLockspace, InitResource, ReadLeader, Upgrade}
use Rattle.sl_direct.specs.declared.action.Action.{Action}
use Rattle.sl_direct.specs.declared.action.Directed.TheVariants.{AreaFault, Done, NoMemory, NotTheLeader, TornBlock, WriteFault}
use Rattle.sl_direct.specs.declared.action.Directed.{Directed}
use Rattle.sl_label.specs.declared.label.Label.{Label}
use Rattle.sl_text.specs.Forms.{as_bytes}
use Rattle.sl_text.specs.Names.{is_name}
use Rattle.sl_time.specs.Times.{IsTiming, TimingNumbers}
use Rattle.sl_trace.specs.declared.command.LockspaceArg.{LockspaceArg}
use Rattle.sl_trace.specs.declared.command.ResourceArg.{ResourceArg}
use Rattle.sl_io.specs.FaultCauses.{Rose}
use Rattle.std.specs.Io.KnownBytes.{Appends, Keeps}
use Rattle.std.specs.List.{list_all}
use Rattle.std.specs.Prelude.{Bool, IsTrue, List, Option, false, length, map, true, [], ⊤, ℕ, ◌%◌, ◌++◌, ◌+◌, ◌/◌, ◌<◌, ◌^◌, ◌∷◌, ◌≡◌, ◌≤◌, ◌⊎◌}

-- ---- what an action may name

-- Whole sectors of so many bytes, from a sector's start on.
pub record IsStretch (sector offset size : ℕ) : Type 0 where
  pub start : (offset % sector ≡ 0) × (offset < 10 ^ 12)
  pub whole : size % sector ≡ 0
  pub some : (0 < size) × (size ≤ 1048576)

-- What an action may name, with sizes of the table. No path is looked at: the area is the file itself.
abbrev pub IsAction : Action → Type 0
IsAction (InitLockspace l g) = IsGeometry g × IsTrue (is_name l.name) × IsBase g l.offset
IsAction (InitLabelled l g t grace) = IsGeometry g × IsTrue (is_name l.name) × IsBase g l.offset × IsTiming t × (grace ≤ 600000)
IsAction (InitResource r g) = IsGeometry g × IsTrue (is_name r.lockspace) × IsTrue (is_name r.name) × IsBase g r.offset
IsAction (ReadLeader r g) = IsGeometry g × IsBase g r.offset
IsAction (Upgrade r g) = IsGeometry g × (g.paired ≡ true) × IsBase g r.offset
IsAction (Dump path offset size g) = IsGeometry g × IsStretch g.sector offset size

-- The label that a lockspace is given.
abbrev pub label_for : LockspaceArg → Sizes → TimingNumbers → ℕ → Label
label_for l g t grace = record { timing = t; grace = grace; geometry = g; lockspace = l.name }

-- The path of the file that an action is done to.
abbrev pub path_of : Action → List ℕ
path_of (InitLockspace l g) = l.path
path_of (InitLabelled l g t grace) = l.path
path_of (InitResource r g) = r.path
path_of (ReadLeader r g) = r.path
path_of (Upgrade r g) = r.path
path_of (Dump path offset size g) = path

-- ---- an action that writes

-- How it may end: all is written and the line is printed; or a write failed, and nothing is printed; or nothing is done.
abbrev pub Writes : List Write → List ℕ → Option (List ℕ) → Option (List ℕ) → List (List ℕ) → Directed → Type 0
Writes ws line content after lines Done = IsInitialised ws content after × (lines ≡ line ∷ [])
Writes ws line content after lines AreaFault = IsBrokenOff ws content after × (lines ≡ [])
Writes ws line content after lines NoMemory = Keeps content after × (lines ≡ [])
Writes ws line content after lines d = ⊥

-- ---- an action that reads

-- These sectors of so many bytes were read one behind another, from an offset on; where the content is told, they are its own.
abbrev pub AreReadAt : Option (List ℕ) → ℕ → ℕ → List (List ℕ) → Type 0
AreReadAt content size at [] = ⊤
AreReadAt content size at (s ∷ ss) = (length s ≡ size) × IsReadAt content at s × AreReadAt content size (at + size) ss

-- What is to be read, and what is told of it.
pub record Look : Type 0 where
  -- the bytes of a sector, from where on, and how many sectors
  pub sector : ℕ
  pub offset : ℕ
  pub count : ℕ
  -- the lines for the sectors that were read
  pub lines : List (List ℕ) → List (List ℕ)
  -- whether they are what was asked for
  pub is_right : List (List ℕ) → Bool

-- The look at a resource's leader, in a sector of so many bytes.
abbrev pub leader_look : ResourceArg → ℕ → Look
leader_look r sector = record {
  sector = sector;
  offset = r.offset;
  count = 1;
  lines = map (leader_line r);
  is_right = list_all (λ s. is_its_leader r (leader_in_sector s));
}

-- The look at each sector, of so many bytes, of a stretch.
abbrev pub dump_look : ℕ → ℕ → ℕ → Look
dump_look offset size sector =
    record { sector = sector; offset = offset; count = size / sector; lines = dump_lines sector offset; is_right = λ ss. true }

-- How it may end, with the sectors that it read: all of them, and they are right or not; or the next read failed; or there was no memory
-- for the lines of more.
abbrev pub Ended : ℕ → Bool → ℕ → Directed → Type 0
Ended count right read Done = (read ≡ count) × (right ≡ true)
Ended count right read NotTheLeader = (read ≡ count) × (right ≡ false)
Ended count right read AreaFault = read < count
Ended count right read NoMemory = read ≤ count
Ended count right read TornBlock = ⊥
Ended count right read WriteFault = ⊥

-- Nothing is written, and the lines of the sectors that were read are printed.
pub record Reads (k : Look) (content after : Option (List ℕ)) (lines : List (List ℕ)) (d : Directed) : Type 0 where
  pub kept : Keeps content after
  pub sectors : List (List ℕ)
  pub read : AreReadAt content k.sector k.offset sectors
  pub told : lines ≡ k.lines sectors
  pub ended : Ended k.count (k.is_right sectors) (length sectors) d

-- ---- any action

-- How an action may go on an area: what it leaves there, and the lines that it has to print.
abbrev pub Acts : Action → Option (List ℕ) → Option (List ℕ) → List (List ℕ) → Directed → Type 0
Acts (InitLockspace l g) = Writes (lockspace_writes (layout_of g) l.name l.offset) (lockspace_line l g.hosts)
Acts (InitLabelled l g t grace) = Writes (labelled_writes (layout_of g) (label_for l g t grace) l.offset) (labelled_line l g.hosts t grace)
Acts (InitResource r g) = Writes (resource_writes (layout_of g) r.lockspace r.name r.offset) (resource_line r g.hosts)
Acts (ReadLeader r g) = Reads (leader_look r g.sector)
Acts (Upgrade r g) = Upgrades r g
Acts (Dump path offset size g) = Reads (dump_look offset size g.sector)

-- The line that is printed behind all others where the area failed.
abbrev pub last_lines : Directed → List (List ℕ)
last_lines AreaFault = fault_line ∷ []
last_lines d = []

-- What is printed, each line with its line feed.
abbrev pub output_of : List (List ℕ) → Directed → List ℕ
output_of lines d = as_bytes (lines ++ last_lines d)

-- A front of a text.
abbrev pub IsFront : List ℕ → List ℕ → Type 0
IsFront xs ys = (rest : List ℕ) × (ys ≡ xs ++ rest)

-- The sink took all of an output; or it failed, with a fault that it counted, having taken a front.
pub record PutsOut (taken now : Option (List ℕ)) (faults later : ℕ) (output : List ℕ) (went d : Directed) : Type 0 where
  pub put : List ℕ
  pub puts : Appends taken now put
  pub is_put : ((put ≡ output) × (d ≡ went)) ⊎ (IsFront put output × (d ≡ WriteFault) × Rose faults later)
  pub never_falls : faults ≤ later

-- What is owed of a run: of the area's content before and after, of what the sink had taken and has now, with the faults of both.
pub record Directs (a : Action) (content after : Option (List ℕ)) (faults later : ℕ) (taken now : Option (List ℕ)) (sink_faults sink_later : ℕ) (d : Directed) : Type 0 where
  -- how the action itself went, and the lines that it had to print
  pub went : Directed
  pub lines : List (List ℕ)
  pub acts : Acts a content after lines went
  -- what was put out of them
  pub output : PutsOut taken now sink_faults sink_later (output_of lines went) went d
  -- a fault is told only where one was counted in this run
  pub area_fault : d ≡ AreaFault → Rose faults later
  pub write_fault : d ≡ WriteFault → Rose sink_faults sink_later
  -- also that of a line whose writing failed
  pub area_failed : went ≡ AreaFault → Rose faults later
  -- no count falls
  pub never_falls : faults ≤ later
