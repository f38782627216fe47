-- What is printed: of an area that was initialised, of a leader, of a sector.
use Rattle.sha2.specs.Sha256.{sha256}
use Rattle.sl_sector.specs.RecordTexts.{bad_words, record_words}
use Rattle.sl_sector.specs.SectorLayouts.{decoded}
use Rattle.sl_sector.specs.declared.sector.Bad.TheVariants.{BadKind}
use Rattle.sl_sector.specs.declared.sector.Bad.{Bad}
use Rattle.sl_sector.specs.declared.sector.Leader.{Leader}
use Rattle.sl_sector.specs.declared.sector.Rec.TheVariants.{LeaderIs, PairLeaderIs}
use Rattle.sl_sector.specs.declared.sector.Rec.{Rec}
use Rattle.sl_text.specs.Forms.{coloned, spaced}
use Rattle.sl_time.specs.Times.{TimingNumbers}
use Rattle.sl_trace.specs.declared.command.LockspaceArg.{LockspaceArg}
use Rattle.sl_trace.specs.declared.command.ResourceArg.{ResourceArg}
use Rattle.std.specs.Prelude.{Bool, Err, List, Ok, Result, bytes_eq, codes, decimal, false, true, [], ℕ, ◌&&◌, ◌++◌, ◌+◌, ◌∷◌}

-- ---- an area that was initialised

-- `init LOCKSPACE HOSTS`
abbrev pub lockspace_line : LockspaceArg → ℕ → List ℕ
lockspace_line l hosts = spaced (codes "init" ∷ l.name ∷ decimal hosts ∷ [])

-- The words of times.
abbrev pub times_words : TimingNumbers → ℕ → List (List ℕ)
times_words t grace = codes "time" ∷ decimal t.io ∷ decimal t.fire ∷ decimal t.land ∷ decimal t.rho ∷ decimal grace ∷ []

-- `init LOCKSPACE HOSTS time IO FIRE LAND RHO GRACE`
abbrev pub labelled_line : LockspaceArg → ℕ → TimingNumbers → ℕ → List ℕ
labelled_line l hosts t grace = spaced (codes "init" ∷ l.name ∷ decimal hosts ∷ times_words t grace)

-- `init LOCKSPACE:RESOURCE HOSTS`
abbrev pub resource_line : ResourceArg → ℕ → List ℕ
resource_line r hosts = spaced (codes "init" ∷ coloned (r.lockspace ∷ r.name ∷ []) ∷ decimal hosts ∷ [])

-- ---- a leader

-- The leader that was read, of an area with pairs or without, or why there is none; another record is of a bad kind.
abbrev pub leader_found : Result Rec Bad → Result Leader Bad
leader_found (Ok (LeaderIs l)) = Ok l
leader_found (Ok (PairLeaderIs l)) = Ok l
leader_found (Ok r) = Err BadKind
leader_found (Err bad) = Err bad

-- The leader that a sector spells.
abbrev pub leader_in_sector : List ℕ → Result Leader Bad
leader_in_sector sector = leader_found (decoded sha256 sector)

-- Whether the leader is the resource's.
abbrev pub has_names : ResourceArg → Leader → Bool
has_names r l = bytes_eq l.lockspace r.lockspace && bytes_eq l.resource r.name

-- Whether a leader was found, and is the resource's.
abbrev pub is_its_leader : ResourceArg → Result Leader Bad → Bool
is_its_leader r (Ok l) = has_names r l
is_its_leader r (Err bad) = false

-- The leader's names, and the hosts for whom its area has blocks.
abbrev pub area_words : Leader → List (List ℕ)
area_words l = l.lockspace ∷ l.resource ∷ decimal l.num_hosts ∷ []

-- A leader, where the names are right, and the area that it is of else.
abbrev pub named_words : Bool → Leader → List (List ℕ)
named_words true l = record_words (LeaderIs l) ++ area_words l
named_words false l = codes "WrongArea" ∷ area_words l

-- What is told of a leader that was found, or of none.
abbrev pub leader_words : ResourceArg → Result Leader Bad → List (List ℕ)
leader_words r (Ok l) = named_words (has_names r l) l
leader_words r (Err bad) = bad_words bad

-- What `read_leader` tells of a sector.
abbrev pub leader_line : ResourceArg → List ℕ → List ℕ
leader_line r sector = spaced (leader_words r (leader_in_sector sector))

-- ---- sectors

-- The record, or why there is none.
abbrev pub found_words : Result Rec Bad → List (List ℕ)
found_words (Ok r) = record_words r
found_words (Err bad) = bad_words bad

-- An offset, and what the sector there spells.
abbrev pub sector_line : ℕ → List ℕ → List ℕ
sector_line at sector = spaced (decimal at ∷ found_words (decoded sha256 sector))

-- Sectors of so many bytes that stand one behind another, from an offset on.
abbrev pub dump_lines : ℕ → ℕ → List (List ℕ) → List (List ℕ)
dump_lines size at [] = []
dump_lines size at (s ∷ ss) = sector_line at s ∷ dump_lines size (at + size) ss

-- ---- a fault

-- The last line where the area failed.
abbrev pub fault_line : List ℕ
fault_line = codes "area fault"
