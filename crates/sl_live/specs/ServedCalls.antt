-- What a worker does with a sector call.
use Rattle.sha2.specs.Sha256.{sha256}
use Rattle.sl_area.specs.Sectors.{IsReadAt, KeepsOthers, Replaces, SectorPlace}
use Rattle.sl_live.specs.declared.disks.Disk.{Disk}
use Rattle.sl_sector.specs.Records.{IsRecord}
use Rattle.sl_sector.specs.SectorLayouts.{spelling}
use Rattle.sl_trace.specs.Traces.{Setting, is_answer_for}
use Rattle.sl_trace.specs.declared.effects.Call.{Call}
use Rattle.sl_trace.specs.declared.effects.Op.TheVariants.{ReadSectors, WriteRecord}
use Rattle.sl_trace.specs.declared.effects.Op.{Op}
use Rattle.sl_trace.specs.declared.input.Answer.TheVariants.{Failed, Read, Written}
use Rattle.sl_trace.specs.declared.input.Answer.{Answer}
use Rattle.sl_io.specs.FaultCauses.{Rose}
use Rattle.std.specs.Io.KnownBytes.{Keeps}
use Rattle.std.specs.List.{slice_set}
use Rattle.std.specs.Prelude.{IfSome, List, None, Option, Some, bytes_eq, length, position, slice_get, true, ℕ, ◌%◌, ◌*◌, ◌<◌, ◌^◌, ◌≡◌, ◌≤◌}

-- What can be written: a record that keeps its rules.
abbrev pub IsOp : Op → Type 0
IsOp (ReadSectors n) = Unit {0}
IsOp (WriteRecord r) = IsRecord r

-- The call has its bytes: it begins at a whole sector, below 2^63, and what it writes is a record. So is all that a daemon calls for.
pub record CanMake (sector : ℕ) (c : Call) : Type 0 where
  pub whole : c.offset % sector ≡ 0
  pub below : c.offset < 2 ^ 63
  pub op : IsOp c.op

-- The sector at which a call begins.
abbrev pub place_of : ℕ → Call → SectorPlace
place_of sector c = record { offset = c.offset; size = sector }

-- What an answer says of a disk's content before and after, where the disk tells it.
abbrev pub Serves : SectorPlace → Op → Option (List ℕ) → Option (List ℕ) → Answer → Type 0
Serves at (ReadSectors n) before after (Read bytes) = (length bytes ≡ n * at.size) × Keeps before after × IsReadAt before at.offset bytes
Serves at (ReadSectors n) before after Written = ⊥
Serves at (ReadSectors n) before after Failed = Keeps before after
Serves at (WriteRecord r) before after (Read bytes) = ⊥
Serves at (WriteRecord r) before after Written = Replaces before after at.offset (spelling sha256 at.size r)
Serves at (WriteRecord r) before after Failed = KeepsOthers before after at

-- The call was made on a disk that had this content and these faults, and has those: it fails only where the faults rose.
pub record IsServed (at : SectorPlace) (op : Op) (before after : Option (List ℕ)) (faults faults' : ℕ) (a : Answer) : Type 0 where
  pub served : Serves at op before after a
  pub later : faults ≤ faults'
  pub failed : a ≡ Failed → Rose faults faults'

-- The disk with this path: the first of them.
abbrev pub disk_at : {A : Type 0} → List ℕ → List (Disk A) → Option ℕ
disk_at path disks = position (λ d. bytes_eq d.path path) disks

-- The call was made on disk k, and no other disk was touched.
pub record IsMade {A : Type 0} (content : A → Option (List ℕ)) (faults : A → ℕ) (sector : ℕ) (c : Call) (k : ℕ)
    (disks later : List (Disk A)) (a : Answer) : Type 0 where
  pub before : Disk A
  pub after : Disk A
  pub there : slice_get disks k ≡ Some before
  pub others : later ≡ slice_set disks k after
  pub path : after.path ≡ before.path
  pub served : IsServed (place_of sector c) c.op (content before.area) (content after.area) (faults before.area) (faults after.area) a

-- Nothing was done, and the call is answered failed.
pub record IsLeft {A : Type 0} (disks later : List (Disk A)) (a : Answer) : Type 0 where
  pub same : later ≡ disks
  pub failed : a ≡ Failed

-- The call was made with this answer: on the disk that it names, and on no other; and where there is none, or where it has no bytes, nothing was done.
pub record MakesCall {A : Type 0} (content : A → Option (List ℕ)) (faults : A → ℕ) (sector : ℕ) (c : Call)
    (disks later : List (Disk A)) (a : Answer) : Type 0 where
  pub no_disk : disk_at c.path disks ≡ None → IsLeft disks later a
  pub no_bytes : (CanMake sector c → ⊥) → IsLeft disks later a
  pub made : CanMake sector c → IfSome (disk_at c.path disks) (λ k. IsMade content faults sector c k disks later a)
  pub kind : (st : Setting) → st.layout.sector ≡ sector → is_answer_for st a c.op ≡ true
