-- Areas that are handed out to workers, and what is written through them before the run.
use Rattle.sl_area.specs.AreaSizes.{layout_of}
use Rattle.sl_area.specs.AreaLayout.{delta_offset}
use Rattle.sl_cell.specs.declared.part.Part.TheVariants.{Delta, Resource}
use Rattle.sl_cell.specs.declared.part.Part.{Part}
use Rattle.sl_direct.specs.FreshAreas.{Write, resource_writes, write_of}
use Rattle.sl_direct.specs.HalfDone.{Wrote}
use Rattle.sl_live.specs.declared.disks.Disk.{Disk}
use Rattle.sl_outside.specs.Acts.{Grows}
use Rattle.sl_outside.specs.Lendings.{AreaBack, AreaOut, Lending}
use Rattle.sl_run.specs.Worlds.{initial_delta}
use Rattle.sl_run.specs.declared.header.Disk.{Disk as DiskLine}
use Rattle.sl_run.specs.declared.header.Header.{Header}
use Rattle.sl_run.specs.declared.header.LockspaceLine.{LockspaceLine}
use Rattle.sl_run.specs.declared.header.ResourceLine.{ResourceLine}
use Rattle.sl_sector.specs.declared.sector.Rec.TheVariants.{DeltaIs}
use Rattle.std.specs.List.{range_with_len}
use Rattle.std.specs.Prelude.{List, Option, bytes_eq, flat_map, if◌then◌else◌, map, [], ℕ, ◌++◌, ◌+◌, ◌==◌, ◌∷◌, ◌≡◌}

-- ---- what stands at moment 0

-- The record of an id, in its place: a session's, or one that was never claimed.
abbrev pub delta_write : Header → LockspaceLine → ℕ → Write
delta_write h l id = write_of h.geometry.sector (delta_offset (layout_of h.geometry) l.offset id) (DeltaIs (initial_delta h l id))

-- A lockspace: the record of each id.
abbrev pub delta_writes : Header → LockspaceLine → List Write
delta_writes h l = map (delta_write h l) (range_with_len 1 h.geometry.hosts)

-- .. if it lies on the disk at this path.
abbrev pub lockspace_writes_at : Header → List ℕ → LockspaceLine → List Write
lockspace_writes_at h path l = if bytes_eq l.path path then delta_writes h l else []

-- A resource, if it lies on the disk at this path.
abbrev pub resource_writes_at : Header → List ℕ → ResourceLine → List Write
resource_writes_at h path r = if bytes_eq r.path path then resource_writes (layout_of h.geometry) r.lockspace r.name r.offset else []

-- All lockspaces of a disk, and all resources of it, in the order of the header.
abbrev pub lockspaces_on : Header → List ℕ → List Write
lockspaces_on h path = flat_map (lockspace_writes_at h path) h.lockspaces

abbrev pub resources_on : Header → List ℕ → List Write
resources_on h path = flat_map (resource_writes_at h path) h.resources

-- What a worker's part has on a disk.
abbrev pub part_writes : Header → Part → List ℕ → List Write
part_writes h Delta path = lockspaces_on h path
part_writes h Resource path = resources_on h path

-- What is written through a worker's area of a disk before the run: that of its part, on machine 1 alone.
abbrev pub first_writes : Header → ℕ → Part → List ℕ → List Write
first_writes h m part path = if m == 1 then part_writes h part path else []

-- ---- areas

-- The number of a part's worker.
abbrev pub worker_of : Part → ℕ
worker_of Delta = 1
worker_of Resource = 2

-- An area that devices handed out of the disk at this path of a folder, to a worker of machine m, through which its part's first sectors were written and no
-- other: where areas tell what they have, it has what it had then, with each of these in its place.
pub record IsLent {A : Type 0} (content : A → Option (List ℕ)) (folder : List ℕ) (h : Header) (m : ℕ) (part : Part) (path : List ℕ) (d : Disk A) (was is : Option (List Lending)) : Type 0 where
  pub path_is : d.path ≡ path
  pub before : A
  pub lent : Grows was is (AreaOut m (worker_of part) (folder ++ path) (content before) ∷ [])
  pub wrote : Wrote (first_writes h m part path) (content before) (content d.area)

-- One of each disk, in the order of the header, and nothing else was handed out between.
abbrev pub AreLent : {A : Type 0} → (A → Option (List ℕ)) → List ℕ → Header → ℕ → Part → List DiskLine → List (Disk A) → Option (List Lending) → Option (List Lending) → Type 0
AreLent content folder h m part [] [] was is = is ≡ was
AreLent content folder h m part [] (d ∷ ds) was is = ⊥
AreLent content folder h m part (l ∷ ls) [] was is = ⊥
AreLent content folder h m part (l ∷ ls) (d ∷ ds) was is =
    (between : Option (List Lending)) × IsLent content folder h m part l.path d was between × AreLent content folder h m part ls ds between is

-- Areas came back, the one that was handed out last first, and nothing else between.
abbrev pub AreBack : {A : Type 0} → (A → Option (List ℕ)) → (A → ℕ) → List (Disk A) → Option (List Lending) → Option (List Lending) → Type 0
AreBack content faults [] was is = is ≡ was
AreBack content faults (d ∷ ds) was is = (between : Option (List Lending)) × AreBack content faults ds was between × Grows between is (AreaBack (content d.area) (faults d.area) ∷ [])

-- The faults that these areas counted.
abbrev pub faults_in : {A : Type 0} → (A → ℕ) → List (Disk A) → ℕ
faults_in faults [] = 0
faults_in faults (d ∷ ds) = faults d.area + faults_in faults ds
