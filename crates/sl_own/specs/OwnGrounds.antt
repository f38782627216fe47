-- What a machine in a process of its own begins with: a place that was taken, and areas that stand.
use Rattle.sl_live.specs.declared.disks.Disk.{Disk}
use Rattle.sl_live_run.specs.Areas.{worker_of}
use Rattle.sl_live_run.specs.Grounds.{IsSiteOf}
use Rattle.sl_live_run.specs.Runs.{Both, disks_in}
use Rattle.sl_cell.specs.declared.part.Part.TheVariants.{Delta, Resource}
use Rattle.sl_cell.specs.declared.part.Part.{Part}
use Rattle.sl_io.specs.FaultCauses.{Rose}
use Rattle.sl_outside.specs.Acts.{Grows, Tells}
use Rattle.sl_outside.specs.Disks.{Disks}
use Rattle.sl_outside.specs.Lendings.{AreaOut, Lending, SpawnerOut}
use Rattle.sl_place.specs.Standing.{IsSizeOf}
use Rattle.sl_outside.specs.declared.act.Act.{Act}
use Rattle.sl_own.specs.declared.ground.OwnGround.{OwnGround}
use Rattle.sl_own.specs.declared.no_place.NoPlace.TheVariants.{FolderInUse, MachineInUse, NoDisk, NotStanding, OtherSize}
use Rattle.sl_own.specs.declared.no_place.NoPlace.{NoPlace}
use Rattle.sl_run.specs.Headers.{IsHeader}
use Rattle.sl_run.specs.Worlds.{mebibyte}
use Rattle.sl_run.specs.declared.header.Disk.{Disk as DiskLine}
use Rattle.sl_run.specs.declared.header.Header.{Header}
use Rattle.sl_standing.specs.Standing.{AreStanding, StandsNot}
use Rattle.sl_standing.specs.declared.not_standing.NotStanding.TheVariants.{AreaFault, NoMemory}
use Rattle.sl_standing.specs.declared.not_standing.NotStanding.{NotStanding as NotStandingOf}
use Rattle.sl_world_state.specs.FirstKept.{session_of}
use Rattle.std.specs.Io.KnownBytes.{Keeps}
use Rattle.std.specs.Prelude.{All, Bool, Contains, Err, IfSome, List, None, Ok, Option, Result, Some, false, if◌then◌else◌, option_map, [], ℕ, ◌*◌, ◌++◌, ◌+◌, ◌<◌, ◌==◌, ◌^◌, ◌∷◌, ◌≡◌, ◌≢◌}

-- ---- why it can't run there

-- A disk of the header does not stand, or has another size.
pub data SizeDiffers (disks : Disks) (folder : List ℕ) (h : Header) : NoPlace → Type 0 where
  Is_missing : (d : DiskLine) → Contains h.disks d → IsSizeOf (disks (folder ++ d.path)) None → SizeDiffers disks folder h (NoDisk d.path)
  Has_other : (d : DiskLine) (bytes : ℕ) → Contains h.disks d → IsSizeOf (disks (folder ++ d.path)) (Some bytes) → bytes ≢ d.mebibytes * mebibyte
      → SizeDiffers disks folder h (OtherSize d.path bytes)

-- How a disk of the header that has so many bytes, if it stands, is to be refused.
abbrev pub size_refusal : DiskLine → Option ℕ → Result (Unit {0}) NoPlace
size_refusal d None = Err (NoDisk d.path)
size_refusal d (Some bytes) = if bytes == d.mebibytes * mebibyte then Ok tt else Err (OtherSize d.path bytes)

-- What a worker's part was to find on a disk that has this does not stand there. Only the one of the ids' records looks.
abbrev pub FindsNot : Header → Part → List ℕ → Option (List ℕ) → ℕ → ℕ → NotStandingOf → Type 0
FindsNot h Delta path content faults later why = StandsNot h path content faults later why
FindsNot h Resource path content faults later why = ⊥

-- It was read of an area of the disk, which had what the disk has, where that is told.
pub record AreaDiffers (disks : Disks) (folder : List ℕ) (h : Header) (part : Part) (faults later : ℕ) (why : NotStandingOf) : Type 0 where
  pub disk : DiskLine
  pub there : Contains h.disks disk
  pub content : Option (List ℕ)
  pub told : Keeps (disks (folder ++ disk.path)) content
  pub not : FindsNot h part disk.path content faults later why

-- Why areas can't be had: a fault of the devices, which was counted; a difference; or want of memory.
pub data NotLent (disks : Disks) (folder : List ℕ) (h : Header) (part : Part) (faults later : ℕ) : NoPlace → Type 0 where
  Has_fault : Rose faults later → NotLent disks folder h part faults later (NotStanding AreaFault)
  No_memory : NotLent disks folder h part faults later (NotStanding NoMemory)
  Differs : (why : NotStandingOf) → AreaDiffers disks folder h part faults later why → NotLent disks folder h part faults later (NotStanding why)

-- Why a machine can't run there.
pub data Bars (disks : Disks) (folder : List ℕ) (h : Header) (machine : ℕ) (faults later : ℕ) : NoPlace → Type 0 where
  Folder_bars : Rose faults later → Bars disks folder h machine faults later FolderInUse
  Machine_bars : Rose faults later → Bars disks folder h machine faults later (MachineInUse machine)
  Size_bars : (why : NoPlace) → SizeDiffers disks folder h why → Bars disks folder h machine faults later why
  Area_bars : (why : NoPlace) → NotLent disks folder h Delta faults later why → Bars disks folder h machine faults later why

-- ---- areas

-- What a worker's part finds on a disk that has this: the one of the ids' records all that the header has there.
abbrev pub Finds : Header → Part → List ℕ → Option (List ℕ) → Type 0
Finds h Delta path content = AreStanding h path content
Finds h Resource path content = Unit {0}

-- .. where the disks had this when they were handed out.
abbrev pub FindsOn : Disks → List ℕ → Header → Part → List ℕ → Option (List ℕ) → Type 0
FindsOn disks folder h part path content = Keeps (disks (folder ++ path)) content × Finds h part path content

-- An area that devices handed out of the disk at this path of a folder, to a worker of machine m, to which nothing was written since it had what was found there.
pub record IsLeft {A : Type 0} (content : A → Option (List ℕ)) (Found : List ℕ → Option (List ℕ) → Type 0) (folder : List ℕ) (m : ℕ) (part : Part) (path : List ℕ) (d : Disk A)
    (was is : Option (List Lending)) : Type 0 where
  pub path_is : d.path ≡ path
  pub before : Option (List ℕ)
  pub lent : Grows was is (AreaOut m (worker_of part) (folder ++ path) before ∷ [])
  pub found : Found path before
  pub kept : Keeps before (content d.area)

-- One of each disk, in the order of the header, and nothing else was handed out between.
abbrev pub AreLeft : {A : Type 0} → (A → Option (List ℕ)) → (List ℕ → Option (List ℕ) → Type 0) → List ℕ → ℕ → Part → List DiskLine → List (Disk A) → Option (List Lending) → Option (List Lending) → Type 0
AreLeft content Found folder m part [] [] was is = is ≡ was
AreLeft content Found folder m part [] (d ∷ ds) was is = ⊥
AreLeft content Found folder m part (l ∷ ls) [] was is = ⊥
AreLeft content Found folder m part (l ∷ ls) (d ∷ ds) was is =
    (between : Option (List Lending)) × IsLeft content Found folder m part l.path d was between × AreLeft content Found folder m part ls ds between is

-- What devices handed out to the machine: for each of its workers an area of each disk of the header, to which nothing was written since all that the header
-- has there was found to stand on it; and a spawner.
pub record HadOwn {A : Type 0} (content : A → Option (List ℕ)) (disks : Disks) (folder : List ℕ) (h : Header) (m : ℕ) (areas : Both A) (was is : Option (List Lending)) : Type 0 where
  pub delta_lent : Option (List Lending)
  pub delta : AreLeft content (FindsOn disks folder h Delta) folder m Delta h.disks areas.0 was delta_lent
  pub resource_lent : Option (List Lending)
  pub resource : AreLeft content (Finds h Resource) folder m Resource h.disks areas.1 delta_lent resource_lent
  pub spawner : Grows resource_lent is (SpawnerOut m ∷ [])

-- ---- all of it

-- A disk of the header stands in the folder, with its size.
abbrev pub HasSize : Disks → List ℕ → DiskLine → Type 0
HasSize disks folder d = IsSizeOf (disks (folder ++ d.path)) (Some (d.mebibytes * mebibyte))

-- .. and on it all that the header has there.
pub record HasAreas (disks : Disks) (folder : List ℕ) (h : Header) (d : DiskLine) : Type 0 where
  pub content : Option (List ℕ)
  pub told : Keeps (disks (folder ++ d.path)) content
  pub stand : AreStanding h d.path content

-- So it is of each disk of a header: a machine may run there.
pub record IsPlaceOf (disks : Disks) (folder : List ℕ) (h : Header) : Type 0 where
  pub sizes : All (HasSize disks folder) h.disks
  pub areas : All (HasAreas disks folder h) h.disks

-- The header is the given one but for its clocks, and a header still; the machine has its number and the site that the header gives it; and its areas
-- are of these disks, on which the worker of the ids' records found all that the header has there. The devices handed out just these, and a spawner.
pub record IsOwnGround {V O C P D W G A : Type 0} (content : A → Option (List ℕ)) (spawned : P → Option (List Act)) (disks : Disks) (folder : List ℕ) (h : Header) (machine : ℕ)
    (lent held : Option (List Lending)) (g : OwnGround V O C P D W G A) : Type 0 where
  pub lawful : IsHeader g.header
  pub same : g.header ≡ record h { clocks = g.header.clocks }
  pub numbered : machine ≡ g.place + 1
  pub small : machine < 2 ^ 32
  pub site : IsSiteOf g.header machine (session_of g.header machine) g.ready.site
  pub unasked : Tells (spawned g.ready.parts.spawner) []
  pub had : HadOwn content disks folder h machine (disks_in g.ready.parts) lent held

-- The watchdog device of the system is the one that was asked for, and was not told to rest.
pub record IsOpened {W : Type 0} (path : W → List ℕ) (rested : W → Bool) (asked : Option (List ℕ)) (w : Option W) : Type 0 where
  pub at : option_map path w ≡ asked
  pub awake : IfSome w (λ d. rested d ≡ false)
