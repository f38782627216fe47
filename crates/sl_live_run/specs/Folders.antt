-- The folder of a run: whether a run may begin there, and why it may not.
use Rattle.sl_io.specs.FaultCauses.{Rose}
use Rattle.sl_live_run.specs.declared.folder.NoEntry.TheVariants as no_entry
use Rattle.sl_live_run.specs.declared.folder.NoEntry.{NoEntry}
use Rattle.sl_outside.specs.Disks.{Disks}
use Rattle.sl_outside.specs.declared.folders.NotTaken.TheVariants as not_taken
use Rattle.sl_outside.specs.declared.folders.NotTaken.{NotTaken}
use Rattle.sl_run.specs.declared.header.Disk.{Disk}
use Rattle.sl_run.specs.declared.header.Header.{Header}
use Rattle.std.specs.Prelude.{Bool, Contains, List, None, false, ℕ, ◌++◌, ◌≡◌}

-- A folder that was asked for: its text, whether disks are to be made anew there, and what disks have, where that is told.
pub record Asked : Type 0 where
  pub path : List ℕ
  pub anew : Bool
  pub disks : Disks

-- No disk of the header is told to stand there, unless they are to be made anew.
abbrev pub IsVacant : Asked → Header → Type 0
IsVacant f h = f.anew ≡ false → (d : Disk) → Contains h.disks d → f.disks (f.path ++ d.path) ≡ None

-- Why a folder that was not taken is not entered.
abbrev pub entry_of : NotTaken → NoEntry
entry_of not_taken.InUse = no_entry.InUse
entry_of not_taken.Failed = no_entry.AreaFault

-- A disk of the header has this path, and disks were not to be made anew.
pub record IsDiskThere (anew : Bool) (h : Header) (path : List ℕ) : Type 0 where
  pub kept : anew ≡ false
  pub disk : Disk
  pub one : Contains h.disks disk
  pub path_is : path ≡ disk.path

-- A folder is not entered only where the devices' count of faults rose, and for a disk only for one of the header. Of want of memory nothing
-- is said.
abbrev pub Bars : Bool → Header → ℕ → ℕ → NoEntry → Type 0
Bars anew h before now no_entry.AreaFault = Rose before now
Bars anew h before now no_entry.InUse = Rose before now
Bars anew h before now (no_entry.DiskThere path) = IsDiskThere anew h path × Rose before now
Bars anew h before now no_entry.NoMemory = Unit {0}

-- .. for a disk with this path that was looked at.
abbrev pub BarsDisk : List ℕ → ℕ → ℕ → NoEntry → Type 0
BarsDisk path before now no_entry.AreaFault = ⊥
BarsDisk path before now no_entry.InUse = ⊥
BarsDisk path before now (no_entry.DiskThere there) = (there ≡ path) × Rose before now
BarsDisk path before now no_entry.NoMemory = Unit {0}
