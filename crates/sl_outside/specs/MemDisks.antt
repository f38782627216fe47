-- Disks in memory, by their paths.
use Rattle.sl_outside.specs.Disks.{Disks, told_at}
use Rattle.sl_outside.specs.declared.mem_devices.MemDisk.{MemDisk}
use Rattle.std.specs.Prelude.{Bool, List, Option, bytes_eq, find, option_and_then, option_map, ℕ}

-- What devices in memory have: their disks, the path of the one that is out, and their faults.
pub record DevicesState : Type 0 where
  pub all : List MemDisk
  pub out : Option (List ℕ)
  pub faults : ℕ

-- Whether the disk is the one at this path.
abbrev pub is_at : List ℕ → MemDisk → Bool
is_at path d = bytes_eq d.path path

-- What the first disk at a path has.
abbrev pub content_at : List MemDisk → Disks
content_at ds path = option_map (λ d. d.area.content) (find (is_at path) ds)

-- The disk that is out, if it is one of these.
abbrev pub lent_in : DevicesState → Option (List ℕ)
lent_in s = option_and_then (told_at (content_at s.all)) s.out
