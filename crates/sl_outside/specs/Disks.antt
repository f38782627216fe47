-- Disks that are handed out and taken back, by their paths.
use Rattle.sl_io.specs.FaultCauses.{Rose}
use Rattle.std.specs.Io.KnownBytes.{Keeps}
use Rattle.std.specs.Prelude.{List, None, Option, Some, option_map, ℕ, ◌<◌, ◌≡◌, ◌≢◌, ◌≤◌}

-- What each disk has, by its path, where that is told.
abbrev pub Disks : Type 0
Disks = List ℕ → Option (List ℕ)

-- The disk at this path, if what it has is told.
abbrev pub told_at : Disks → List ℕ → Option (List ℕ)
told_at disks path = option_map (λ content. path) (disks path)

-- Every other disk is as it was.
abbrev pub KeepsAllBut : List ℕ → Disks → Disks → Type 0
KeepsAllBut path before now = (other : List ℕ) → other ≢ path → now other ≡ before other

-- What stood, as it was told, stands as it was.
abbrev pub Stay : Disks → Disks → Type 0
Stay before now = (path content : List ℕ) → before path ≡ Some content → now path ≡ Some content

-- The disk at a path is handed out: the area has what the disk had, and of the others nothing changes.
pub record HandsOut (path : List ℕ) (before now : Disks) (lent content : Option (List ℕ)) : Type 0 where
  pub content_is : Keeps (before path) content
  pub lent_is : lent ≡ told_at before path
  pub others : KeepsAllBut path before now

-- An area is taken back: the disk that was lent has what the area has now.
abbrev pub TakesBack : Option (List ℕ) → Disks → Disks → Option (List ℕ) → Type 0
TakesBack None before now content = (path : List ℕ) → now path ≡ before path
TakesBack (Some path) before now content = (now path ≡ content) × KeepsAllBut path before now

-- The devices' count of faults when an area comes back that counted so many: it rises exactly where there was one.
pub record CountsBack (area before now : ℕ) : Type 0 where
  pub rose : 0 < area → Rose before now
  pub stays : area ≡ 0 → now ≡ before
  pub later : before ≤ now
