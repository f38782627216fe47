-- What a header is, whatever its lines look like.
use Rattle.sl_area.specs.AreaSizes.{IsGeometry}
use Rattle.sl_run.specs.Worlds.{mebibyte}
use Rattle.sl_run.specs.declared.header.Disk.{Disk}
use Rattle.sl_run.specs.declared.header.FirstReading.{FirstReading}
use Rattle.sl_run.specs.declared.header.Header.{Header}
use Rattle.sl_run.specs.declared.header.LockspaceLine.{LockspaceLine}
use Rattle.sl_run.specs.declared.header.ResourceLine.{ResourceLine}
use Rattle.sl_run.specs.declared.header.SessionLine.{SessionLine}
use Rattle.sl_text.specs.Names.{is_name, is_path}
use Rattle.sl_time.specs.Times.{IsTiming}
use Rattle.std.specs.Prelude.{AllPairs, Contains, IsTrue, List, length, map, ℕ, ◌%◌, ◌*◌, ◌++◌, ◌+◌, ◌<◌, ◌^◌, ◌↔◌, ◌≡◌, ◌≢◌, ◌≤◌}

-- The area lies on a disk and begins at a multiple of its size.
pub record IsArea (h : Header) (path : List ℕ) (offset : ℕ) : Type 0 where
  pub aligned : offset % h.geometry.area ≡ 0
  pub on_disk : (d : Disk) × Contains h.disks d × (d.path ≡ path) × (offset + h.geometry.area ≤ d.mebibytes * mebibyte)

-- The header's areas, lockspaces first.
abbrev pub areas_of : Header → List (List ℕ × ℕ)
areas_of h = map (λ l. (l.path, l.offset)) h.lockspaces ++ map (λ r. (r.path, r.offset)) h.resources

-- A session line.
pub record IsMember (h : Header) (s : SessionLine) : Type 0 where
  pub machine : (1 ≤ s.machine) × (s.machine ≤ h.machines)
  pub id : (1 ≤ s.id) × (s.id ≤ h.geometry.hosts)
  pub lockspace : (l : LockspaceLine) × Contains h.lockspaces l × (l.name ≡ s.lockspace)
  pub name : IsTrue (is_name s.name)

-- How two session lines go together.
pub record GoTogether (s t : SessionLine) : Type 0 where
  -- an id is one machine's
  pub ids : s.lockspace ≡ t.lockspace → s.id ≡ t.id → ⊥
  -- a machine joins a lockspace once
  pub once : s.lockspace ≡ t.lockspace → s.machine ≡ t.machine → ⊥
  -- a machine has one daemon, and each daemon its own name
  pub names : s.name ≡ t.name ↔ s.machine ≡ t.machine

-- A header that a world may begin with.
pub record IsHeader (h : Header) : Type 0 where
  pub timing : IsTiming h.timing
  pub grace : h.grace ≤ 600000
  pub machines : (1 ≤ h.machines) × (h.machines ≤ 16)
  pub geometry : IsGeometry h.geometry
  pub retries : h.retries ≤ 8
  pub clocks : (c : FirstReading) → Contains h.clocks c → (1 ≤ c.machine) × (c.machine ≤ h.machines) × (c.reading < 10 ^ 12)
  pub one_clock : AllPairs (λ a b. a.machine ≢ b.machine) h.clocks
  pub disks : (d : Disk) → Contains h.disks d → IsTrue (is_path d.path) × (1 ≤ d.mebibytes) × (d.mebibytes ≤ 64)
  pub one_disk : AllPairs (λ a b. a.path ≢ b.path) h.disks
  pub lockspaces : (l : LockspaceLine) → Contains h.lockspaces l → IsTrue (is_name l.name) × IsArea h l.path l.offset
  pub one_lockspace : AllPairs (λ a b. a.name ≢ b.name) h.lockspaces
  pub resources : (r : ResourceLine) → Contains h.resources r →
      IsTrue (is_name r.name) × IsArea h r.path r.offset × ((l : LockspaceLine) × Contains h.lockspaces l × (l.name ≡ r.lockspace))
  pub apart : AllPairs (λ a b. (a.0 ≡ b.0) → (a.1 ≡ b.1) → ⊥) (areas_of h)
  pub few : (length h.disks ≤ 8) × (length h.lockspaces ≤ 8) × (length h.resources ≤ 256)
  pub members : (s : SessionLine) → Contains h.sessions s → IsMember h s
  pub together : AllPairs GoTogether h.sessions
