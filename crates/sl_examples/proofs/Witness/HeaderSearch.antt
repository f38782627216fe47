-- Searches for the rules of a header.
use Rattle.sl_area.specs.AreaSizes.{is_geometry}
use Rattle.sl_run.specs.Headers.{GoTogether, IsArea, IsHeader, IsMember, areas_of}
use Rattle.sl_run.specs.Worlds.{mebibyte}
use Rattle.sl_run.specs.declared.header.Disk.{Disk}
use Rattle.sl_run.specs.declared.header.FirstReading.{FirstReading}
use Rattle.sl_run.specs.declared.header.Header.{Header}
use Rattle.sl_run.specs.declared.header.LockspaceLine.{LockspaceLine}
use Rattle.sl_run.specs.declared.header.ResourceLine.{ResourceLine}
use Rattle.sl_run.specs.declared.header.SessionLine.{SessionLine}
use Rattle.sl_text.specs.Names.{is_name, is_path}
use Rattle.sl_time.specs.Times.{IsTiming, TimingNumbers}
use Rattle.sl_examples.proofs.Witness.ProofSearch.{seek_all, seek_any, seek_false, seek_le, seek_lt, seek_pairs, seek_same, seek_text, seek_true, ◌>>=◌}
use Rattle.std.proofs.Common.{eq-eqb}
use Rattle.std.proofs.lemmas.Slice.Eq.{bytes_eq-Decides}
use Rattle.std.specs.Prelude.{Contains, IsTrue, List, Option, Some, bytes_eq, false, length, true, ℕ, ◌%◌, ◌*◌, ◌+◌, ◌<◌, ◌==◌, ◌^◌, ◌↔◌, ◌≡◌, ◌≢◌, ◌≤◌}

-- ---- what differs

pub texts_differ : (a b : List ℕ) → bytes_eq a b ≡ false → a ≢ b
texts_differ a b h same = let is : bytes_eq a b ≡ true = (bytes_eq-Decides a b).1 same in cc

abbrev pub seek_other_text : (a b : List ℕ) → Option (a ≢ b)
seek_other_text a b = do
  h ← seek_false (bytes_eq a b)
  Some (texts_differ a b h)

pub numbers_differ : (a b : ℕ) → (a == b) ≡ false → a ≢ b
numbers_differ a b h same = let is : (a == b) ≡ true = eq-eqb a b same in cc

abbrev pub seek_other : (a b : ℕ) → Option (a ≢ b)
seek_other a b = do
  h ← seek_false (a == b)
  Some (numbers_differ a b h)

-- ---- the parts of a header

abbrev pub seek_timing : (t : TimingNumbers) → Option (IsTiming t)
seek_timing t = do
  some ← seek_le 1 t.io
  io ← seek_le t.io 600000
  fire ← seek_le t.fire 600000
  land ← seek_le t.land 600000
  rho ← seek_le t.rho 100
  Some (record { io = (some, io); fire = fire; land = land; rho = rho })

abbrev pub seek_clock : (h : Header) (c : FirstReading) → Option ((1 ≤ c.machine) × (c.machine ≤ h.machines) × (c.reading < 10 ^ 12))
seek_clock h c = do
  low ← seek_le 1 c.machine
  high ← seek_le c.machine h.machines
  below ← seek_lt c.reading (10 ^ 12)
  Some (low, high, below)

abbrev pub seek_disk : (d : Disk) → Option (IsTrue (is_path d.path) × (1 ≤ d.mebibytes) × (d.mebibytes ≤ 64))
seek_disk d = do
  path ← seek_true (is_path d.path)
  low ← seek_le 1 d.mebibytes
  high ← seek_le d.mebibytes 64
  Some (path, low, high)

-- The area lies on the disk.
abbrev pub LiesOn : Header → List ℕ → ℕ → Disk → Type 0
LiesOn h path offset d = (d.path ≡ path) × (offset + h.geometry.area ≤ d.mebibytes * mebibyte)

abbrev pub seek_lies_on : (h : Header) (path : List ℕ) (offset : ℕ) (d : Disk) → Option (LiesOn h path offset d)
seek_lies_on h path offset d = do
  same ← seek_text d.path path
  inside ← seek_le (offset + h.geometry.area) (d.mebibytes * mebibyte)
  Some (same, inside)

abbrev pub seek_area : (h : Header) (path : List ℕ) (offset : ℕ) → Option (IsArea h path offset)
seek_area h path offset = do
  aligned ← seek_same (offset % h.geometry.area) 0
  disk ← seek_any (LiesOn h path offset) (seek_lies_on h path offset) h.disks
  Some (record { aligned = aligned; on_disk = (disk.0, disk.1, disk.2.0, disk.2.1) })

abbrev pub seek_lockspace : (h : Header) (l : LockspaceLine) → Option (IsTrue (is_name l.name) × IsArea h l.path l.offset)
seek_lockspace h l = do
  name ← seek_true (is_name l.name)
  area ← seek_area h l.path l.offset
  Some (name, area)

-- A lockspace of the header has the name.
abbrev pub IsNamed : Header → List ℕ → Type 0
IsNamed h name = (l : LockspaceLine) × Contains h.lockspaces l × (l.name ≡ name)

abbrev pub seek_named : (h : Header) (name : List ℕ) → Option (IsNamed h name)
seek_named h name = seek_any (λ l. l.name ≡ name) (λ l. seek_text l.name name) h.lockspaces

abbrev pub seek_resource : (h : Header) (r : ResourceLine)
    → Option (IsTrue (is_name r.name) × IsArea h r.path r.offset × ((l : LockspaceLine) × Contains h.lockspaces l × (l.name ≡ r.lockspace)))
seek_resource h r = do
  name ← seek_true (is_name r.name)
  area ← seek_area h r.path r.offset
  lockspace ← seek_named h r.lockspace
  Some (name, area, lockspace)

-- Two areas are apart.
abbrev pub AreApart : List ℕ × ℕ → List ℕ × ℕ → Type 0
AreApart a b = a.0 ≡ b.0 → a.1 ≡ b.1 → ⊥

abbrev pub seek_apart : (a b : List ℕ × ℕ) → Option (AreApart a b)
seek_apart a b = do
  h ← seek_other a.1 b.1
  Some (λ path offset. h offset)

abbrev pub seek_member : (h : Header) (s : SessionLine) → Option (IsMember h s)
seek_member h s = do
  low ← seek_le 1 s.machine
  high ← seek_le s.machine h.machines
  least ← seek_le 1 s.id
  most ← seek_le s.id h.geometry.hosts
  lockspace ← seek_named h s.lockspace
  name ← seek_true (is_name s.name)
  Some (record { machine = (low, high); id = (least, most); lockspace = lockspace; name = name })

pub both_differ : {A B : Type 0} (a b : A) (c d : B) → a ≢ b → c ≢ d → a ≡ b ↔ c ≡ d
both_differ a b c d p q = (λ h. absurd (p h), λ h. absurd (q h))

abbrev pub seek_together : (s t : SessionLine) → Option (GoTogether s t)
seek_together s t = do
  ids ← seek_other s.id t.id
  machines ← seek_other s.machine t.machine
  names ← seek_other_text s.name t.name
  Some (record {
    ids = λ space id. ids id;
    once = λ space machine. machines machine;
    names = both_differ s.name t.name s.machine t.machine names machines;
  })

-- ---- a header

abbrev pub seek_header : (h : Header) → Option (IsHeader h)
seek_header h = do
  timing ← seek_timing h.timing
  grace ← seek_le h.grace 600000
  some ← seek_le 1 h.machines
  machines ← seek_le h.machines 16
  geometry ← seek_true (is_geometry h.geometry)
  retries ← seek_le h.retries 8
  clocks ← seek_all (λ c. (1 ≤ c.machine) × (c.machine ≤ h.machines) × (c.reading < 10 ^ 12)) (seek_clock h) h.clocks
  one_clock ← seek_pairs (λ a b. a.machine ≢ b.machine) (λ a b. seek_other a.machine b.machine) h.clocks
  disks ← seek_all (λ d. IsTrue (is_path d.path) × (1 ≤ d.mebibytes) × (d.mebibytes ≤ 64)) seek_disk h.disks
  one_disk ← seek_pairs (λ a b. a.path ≢ b.path) (λ a b. seek_other_text a.path b.path) h.disks
  lockspaces ← seek_all (λ l. IsTrue (is_name l.name) × IsArea h l.path l.offset) (seek_lockspace h) h.lockspaces
  one_lockspace ← seek_pairs (λ a b. a.name ≢ b.name) (λ a b. seek_other_text a.name b.name) h.lockspaces
  resources ← seek_all (λ r. IsTrue (is_name r.name) × IsArea h r.path r.offset × ((l : LockspaceLine) × Contains h.lockspaces l × (l.name ≡ r.lockspace)))
      (seek_resource h) h.resources
  apart ← seek_pairs AreApart seek_apart (areas_of h)
  few_disks ← seek_le (length h.disks) 8
  few_lockspaces ← seek_le (length h.lockspaces) 8
  few_resources ← seek_le (length h.resources) 256
  members ← seek_all (IsMember h) (seek_member h) h.sessions
  together ← seek_pairs GoTogether seek_together h.sessions
  Some (record {
    timing = timing;
    grace = grace;
    machines = (some, machines);
    geometry = geometry;
    retries = retries;
    clocks = clocks;
    one_clock = one_clock;
    disks = disks;
    one_disk = one_disk;
    lockspaces = lockspaces;
    one_lockspace = one_lockspace;
    resources = resources;
    apart = apart;
    few = (few_disks, few_lockspaces, few_resources);
    members = members;
    together = together;
  })
