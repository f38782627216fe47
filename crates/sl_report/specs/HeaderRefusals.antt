-- The first refusal that fits a line of a header.
use Rattle.sl_area.specs.AreaSizes.{most_ids, most_ids_of_all, roomy}
use Rattle.sl_run.specs.Worlds.{mebibyte}
use Rattle.sl_run.specs.declared.event.Refusal.TheVariants.{LimitFire, LimitGeometry, LimitGrace, LimitIds, LimitIo, LimitLand, LimitRho, MissingDisk, MissingFree, MissingLockspace, MissingMachine, PremiseName, Syntax}
use Rattle.sl_run.specs.declared.event.Refusal.{Refusal}
use Rattle.sl_run.specs.declared.header.Disk.{Disk}
use Rattle.sl_run.specs.declared.header.Header.{Header}
use Rattle.sl_words.specs.Words.{some_is}
use Rattle.std.specs.Int.{is_in_range}
use Rattle.std.specs.List.{list_any}
use Rattle.std.specs.Prelude.{Bool, List, bytes_eq, is_none, nat_le, nat_lt, not, [], ℕ, ◌&&◌, ◌*◌, ◌+◌, ◌==◌, ◌||◌, ◌∷◌}
use Rattle.sl_report.specs.HeaderLines.{HeaderLine, VersionLine, TimeLine, HostsLine, IdsLine, GeometryLine, LvmLine, ClockLine, DiskLine, AreaLine, LeaseLine, MemberLine, BeginLine}

-- The area at this offset lies on the disk.
abbrev pub is_on_disk : List Disk → ℕ → List ℕ → ℕ → Bool
is_on_disk disks area path offset = list_any (λ d. bytes_eq d.path path && nat_le (offset + area) (d.mebibytes * mebibyte)) disks

-- Whether an area begins there.
abbrev pub is_taken_place : Header → List ℕ → ℕ → Bool
is_taken_place h path offset =
    list_any (λ l. bytes_eq l.path path && l.offset == offset) h.lockspaces || list_any (λ r. bytes_eq r.path path && r.offset == offset) h.resources

-- Whether a lockspace has the name.
abbrev pub is_known_lockspace : Header → List ℕ → Bool
is_known_lockspace h name = list_any (λ l. bytes_eq l.name name) h.lockspaces

-- Why a line may not stand after these, in order.
unfoldable pub header_tests : Header → HeaderLine → List (Bool × Refusal)
header_tests h (VersionLine paired) = []
header_tests h (TimeLine io fire land rho grace) =
    (not (is_in_range 1 600000 io), LimitIo) ∷ (nat_lt 600000 fire, LimitFire) ∷ (nat_lt 600000 land, LimitLand)
    ∷ (nat_lt 100 rho, LimitRho) ∷ (nat_lt 600000 grace, LimitGrace) ∷ []
header_tests h (HostsLine m) = []
header_tests h (IdsLine n) = (nat_lt (roomy h.geometry.paired most_ids_of_all) n, LimitIds) ∷ []
header_tests h (GeometryLine sector mebibytes) =
    (is_none (most_ids sector (mebibytes * mebibyte)), LimitGeometry)
    ∷ (some_is (λ most. nat_lt (roomy h.geometry.paired most) h.geometry.hosts) (most_ids sector (mebibytes * mebibyte)), LimitIds) ∷ []
header_tests h (LvmLine n) = []
header_tests h (ClockLine c) = (nat_lt h.machines c.machine, MissingMachine) ∷ (list_any (λ d. d.machine == c.machine) h.clocks, MissingFree) ∷ []
header_tests h (DiskLine d) = (list_any (λ e. bytes_eq e.path d.path) h.disks, MissingFree) ∷ []
header_tests h (AreaLine l) =
    (not (is_on_disk h.disks h.geometry.area l.path l.offset), MissingDisk)
    ∷ (is_known_lockspace h l.name || is_taken_place h l.path l.offset, MissingFree) ∷ []
header_tests h (LeaseLine r) =
    (not (is_on_disk h.disks h.geometry.area r.path r.offset), MissingDisk)
    ∷ (not (is_known_lockspace h r.lockspace), MissingLockspace)
    ∷ (list_any (λ q. bytes_eq q.lockspace r.lockspace && bytes_eq q.name r.name) h.resources || is_taken_place h r.path r.offset, MissingFree) ∷ []
header_tests h (MemberLine s) =
    (nat_lt h.geometry.hosts s.id, Syntax)
    ∷ (nat_lt h.machines s.machine, MissingMachine)
    ∷ (not (is_known_lockspace h s.lockspace), MissingLockspace)
    ∷ (
      list_any (λ o. bytes_eq o.lockspace s.lockspace && (o.id == s.id || o.machine == s.machine)
          || o.machine == s.machine && not (bytes_eq o.name s.name)) h.sessions,
      MissingFree,
    )
    ∷ (list_any (λ o. not (o.machine == s.machine) && bytes_eq o.name s.name) h.sessions, PremiseName) ∷ []
header_tests h BeginLine = []
