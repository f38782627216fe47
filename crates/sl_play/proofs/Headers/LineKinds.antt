-- The kinds of a header's lines, and what each line's tests say of the lines before it.
use Rattle.sl_report.specs.HeaderLines.{AreaLine, BeginLine, ClockLine, DiskLine, HeaderLine, HostsLine, IdsLine, LeaseLine, MemberLine, TimeLine, VersionLine, area_line, clock_line, disk_line, first_line, header_of, hosts_line, ids_line, lease_line, member_line, rank, timing_line, GeometryLine, LvmLine, geometry_line, retries_line, version_line}
use Rattle.sl_report.specs.HeaderRefusals.{header_tests, is_known_lockspace, is_on_disk, is_taken_place}
use Rattle.sl_report.specs.Schedules.{default_area, default_sector}
use Rattle.sl_run.specs.declared.header.Disk.{Disk}
use Rattle.sl_run.specs.declared.header.FirstReading.{FirstReading}
use Rattle.sl_run.specs.declared.header.LockspaceLine.{LockspaceLine}
use Rattle.sl_run.specs.declared.header.ResourceLine.{ResourceLine}
use Rattle.sl_run.specs.declared.header.SessionLine.{SessionLine}
use Rattle.sl_play.proofs.Headers.TakenLines.{EachFails, IsKind, IsLineBehind, IsRanked, area_so_far, sure, unrefused}
use Rattle.sl_time.specs.Times.{IsTiming, TimingNumbers}
use Rattle.sl_words.proofs.CaseLaws.{some_value}
use Rattle.sl_words.specs.Words.{some_is}
use Rattle.std.proofs.Common.{Bool, List, Some, ap, arith, false, not, refl, subst, true, ℕ, ◌&&◌, ◌≡◌, ◌≤◌}
use Rattle.std.proofs.lemmas.Bool.Decides.{nat_tests}
use Rattle.std.proofs.lemmas.Bool.{ltb-false, or_parts}
use Rattle.std.specs.Int.{is_in_range}
use Rattle.std.specs.List.{filter_map, list_any}
use Rattle.sl_area.specs.AreaSizes.{most_ids, most_ids_of_all, roomy}
use Rattle.std.specs.Prelude.{bytes_eq, is_none, is_some, nat_lt, ◌==◌, ◌||◌, ℕ}

-- ---- kinds

version_back : (l : HeaderLine) (x : Bool) → version_line l ≡ Some x → l ≡ VersionLine x
version_back (VersionLine paired) x h = ap (λ y. VersionLine y) (some_value _ _ h)
version_back l x h = absurd cc

version_ranked : (l : HeaderLine) → is_some (version_line l) ≡ (rank l == 0)
version_ranked (VersionLine paired) = refl
version_ranked (TimeLine io fire land rho grace) = refl
version_ranked (HostsLine m) = refl
version_ranked (IdsLine n) = refl
version_ranked (GeometryLine sector mebibytes) = refl
version_ranked (LvmLine n) = refl
version_ranked (ClockLine c) = refl
version_ranked (DiskLine d) = refl
version_ranked (AreaLine a) = refl
version_ranked (LeaseLine r) = refl
version_ranked (MemberLine s) = refl
version_ranked BeginLine = refl

pub version_kind : IsKind (λ x. VersionLine x) version_line 0
version_kind = record { back = version_back; ranked = version_ranked }

abbrev pub line_of_times : TimingNumbers × ℕ → HeaderLine
line_of_times x = TimeLine x.0.io x.0.fire x.0.land x.0.rho x.1

times_back : (l : HeaderLine) (x : TimingNumbers × ℕ) → timing_line l ≡ Some x → l ≡ line_of_times x
times_back (TimeLine io fire land rho grace) x h =
    subst (λ (y : TimingNumbers × ℕ). TimeLine io fire land rho grace ≡ line_of_times y) (some_value _ _ h) refl
times_back l x h = absurd cc

times_ranked : (l : HeaderLine) → is_some (timing_line l) ≡ (rank l == 1)
times_ranked (VersionLine paired) = refl
times_ranked (TimeLine io fire land rho grace) = refl
times_ranked (HostsLine m) = refl
times_ranked (IdsLine n) = refl
times_ranked (GeometryLine sector mebibytes) = refl
times_ranked (LvmLine n) = refl
times_ranked (ClockLine c) = refl
times_ranked (DiskLine d) = refl
times_ranked (AreaLine a) = refl
times_ranked (LeaseLine r) = refl
times_ranked (MemberLine s) = refl
times_ranked BeginLine = refl

pub times_kind : IsKind line_of_times timing_line 1
times_kind = record { back = times_back; ranked = times_ranked }

hosts_back : (l : HeaderLine) (x : ℕ) → hosts_line l ≡ Some x → l ≡ HostsLine x
hosts_back (HostsLine m) x h = ap (λ y. HostsLine y) (some_value _ _ h)
hosts_back l x h = absurd cc

hosts_ranked : (l : HeaderLine) → is_some (hosts_line l) ≡ (rank l == 2)
hosts_ranked (VersionLine paired) = refl
hosts_ranked (TimeLine io fire land rho grace) = refl
hosts_ranked (HostsLine m) = refl
hosts_ranked (IdsLine n) = refl
hosts_ranked (GeometryLine sector mebibytes) = refl
hosts_ranked (LvmLine n) = refl
hosts_ranked (ClockLine c) = refl
hosts_ranked (DiskLine d) = refl
hosts_ranked (AreaLine a) = refl
hosts_ranked (LeaseLine r) = refl
hosts_ranked (MemberLine s) = refl
hosts_ranked BeginLine = refl

pub hosts_kind : IsKind (λ x. HostsLine x) hosts_line 2
hosts_kind = record { back = hosts_back; ranked = hosts_ranked }

ids_back : (l : HeaderLine) (x : ℕ) → ids_line l ≡ Some x → l ≡ IdsLine x
ids_back (IdsLine n) x h = ap (λ y. IdsLine y) (some_value _ _ h)
ids_back l x h = absurd cc

ids_ranked : (l : HeaderLine) → is_some (ids_line l) ≡ (rank l == 3)
ids_ranked (VersionLine paired) = refl
ids_ranked (TimeLine io fire land rho grace) = refl
ids_ranked (HostsLine m) = refl
ids_ranked (IdsLine n) = refl
ids_ranked (GeometryLine sector mebibytes) = refl
ids_ranked (LvmLine n) = refl
ids_ranked (ClockLine c) = refl
ids_ranked (DiskLine d) = refl
ids_ranked (AreaLine a) = refl
ids_ranked (LeaseLine r) = refl
ids_ranked (MemberLine s) = refl
ids_ranked BeginLine = refl

pub ids_kind : IsKind (λ x. IdsLine x) ids_line 3
ids_kind = record { back = ids_back; ranked = ids_ranked }

pub sizes_ranked : IsRanked geometry_line 4
sizes_ranked (VersionLine paired) = refl
sizes_ranked (TimeLine io fire land rho grace) = refl
sizes_ranked (HostsLine m) = refl
sizes_ranked (IdsLine n) = refl
sizes_ranked (GeometryLine sector mebibytes) = refl
sizes_ranked (LvmLine n) = refl
sizes_ranked (ClockLine c) = refl
sizes_ranked (DiskLine d) = refl
sizes_ranked (AreaLine a) = refl
sizes_ranked (LeaseLine r) = refl
sizes_ranked (MemberLine s) = refl
sizes_ranked BeginLine = refl

pub retries_ranked : IsRanked retries_line 5
retries_ranked (VersionLine paired) = refl
retries_ranked (TimeLine io fire land rho grace) = refl
retries_ranked (HostsLine m) = refl
retries_ranked (IdsLine n) = refl
retries_ranked (GeometryLine sector mebibytes) = refl
retries_ranked (LvmLine n) = refl
retries_ranked (ClockLine c) = refl
retries_ranked (DiskLine d) = refl
retries_ranked (AreaLine a) = refl
retries_ranked (LeaseLine r) = refl
retries_ranked (MemberLine s) = refl
retries_ranked BeginLine = refl

retries_back : (l : HeaderLine) (x : ℕ) → retries_line l ≡ Some x → l ≡ LvmLine x
retries_back (LvmLine n) x h = ap (λ y. LvmLine y) (some_value _ _ h)
retries_back l x h = absurd cc

pub retries_kind : IsKind (λ x. LvmLine x) retries_line 5
retries_kind = record { back = retries_back; ranked = retries_ranked }

clock_back : (l : HeaderLine) (x : FirstReading) → clock_line l ≡ Some x → l ≡ ClockLine x
clock_back (ClockLine c) x h = ap (λ y. ClockLine y) (some_value _ _ h)
clock_back l x h = absurd cc

clock_ranked : (l : HeaderLine) → is_some (clock_line l) ≡ (rank l == 6)
clock_ranked (VersionLine paired) = refl
clock_ranked (TimeLine io fire land rho grace) = refl
clock_ranked (HostsLine m) = refl
clock_ranked (IdsLine n) = refl
clock_ranked (GeometryLine sector mebibytes) = refl
clock_ranked (LvmLine n) = refl
clock_ranked (ClockLine c) = refl
clock_ranked (DiskLine d) = refl
clock_ranked (AreaLine a) = refl
clock_ranked (LeaseLine r) = refl
clock_ranked (MemberLine s) = refl
clock_ranked BeginLine = refl

pub clock_kind : IsKind (λ x. ClockLine x) clock_line 6
clock_kind = record { back = clock_back; ranked = clock_ranked }

disk_back : (l : HeaderLine) (x : Disk) → disk_line l ≡ Some x → l ≡ DiskLine x
disk_back (DiskLine d) x h = ap (λ y. DiskLine y) (some_value _ _ h)
disk_back l x h = absurd cc

disk_ranked : (l : HeaderLine) → is_some (disk_line l) ≡ (rank l == 7)
disk_ranked (VersionLine paired) = refl
disk_ranked (TimeLine io fire land rho grace) = refl
disk_ranked (HostsLine m) = refl
disk_ranked (IdsLine n) = refl
disk_ranked (GeometryLine sector mebibytes) = refl
disk_ranked (LvmLine n) = refl
disk_ranked (ClockLine c) = refl
disk_ranked (DiskLine d) = refl
disk_ranked (AreaLine a) = refl
disk_ranked (LeaseLine r) = refl
disk_ranked (MemberLine s) = refl
disk_ranked BeginLine = refl

pub disk_kind : IsKind (λ x. DiskLine x) disk_line 7
disk_kind = record { back = disk_back; ranked = disk_ranked }

area_back : (l : HeaderLine) (x : LockspaceLine) → area_line l ≡ Some x → l ≡ AreaLine x
area_back (AreaLine a) x h = ap (λ y. AreaLine y) (some_value _ _ h)
area_back l x h = absurd cc

area_ranked : (l : HeaderLine) → is_some (area_line l) ≡ (rank l == 8)
area_ranked (VersionLine paired) = refl
area_ranked (TimeLine io fire land rho grace) = refl
area_ranked (HostsLine m) = refl
area_ranked (IdsLine n) = refl
area_ranked (GeometryLine sector mebibytes) = refl
area_ranked (LvmLine n) = refl
area_ranked (ClockLine c) = refl
area_ranked (DiskLine d) = refl
area_ranked (AreaLine a) = refl
area_ranked (LeaseLine r) = refl
area_ranked (MemberLine s) = refl
area_ranked BeginLine = refl

pub area_kind : IsKind (λ x. AreaLine x) area_line 8
area_kind = record { back = area_back; ranked = area_ranked }

lease_back : (l : HeaderLine) (x : ResourceLine) → lease_line l ≡ Some x → l ≡ LeaseLine x
lease_back (LeaseLine r) x h = ap (λ y. LeaseLine y) (some_value _ _ h)
lease_back l x h = absurd cc

lease_ranked : (l : HeaderLine) → is_some (lease_line l) ≡ (rank l == 9)
lease_ranked (VersionLine paired) = refl
lease_ranked (TimeLine io fire land rho grace) = refl
lease_ranked (HostsLine m) = refl
lease_ranked (IdsLine n) = refl
lease_ranked (GeometryLine sector mebibytes) = refl
lease_ranked (LvmLine n) = refl
lease_ranked (ClockLine c) = refl
lease_ranked (DiskLine d) = refl
lease_ranked (AreaLine a) = refl
lease_ranked (LeaseLine r) = refl
lease_ranked (MemberLine s) = refl
lease_ranked BeginLine = refl

pub lease_kind : IsKind (λ x. LeaseLine x) lease_line 9
lease_kind = record { back = lease_back; ranked = lease_ranked }

member_back : (l : HeaderLine) (x : SessionLine) → member_line l ≡ Some x → l ≡ MemberLine x
member_back (MemberLine s) x h = ap (λ y. MemberLine y) (some_value _ _ h)
member_back l x h = absurd cc

member_ranked : (l : HeaderLine) → is_some (member_line l) ≡ (rank l == 10)
member_ranked (VersionLine paired) = refl
member_ranked (TimeLine io fire land rho grace) = refl
member_ranked (HostsLine m) = refl
member_ranked (IdsLine n) = refl
member_ranked (GeometryLine sector mebibytes) = refl
member_ranked (LvmLine n) = refl
member_ranked (ClockLine c) = refl
member_ranked (DiskLine d) = refl
member_ranked (AreaLine a) = refl
member_ranked (LeaseLine r) = refl
member_ranked (MemberLine s) = refl
member_ranked BeginLine = refl

pub member_kind : IsKind (λ x. MemberLine x) member_line 10
member_kind = record { back = member_back; ranked = member_ranked }

-- ---- tests

-- The times are within their limits.
ranged : (io fire land rho grace : ℕ) → not (is_in_range 1 600000 io) ≡ false → nat_lt 600000 fire ≡ false → nat_lt 600000 land ≡ false → nat_lt 100 rho ≡ false → nat_lt 600000 grace ≡ false
    → IsTiming (record { io = io; fire = fire; land = land; rho = rho }) × (grace ≤ 600000)
ranged io fire land rho grace a b c d e = (
  record {
    io = (grind (arith, nat_tests), grind (arith, nat_tests));
    fire = ltb-false _ _ b;
    land = ltb-false _ _ c;
    rho = ltb-false _ _ d;
  },
  ltb-false _ _ e,
)

pub times_fit : (ls : List HeaderLine) (x : TimingNumbers × ℕ) → IsLineBehind ls (line_of_times x) → IsTiming x.0 × (x.1 ≤ 600000)
unfolding header_tests
times_fit ls x h =
    let fail : EachFails (header_tests (header_of default_sector default_area ls) (line_of_times x)) = unrefused ls (line_of_times x) h in
    ranged x.0.io x.0.fire x.0.land x.0.rho x.1 fail.0 fail.1.0 fail.1.1.0 fail.1.1.1.0 fail.1.1.1.1.0

-- There are no more hosts than areas may have.
pub ids_fit : (ls : List HeaderLine) (n : ℕ) → IsLineBehind ls (IdsLine n) → n ≤ roomy (first_line version_line false ls) most_ids_of_all
unfolding header_tests header_of
ids_fit ls n h = let fail = unrefused ls (IdsLine n) h in ltb-false (roomy (first_line version_line false ls) most_ids_of_all) n fail.0

-- There are areas of these sizes, for as many hosts as there are.
pub record SizesFit (ls : List HeaderLine) (x : ℕ × ℕ) : Type 0 where
  pub are : is_none (most_ids x.0 x.1) ≡ false
  pub enough : some_is (λ most. nat_lt (roomy (first_line version_line false ls) most) (first_line ids_line 0 ls)) (most_ids x.0 x.1) ≡ false

pub sizes_fit : (ls : List HeaderLine) (l : HeaderLine) (x : ℕ × ℕ) → geometry_line l ≡ Some x → IsLineBehind ls l → SizesFit ls x
unfolding header_tests header_of
sizes_fit ls (GeometryLine sector mebibytes) x is h =
    let fail = unrefused ls (GeometryLine sector mebibytes) h in
    subst (SizesFit ls) (some_value _ _ is) (record { are = fail.0; enough = fail.1.0 })
sizes_fit ls l x is h = absurd cc

-- A clock is of a machine that there is, and of no machine that has one.
pub record ClockFits (ls : List HeaderLine) (c : FirstReading) : Type 0 where
  pub machine : c.machine ≤ first_line hosts_line 0 ls
  pub free : list_any (λ d. d.machine == c.machine) (filter_map clock_line ls) ≡ false

pub clock_fits : (ls : List HeaderLine) (c : FirstReading) → IsLineBehind ls (ClockLine c) → ClockFits ls c
unfolding header_tests header_of
clock_fits ls c h =
    let fail = unrefused ls (ClockLine c) h in
    record { machine = ltb-false (first_line hosts_line 0 ls) c.machine fail.0; free = fail.1.0 }

-- A disk has a path of its own.
pub disk_fits : (ls : List HeaderLine) (d : Disk) → IsLineBehind ls (DiskLine d) → list_any (λ e. bytes_eq e.path d.path) (filter_map disk_line ls) ≡ false
unfolding header_tests header_of
disk_fits ls d h = let fail = unrefused ls (DiskLine d) h in fail.0

-- No area begins there.
pub record IsFreePlace (ls : List HeaderLine) (path : List ℕ) (offset : ℕ) : Type 0 where
  pub lockspaces : list_any (λ l. bytes_eq l.path path && l.offset == offset) (filter_map area_line ls) ≡ false
  pub resources : list_any (λ r. bytes_eq r.path path && r.offset == offset) (filter_map lease_line ls) ≡ false

-- A lockspace lies on a disk, at a place of its own, and has a name of its own.
pub record AreaFits (ls : List HeaderLine) (a : LockspaceLine) : Type 0 where
  pub on : is_on_disk (filter_map disk_line ls) (area_so_far ls) a.path a.offset ≡ true
  pub named : list_any (λ l. bytes_eq l.name a.name) (filter_map area_line ls) ≡ false
  pub free : IsFreePlace ls a.path a.offset

pub area_fits : (ls : List HeaderLine) (a : LockspaceLine) → IsLineBehind ls (AreaLine a) → AreaFits ls a
unfolding header_tests header_of
area_fits ls a h =
    let fail = unrefused ls (AreaLine a) h in
    let head = header_of default_sector default_area ls in
    let other = or_parts (is_known_lockspace head a.name) (is_taken_place head a.path a.offset) fail.1.0 in
    let free = or_parts _ _ other.1 in
    record { on = sure _ fail.0; named = other.0; free = record { lockspaces = free.0; resources = free.1 } }

-- A resource lies on a disk, at a place of its own, and is of a lockspace that there is.
pub record LeaseFits (ls : List HeaderLine) (r : ResourceLine) : Type 0 where
  pub on : is_on_disk (filter_map disk_line ls) (area_so_far ls) r.path r.offset ≡ true
  pub known : list_any (λ l. bytes_eq l.name r.lockspace) (filter_map area_line ls) ≡ true
  pub free : IsFreePlace ls r.path r.offset

pub lease_fits : (ls : List HeaderLine) (r : ResourceLine) → IsLineBehind ls (LeaseLine r) → LeaseFits ls r
unfolding header_tests header_of
lease_fits ls r h =
    let fail = unrefused ls (LeaseLine r) h in
    let head = header_of default_sector default_area ls in
    let other = or_parts (list_any (λ q. bytes_eq q.lockspace r.lockspace && bytes_eq q.name r.name) head.resources) (is_taken_place head r.path r.offset) fail.1.1.0 in
    let free = or_parts _ _ other.1 in
    record { on = sure _ fail.0; known = sure _ fail.1.0; free = record { lockspaces = free.0; resources = free.1 } }

-- A session is of a machine and a lockspace that there are, at an id of the run; its id, its lockspace and its name go together with the
-- sessions before it.
pub record MemberFits (ls : List HeaderLine) (s : SessionLine) : Type 0 where
  pub id : s.id ≤ first_line ids_line 0 ls
  pub machine : s.machine ≤ first_line hosts_line 0 ls
  pub known : list_any (λ l. bytes_eq l.name s.lockspace) (filter_map area_line ls) ≡ true
  pub free : list_any (λ o. bytes_eq o.lockspace s.lockspace && (o.id == s.id || o.machine == s.machine)
      || o.machine == s.machine && not (bytes_eq o.name s.name)) (filter_map member_line ls) ≡ false
  pub named : list_any (λ o. not (o.machine == s.machine) && bytes_eq o.name s.name) (filter_map member_line ls) ≡ false

pub member_fits : (ls : List HeaderLine) (s : SessionLine) → IsLineBehind ls (MemberLine s) → MemberFits ls s
unfolding header_tests header_of
member_fits ls s h =
    let fail = unrefused ls (MemberLine s) h in
    record {
      id = ltb-false (first_line ids_line 0 ls) s.id fail.0;
      machine = ltb-false (first_line hosts_line 0 ls) s.machine fail.1.0;
      known = sure _ fail.1.1.0;
      free = fail.1.1.1.0;
      named = fail.1.1.1.1.0;
    }
