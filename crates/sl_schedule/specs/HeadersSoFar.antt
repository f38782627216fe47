-- A header, line by line: what is kept of the lines so far, which lists of lines that stands for, and what one more line does.
use Rattle.sl_area.specs.AreaSizes.{Sizes, is_geometry}
use Rattle.sl_report.specs.Languages.{is_skipped, least_lines, most_lines, whole_language}
use Rattle.sl_report.specs.ReadLines.{header_line_in}
use Rattle.sl_report.specs.HeaderLines.{AreaLine, BeginLine, ClockLine, DiskLine, GeometryLine, HeaderLine, HostsLine, IdsLine, LeaseLine, LvmLine, MemberLine, TimeLine, VersionLine, area_line, clock_line, count_of_rank, disk_line, geometry_line, header_of, hosts_line, ids_line, lease_line, member_line, no_timing, rank, retries_line, timing_line, version_line}
use Rattle.sl_report.specs.HeaderRefusals.{header_tests}
use Rattle.sl_report.specs.Schedules.{default_area, default_sector, header_line_refusal, is_begin, with_line}
use Rattle.sl_run.specs.Worlds.{first_that, mebibyte}
use Rattle.sl_run.specs.declared.event.Refusal.TheVariants.{Syntax}
use Rattle.sl_run.specs.declared.event.Refusal.{Refusal}
use Rattle.sl_run.specs.declared.header.Disk.{Disk}
use Rattle.sl_run.specs.declared.header.FirstReading.{FirstReading}
use Rattle.sl_run.specs.declared.header.Header.{Header}
use Rattle.sl_run.specs.declared.header.LockspaceLine.{LockspaceLine}
use Rattle.sl_run.specs.declared.header.ResourceLine.{ResourceLine}
use Rattle.sl_run.specs.declared.header.SessionLine.{SessionLine}
use Rattle.sl_schedule.specs.HeaderReads.{AreHosts}
use Rattle.sl_schedule.specs.declared.header.Added.TheVariants.{Begun, More, Refused}
use Rattle.sl_schedule.specs.declared.header.Added.{Added}
use Rattle.sl_schedule.specs.declared.header_line.Times.{Times}
use Rattle.sl_time.specs.Times.{IsTiming, TimingNumbers}
use Rattle.sl_words.specs.Words.{choose, some_is}
use Rattle.std.specs.List.{list_all, range_with_len}
use Rattle.std.specs.Option.{IfSome, IsSome, option_map, option_to_list}
use Rattle.std.specs.Prelude.{Bool, List, None, Option, Some, false, filter_map, if◌then◌else◌, length, nat_le, nat_lt, not, true, unwrap_or, [], ℕ, ◌&&◌, ◌*◌, ◌++◌, ◌==◌, ◌∷◌, ◌≡◌}

-- What is kept of the lines so far: the greatest rank, and what each kind of line said.
pub record HeaderSoFar : Type 0 where
  pub last : ℕ
  -- whether areas have pairs
  pub version : Option Bool
  pub times : Option (TimingNumbers × ℕ)
  pub machines : Option ℕ
  pub hosts : Option ℕ
  -- sizes with the number of hosts, where a line gives the bytes of sectors and areas
  pub sizes : Option Sizes
  pub retries : Option ℕ
  pub clocks : List FirstReading
  pub disks : List Disk
  pub lockspaces : List LockspaceLine
  pub resources : List ResourceLine
  pub sessions : List SessionLine

-- No line yet.
abbrev pub no_lines : HeaderSoFar
no_lines =
    record {
      last = 0;
      version = None;
      times = None;
      machines = None;
      hosts = None;
      sizes = None;
      retries = None;
      clocks = [];
      disks = [];
      lockspaces = [];
      resources = [];
      sessions = [];
    }

-- What a time line gives.
abbrev pub times_seen : Times → TimingNumbers × ℕ
times_seen t = (record { io = t.io; fire = t.fire; land = t.land; rho = t.rho }, t.grace)

-- A number of hosts that a run may have whose areas have pairs, or none, as the first line told.
pub record HostsAreFew (version : Option Bool) (hosts : ℕ) : Type 0 where
  pub paired : Bool
  pub told : version ≡ Some paired
  pub few : AreHosts paired hosts

-- Times that a run may have, a number of hosts, and sizes with pairs or without as the first line told.
pub record ArePossible (version : Option Bool) (times : Option (TimingNumbers × ℕ)) (hosts : Option ℕ) (sizes : Option Sizes) : Type 0 where
  pub timing : IfSome times (λ t. IsTiming t.0)
  pub number : IfSome hosts (HostsAreFew version)
  pub pairs : IfSome sizes (λ z. version ≡ Some z.paired)

-- The bytes of sectors and areas.
abbrev pub bytes_of : Sizes → ℕ × ℕ
bytes_of z = (z.sector, z.area)

-- What is kept stands for these lines.
pub record Stands (r : HeaderSoFar) (ls : List HeaderLine) : Type 0 where
  pub order : (k : ℕ) → list_all (λ l. nat_le (rank l) k) ls ≡ nat_le r.last k
  pub versions : filter_map version_line ls ≡ option_to_list r.version
  pub timings : filter_map timing_line ls ≡ option_to_list r.times
  pub numbers : filter_map hosts_line ls ≡ option_to_list r.machines
  pub ids : filter_map ids_line ls ≡ option_to_list r.hosts
  pub geometries : filter_map geometry_line ls ≡ option_to_list (option_map bytes_of r.sizes)
  pub sized : IfSome r.sizes (λ z. r.hosts ≡ Some z.hosts)
  pub pairs : IfSome r.sizes (λ z. r.version ≡ Some z.paired)
  pub retried : filter_map retries_line ls ≡ option_to_list r.retries
  pub readings : filter_map clock_line ls ≡ r.clocks
  pub paths : filter_map disk_line ls ≡ r.disks
  pub areas : filter_map area_line ls ≡ r.lockspaces
  pub leases : filter_map lease_line ls ≡ r.resources
  pub members : filter_map member_line ls ≡ r.sessions
  pub begins : count_of_rank ls 11 ≡ 0

-- The sizes for so many hosts, with pairs or without, where no line gives the bytes of sectors and areas.
abbrev pub default_sizes : ℕ → Bool → Sizes
default_sizes hosts paired = record { sector = default_sector; area = default_area; hosts = hosts; paired = paired }

-- The sizes that the lines give.
abbrev pub sizes_now : HeaderSoFar → Sizes
sizes_now r = unwrap_or r.sizes (default_sizes (unwrap_or r.hosts 0) (unwrap_or r.version false))

-- The header that the lines make.
abbrev pub header_now : HeaderSoFar → Header
header_now r =
    record {
      timing = (unwrap_or r.times (no_timing, 0)).0;
      grace = (unwrap_or r.times (no_timing, 0)).1;
      machines = unwrap_or r.machines 0;
      geometry = sizes_now r;
      retries = unwrap_or r.retries 0;
      clocks = r.clocks;
      disks = r.disks;
      lockspaces = r.lockspaces;
      resources = r.resources;
      sessions = r.sessions;
    }

-- How many lines of a rank there are.
abbrev pub count_at : HeaderSoFar → ℕ → ℕ
count_at r k =
    if k == 0 then length (option_to_list r.version)
    else (if k == 1 then length (option_to_list r.times)
    else (if k == 2 then length (option_to_list r.machines)
    else (if k == 3 then length (option_to_list r.hosts)
    else (if k == 4 then length (option_to_list r.sizes)
    else (if k == 5 then length (option_to_list r.retries)
    else (if k == 6 then length r.clocks
    else (if k == 7 then length r.disks
    else (if k == 8 then length r.lockspaces
    else (if k == 9 then length r.resources
    else (if k == 10 then length r.sessions else 0))))))))))

-- Whether there are as many lines of the rank as there must be.
abbrev pub has_least : HeaderSoFar → ℕ → Bool
has_least r k = nat_le (least_lines k) (count_at r k)

-- Whether one more line of the rank may come.
abbrev pub has_room : HeaderSoFar → ℕ → Bool
has_room r k = elim (most_lines k) [ None ↦ true | Some n ↦ nat_lt (count_at r k) n ]

-- Whether a line of the rank is in its place.
abbrev pub is_in_place : HeaderSoFar → ℕ → Bool
is_in_place r k = nat_le r.last k && list_all (has_least r) (range_with_len 0 k) && has_room r k

-- Why a line is refused after these.
abbrev pub refusal_now : HeaderSoFar → HeaderLine → Option Refusal
refusal_now r l = first_that ((not (is_in_place r (rank l)), Syntax) ∷ header_tests (header_now r) l)

-- The row of the table of sizes for sectors of these bytes and areas of so many mebibytes.
abbrev pub row_for : ℕ → ℕ → Option (ℕ × ℕ × ℕ)
row_for sector mebibytes =
    if sector == 512 && mebibytes == 1 then Some (512, 1048576, 2000)
    else (if sector == 4096 && mebibytes == 1 then Some (4096, 1048576, 250)
    else (if sector == 4096 && mebibytes == 2 then Some (4096, 2097152, 500)
    else (if sector == 4096 && mebibytes == 4 then Some (4096, 4194304, 1000)
    else (if sector == 4096 && mebibytes == 8 then Some (4096, 8388608, 2000) else None))))

-- Sizes of these bytes for so many hosts, with pairs or without, where there are such.
abbrev pub sizes_of : ℕ → ℕ → ℕ → Bool → Option Sizes
sizes_of sector area hosts paired =
    let z : Sizes = record { sector = sector; area = area; hosts = hosts; paired = paired } in
    choose (is_geometry z) z

-- What the lines say, with one more; the line's place apart.
abbrev pub values_with : HeaderSoFar → HeaderLine → HeaderSoFar
values_with r (VersionLine paired) = record r { version = Some paired }
values_with r (TimeLine io fire land rho grace) = record r { times = Some (record { io = io; fire = fire; land = land; rho = rho }, grace) }
values_with r (HostsLine m) = record r { machines = Some m }
values_with r (IdsLine n) = record r { hosts = Some n }
values_with r (GeometryLine sector mebibytes) = record r { sizes = sizes_of sector (mebibytes * mebibyte) (sizes_now r).hosts (sizes_now r).paired }
values_with r (LvmLine n) = record r { retries = Some n }
values_with r (ClockLine c) = record r { clocks = r.clocks ++ c ∷ [] }
values_with r (DiskLine d) = record r { disks = r.disks ++ d ∷ [] }
values_with r (AreaLine l) = record r { lockspaces = r.lockspaces ++ l ∷ [] }
values_with r (LeaseLine l) = record r { resources = r.resources ++ l ∷ [] }
values_with r (MemberLine s) = record r { sessions = r.sessions ++ s ∷ [] }
values_with r BeginLine = r

-- What is kept after one more line.
abbrev pub so_far_with : HeaderSoFar → HeaderLine → HeaderSoFar
so_far_with r l = record (values_with r l) { last = rank l }

-- Times and a number of hosts that a run may have, where the line gives them behind a first line.
abbrev pub IsWithin : HeaderSoFar → HeaderLine → Type 0
IsWithin r (TimeLine io fire land rho grace) = IsTiming (record { io = io; fire = fire; land = land; rho = rho })
IsWithin r (IdsLine n) = IsSome r.version → HostsAreFew r.version n
IsWithin r l = Unit {0}

-- .. and it stands behind one, if it is none itself.
abbrev pub IsPossible : HeaderSoFar → HeaderLine → Type 0
IsPossible r (VersionLine paired) = r.version ≡ None
IsPossible r (TimeLine io fire land rho grace) = IsTiming (record { io = io; fire = fire; land = land; rho = rho })
IsPossible r (IdsLine n) = HostsAreFew r.version n
IsPossible r (GeometryLine sector mebibytes) = IsSome r.version × (r.sizes ≡ None)
IsPossible r l = Unit {0}

-- ---- one more line, whatever it is

-- The answer to a line that was read.
abbrev pub answer_to : HeaderSoFar → Option HeaderLine → Added
answer_to r None = Refused Syntax
answer_to r (Some l) =
    elim (refusal_now r l) [
      | Some why ↦ Refused why
      | None ↦ elim (is_begin l) [ true ↦ Begun (header_now r) | false ↦ More ]
    ]

-- What is kept then: after `begin` another header may begin.
abbrev pub kept_after : HeaderSoFar → Option HeaderLine → HeaderSoFar
kept_after r None = r
kept_after r (Some l) =
    elim (refusal_now r l) [
      | Some why ↦ r
      | None ↦ elim (is_begin l) [ true ↦ no_lines | false ↦ so_far_with r l ]
    ]

-- The answer to a line.
abbrev pub answer_now : HeaderSoFar → List ℕ → Added
answer_now r line = elim (is_skipped line) [ true ↦ More | false ↦ answer_to r (header_line_in whole_language (sizes_now r).area line) ]

-- What is kept then.
abbrev pub so_far_after : HeaderSoFar → List ℕ → HeaderSoFar
so_far_after r line = elim (is_skipped line) [ true ↦ r | false ↦ kept_after r (header_line_in whole_language (sizes_now r).area line) ]

-- The answer to a line after these, by the definitions of headers.
abbrev pub answer_after : List HeaderLine → List ℕ → Added
answer_after ls line =
    elim (is_skipped line) [
      | true ↦ More
      | false ↦
          let read : Option HeaderLine = header_line_in whole_language (header_of default_sector default_area ls).geometry.area line in
          elim (header_line_refusal whole_language ls read) [
            | Some why ↦ Refused why
            | None ↦ elim (some_is is_begin read) [ true ↦ Begun (header_of default_sector default_area ls) | false ↦ More ]
          ]
    ]

-- The lines of the header then; none behind `begin`.
abbrev pub lines_after : List HeaderLine → List ℕ → List HeaderLine
lines_after ls line =
    elim (is_skipped line) [
      | true ↦ ls
      | false ↦
          let read : Option HeaderLine = header_line_in whole_language (header_of default_sector default_area ls).geometry.area line in
          elim (header_line_refusal whole_language ls read) [
            | Some why ↦ ls
            | None ↦ elim (some_is is_begin read) [ true ↦ [] | false ↦ with_line ls read ]
          ]
    ]

-- The line is refused.
abbrev pub IsRefused : Added → Type 0
IsRefused (Refused why) = Unit {0}
IsRefused a = ⊥
