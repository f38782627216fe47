-- Header lines of the program, as the definitions see them.
use Rattle.sl_area.specs.AreaSizes.{roomy}
use Rattle.sl_report.specs.HeaderLines as header_lines
use Rattle.sl_schedule.specs.declared.header_line.HeaderLine.TheVariants.{Areas, Begin, Clock, Disk, Hosts, Lockspace, Machines, Resource, Retries, Session, Times, Version}
use Rattle.sl_schedule.specs.declared.header_line.HeaderLine.{HeaderLine}
use Rattle.std.specs.Prelude.{Bool, Err, Ok, Result, ℕ, ◌≤◌}

-- The line that it stands for.
abbrev pub header_seen : HeaderLine → header_lines.HeaderLine
header_seen (Version paired) = header_lines.VersionLine paired
header_seen (Times t) = header_lines.TimeLine t.io t.fire t.land t.rho t.grace
header_seen (Machines m) = header_lines.HostsLine m
header_seen (Hosts n) = header_lines.IdsLine n
header_seen (Areas a) = header_lines.GeometryLine a.sector a.mebibytes
header_seen (Retries n) = header_lines.LvmLine n
header_seen (Clock c) = header_lines.ClockLine c
header_seen (Disk d) = header_lines.DiskLine d
header_seen (Lockspace l) = header_lines.AreaLine l
header_seen (Resource r) = header_lines.LeaseLine r
header_seen (Session s) = header_lines.MemberLine s
header_seen Begin = header_lines.BeginLine

-- The same, where one was read.
abbrev pub result_seen : Result HeaderLine ℕ → Result header_lines.HeaderLine ℕ
result_seen (Ok l) = Ok (header_seen l)
result_seen (Err column) = Err column

-- A number of hosts that a run may have whose areas have pairs, or none.
abbrev pub AreHosts : Bool → ℕ → Type 0
AreHosts paired n = (1 ≤ n) × (n ≤ roomy paired 2000)

-- There is a host, where the line gives their number.
abbrev pub HasHosts : header_lines.HeaderLine → Type 0
HasHosts (header_lines.IdsLine n) = 1 ≤ n
HasHosts l = Unit {0}
