-- The lines of a schedule's header: their words, and what they say together.
use Rattle.sl_run.specs.Worlds.{mebibyte}
use Rattle.sl_run.specs.declared.header.Disk.{Disk}
use Rattle.sl_run.specs.declared.header.FirstReading.{FirstReading}
use Rattle.sl_run.specs.declared.header.Header.{Header}
use Rattle.sl_run.specs.declared.header.LockspaceLine.{LockspaceLine}
use Rattle.sl_run.specs.declared.header.ResourceLine.{ResourceLine}
use Rattle.sl_run.specs.declared.header.SessionLine.{SessionLine}
use Rattle.sl_text.specs.Forms.{Form, exactly, word_at}
use Rattle.sl_text.specs.Names.{is_name, is_path}
use Rattle.sl_text.specs.Numbers.{capped_long, capped_short, is_number_text, is_number_that, number_of}
use Rattle.sl_time.specs.Times.{TimingNumbers}
use Rattle.sl_words.specs.Words.{first_of_list}
use Rattle.std.specs.Int.{is_in_range}
use Rattle.std.specs.Prelude.{Bool, List, None, Option, Some, codes, count_by, false, filter_map, nat_le, nat_lt, unwrap_or, [], ℕ, ◌%◌, ◌*◌, ◌==◌, ◌^◌, ◌||◌, ◌∷◌}

-- A number above 0.
abbrev pub is_positive_word : List ℕ → Bool
is_positive_word w = is_number_that (λ n. nat_lt 0 n) w

-- ---- header lines

-- A line of a header. The first one says whether each host's block has a pair of sectors.
pub data HeaderLine : Type 0 where
  VersionLine : (paired : Bool) → HeaderLine
  TimeLine : (io fire land rho grace : ℕ) → HeaderLine
  HostsLine : ℕ → HeaderLine
  IdsLine : ℕ → HeaderLine
  GeometryLine : (sector mebibytes : ℕ) → HeaderLine
  LvmLine : ℕ → HeaderLine
  ClockLine : FirstReading → HeaderLine
  DiskLine : Disk → HeaderLine
  AreaLine : LockspaceLine → HeaderLine
  LeaseLine : ResourceLine → HeaderLine
  MemberLine : SessionLine → HeaderLine
  BeginLine : HeaderLine

-- `1`: a host's block has one sector; or `2`: it has a pair.
abbrev pub is_version_word : List ℕ → Bool
is_version_word w = exactly (codes "1") w || exactly (codes "2") w

-- The forms of header lines.
unfoldable pub header_forms : ℕ → List (Form HeaderLine)
header_forms area =
    record { words = exactly (codes "sanlock") ∷ is_version_word ∷ []; make = λ ws. VersionLine (exactly (codes "2") (word_at ws 1)) }
    ∷ record {
      words = exactly (codes "time") ∷ is_number_text ∷ is_number_text ∷ is_number_text ∷ is_number_text ∷ is_number_text ∷ [];
      make = λ ws. TimeLine (capped_long (word_at ws 1)) (capped_long (word_at ws 2)) (capped_long (word_at ws 3)) (capped_long (word_at ws 4)) (capped_long (word_at ws 5));
    }
    ∷ record { words = exactly (codes "hosts") ∷ is_number_that (is_in_range 1 16) ∷ []; make = λ ws. HostsLine (number_of (word_at ws 1)) }
    ∷ record { words = exactly (codes "ids") ∷ is_positive_word ∷ []; make = λ ws. IdsLine (capped_long (word_at ws 1)) }
    ∷ record {
      words = exactly (codes "geometry") ∷ is_number_text ∷ is_number_text ∷ [];
      make = λ ws. GeometryLine (capped_long (word_at ws 1)) (capped_long (word_at ws 2));
    }
    ∷ record { words = exactly (codes "lvm") ∷ is_number_that (λ n. nat_le n 8) ∷ []; make = λ ws. LvmLine (number_of (word_at ws 1)) }
    ∷ record {
      words = exactly (codes "clock") ∷ is_positive_word ∷ is_number_that (λ n. nat_lt n (10 ^ 12)) ∷ [];
      make = λ ws. ClockLine (record { machine = capped_short (word_at ws 1); reading = number_of (word_at ws 2) });
    }
    ∷ record {
      words = exactly (codes "disk") ∷ is_path ∷ is_number_that (is_in_range 1 64) ∷ [];
      make = λ ws. DiskLine (record { path = word_at ws 1; mebibytes = number_of (word_at ws 2) });
    }
    ∷ record {
      words = exactly (codes "lockspace") ∷ is_name ∷ is_path ∷ is_number_that (λ n. n % area == 0) ∷ [];
      make = λ ws. AreaLine (record { name = word_at ws 1; path = word_at ws 2; offset = capped_long (word_at ws 3) });
    }
    ∷ record {
      words = exactly (codes "resource") ∷ is_name ∷ is_name ∷ is_path ∷ is_number_that (λ n. n % area == 0) ∷ [];
      make = λ ws. LeaseLine (record { lockspace = word_at ws 1; name = word_at ws 2; path = word_at ws 3; offset = capped_long (word_at ws 4) });
    }
    ∷ record {
      words = exactly (codes "session") ∷ is_positive_word ∷ is_name ∷ is_number_that (is_in_range 1 2000) ∷ is_name ∷ [];
      make = λ ws. MemberLine (record { machine = capped_short (word_at ws 1); lockspace = word_at ws 2; id = number_of (word_at ws 3); name = word_at ws 4 });
    }
    ∷ record { words = exactly (codes "begin") ∷ []; make = λ ws. BeginLine }
    ∷ []

-- Where the line stands in the header's order.
abbrev pub rank : HeaderLine → ℕ
rank (VersionLine paired) = 0
rank (TimeLine io fire land rho grace) = 1
rank (HostsLine m) = 2
rank (IdsLine n) = 3
rank (GeometryLine sector mebibytes) = 4
rank (LvmLine n) = 5
rank (ClockLine c) = 6
rank (DiskLine d) = 7
rank (AreaLine l) = 8
rank (LeaseLine r) = 9
rank (MemberLine s) = 10
rank BeginLine = 11

-- How many lines of a rank there are.
abbrev pub count_of_rank : List HeaderLine → ℕ → ℕ
count_of_rank ls k = count_by (λ l. rank l == k) ls

-- ---- what earlier lines said

-- What the time line gives.
abbrev pub timing_line : HeaderLine → Option (TimingNumbers × ℕ)
timing_line (TimeLine io fire land rho grace) = Some (record { io = io; fire = fire; land = land; rho = rho }, grace)
timing_line l = None

-- What the first line gives: whether there are pairs.
abbrev pub version_line : HeaderLine → Option Bool
version_line (VersionLine paired) = Some paired
version_line l = None

-- What the hosts line gives.
abbrev pub hosts_line : HeaderLine → Option ℕ
hosts_line (HostsLine m) = Some m
hosts_line l = None

-- What the ids line gives.
abbrev pub ids_line : HeaderLine → Option ℕ
ids_line (IdsLine n) = Some n
ids_line l = None

-- What the geometry line gives: the bytes of a sector and of an area.
abbrev pub geometry_line : HeaderLine → Option (ℕ × ℕ)
geometry_line (GeometryLine sector mebibytes) = Some (sector, mebibytes * mebibyte)
geometry_line l = None

-- What the lvm line gives.
abbrev pub retries_line : HeaderLine → Option ℕ
retries_line (LvmLine n) = Some n
retries_line l = None

-- What a clock line gives.
abbrev pub clock_line : HeaderLine → Option FirstReading
clock_line (ClockLine c) = Some c
clock_line l = None

-- What a disk line gives.
abbrev pub disk_line : HeaderLine → Option Disk
disk_line (DiskLine d) = Some d
disk_line l = None

-- What a lockspace line gives.
abbrev pub area_line : HeaderLine → Option LockspaceLine
area_line (AreaLine a) = Some a
area_line l = None

-- What a resource line gives.
abbrev pub lease_line : HeaderLine → Option ResourceLine
lease_line (LeaseLine r) = Some r
lease_line l = None

-- What a session line gives.
abbrev pub member_line : HeaderLine → Option SessionLine
member_line (MemberLine s) = Some s
member_line l = None

-- What the first line of its kind gives.
abbrev pub first_line : {A : Type 0} → (HeaderLine → Option A) → A → List HeaderLine → A
first_line pick default ls = unwrap_or (first_of_list (filter_map pick ls)) default

-- Times before any are read.
abbrev pub no_timing : TimingNumbers
no_timing = record { io = 0; fire = 0; land = 0; rho = 0 }

-- What these lines give, with these sizes where no line says otherwise.
unfoldable pub header_of : ℕ → ℕ → List HeaderLine → Header
header_of sector area ls =
    record {
      timing = (first_line timing_line (no_timing, 0) ls).0;
      grace = (first_line timing_line (no_timing, 0) ls).1;
      machines = first_line hosts_line 0 ls;
      geometry = record {
        sector = (first_line geometry_line (sector, area) ls).0;
        area = (first_line geometry_line (sector, area) ls).1;
        hosts = first_line ids_line 0 ls;
        paired = first_line version_line false ls;
      };
      retries = first_line retries_line 0 ls;
      clocks = filter_map clock_line ls;
      disks = filter_map disk_line ls;
      lockspaces = filter_map area_line ls;
      resources = filter_map lease_line ls;
      sessions = filter_map member_line ls;
    }
