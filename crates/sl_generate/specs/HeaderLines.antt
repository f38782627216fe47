-- The lines of a generated schedule's header.
use Rattle.sl_report.specs.GeneratedSchedules.{gen_header, gen_host_name}
use Rattle.sl_report.specs.Languages.{language_of}
use Rattle.sl_report.specs.Schedules.{Header_read, numbered_lines, read_header}
use Rattle.sl_run.specs.Worlds.{Program, mebibyte}
use Rattle.sl_run.specs.declared.header.SessionLine.{SessionLine}
use Rattle.sl_text.specs.Forms.{as_bytes, spaced}
use Rattle.std.specs.List.{range_with_len}
use Rattle.std.specs.Prelude.{Bool, List, codes, decimal, if◌then◌else◌, map, [], ℕ, ◌*◌, ◌++◌, ◌∷◌, ◌≡◌, ◌≤◌}

-- The session of machine m.
abbrev pub gen_session : ℕ → SessionLine
gen_session m = record { machine = m; lockspace = codes "ls"; id = m; name = gen_host_name m }

-- The line of resource k.
abbrev pub resource_line : ℕ → List ℕ
resource_line k = spaced (codes "resource" ∷ codes "ls" ∷ (codes "r" ++ decimal k) ∷ codes "/d" ∷ decimal (k * mebibyte) ∷ [])

-- The line of machine m's session.
abbrev pub session_line : ℕ → List ℕ
session_line m = spaced (codes "session" ∷ decimal m ∷ codes "ls" ∷ decimal m ∷ gen_host_name m ∷ [])

-- All lines, for so many machines, whose areas have pairs or not.
abbrev pub header_lines : ℕ → Bool → List (List ℕ)
header_lines hosts paired =
    (if paired then codes "sanlock 2" else codes "sanlock 1") ∷ codes "time 100 600 100 0 300" ∷ spaced (codes "hosts" ∷ decimal hosts ∷ []) ∷ spaced (codes "ids" ∷ decimal hosts ∷ [])
    ∷ codes "disk /d 8" ∷ codes "lockspace ls /d 0" ∷ map resource_line (range_with_len 1 4) ++ map session_line (range_with_len 1 hosts) ++ codes "begin" ∷ []

-- They are read as the header, whatever program it is.
abbrev pub HeadersAreRead : Type 0
HeadersAreRead =
    (p : Program) (hosts : ℕ) (paired : Bool) → 1 ≤ hosts → hosts ≤ 16
    → read_header (language_of p) [] 1 (numbered_lines (as_bytes (header_lines hosts paired))) ≡ Header_read (gen_header hosts paired) []
