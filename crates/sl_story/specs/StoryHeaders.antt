-- The header of a story: its lines, and what they are read as.
use Rattle.sl_report.specs.Languages.{whole_language}
use Rattle.sl_report.specs.Schedules.{Header_read, default_area, default_sector, numbered_lines, read_header}
use Rattle.sl_run.specs.Worlds.{mebibyte}
use Rattle.sl_run.specs.declared.header.Header.{Header}
use Rattle.sl_run.specs.declared.header.ResourceLine.{ResourceLine}
use Rattle.sl_run.specs.declared.header.SessionLine.{SessionLine}
use Rattle.sl_text.specs.Forms.{as_bytes}
use Rattle.std.specs.List.{range_with_len}
use Rattle.std.specs.Prelude.{Bool, List, codes, decimal, if◌then◌else◌, map, [], ℕ, ◌*◌, ◌++◌, ◌+◌, ◌∷◌, ◌≡◌, ◌≤◌}

-- ---- the lines

-- Of machine m's session in a lockspace.
abbrev pub session_line : List ℕ → ℕ → List ℕ
session_line lockspace m = codes "session " ++ decimal m ++ codes " " ++ lockspace ++ codes " " ++ decimal m ++ codes " h" ++ decimal m

-- The first lines, for so many machines, whose areas have pairs or not.
unfoldable pub number_lines : ℕ → Bool → List (List ℕ)
number_lines hosts paired =
    (if paired then codes "sanlock 2" else codes "sanlock 1") ∷ codes "time 100 600 100 10 300" ∷ (codes "hosts " ++ decimal hosts) ∷ (codes "ids " ++ decimal (hosts + 8)) ∷ []

-- The lines that each story has: a disk with four resources, and one with a volume group's locks: the global one, the group's, a volume's.
unfoldable pub fixed_lines : List (List ℕ)
fixed_lines =
    codes "lvm 2" ∷ codes "disk /d 8" ∷ codes "disk /dev/mapper/vg-lvmlock 4" ∷ codes "lockspace ls /d 0" ∷ codes "lockspace lvm_vg /dev/mapper/vg-lvmlock 0"
    ∷ codes "resource ls r1 /d 1048576" ∷ codes "resource ls r2 /d 2097152" ∷ codes "resource ls r3 /d 3145728" ∷ codes "resource ls r4 /d 4194304"
    ∷ codes "resource lvm_vg GLLK /dev/mapper/vg-lvmlock 1048576" ∷ codes "resource lvm_vg VGLK /dev/mapper/vg-lvmlock 2097152" ∷ codes "resource lvm_vg lv /dev/mapper/vg-lvmlock 3145728" ∷ []

-- All of them.
unfoldable pub story_lines : ℕ → Bool → List (List ℕ)
story_lines hosts paired =
    number_lines hosts paired ++ fixed_lines ++ map (session_line (codes "ls")) (range_with_len 1 hosts) ++ map (session_line (codes "lvm_vg")) (range_with_len 1 hosts) ++ codes "begin" ∷ []

-- ---- the header

abbrev pub group_disk : List ℕ
group_disk = codes "/dev/mapper/vg-lvmlock"

abbrev pub story_resource : ℕ → ResourceLine
story_resource k = record { lockspace = codes "ls"; name = codes "r" ++ decimal k; path = codes "/d"; offset = k * mebibyte }

abbrev pub group_resource : List ℕ → ℕ → ResourceLine
group_resource name k = record { lockspace = codes "lvm_vg"; name = name; path = group_disk; offset = k * mebibyte }

abbrev pub story_session : List ℕ → ℕ → SessionLine
story_session lockspace m = record { machine = m; lockspace = lockspace; id = m; name = codes "h" ++ decimal m }

-- Each machine has joined both lockspaces under its own number.
unfoldable pub story_header : ℕ → Bool → Header
story_header hosts paired =
    record {
      timing = record { io = 100; fire = 600; land = 100; rho = 10 };
      grace = 300;
      machines = hosts;
      geometry = record { sector = default_sector; area = default_area; hosts = hosts + 8; paired = paired };
      retries = 2;
      clocks = [];
      disks = record { path = codes "/d"; mebibytes = 8 } ∷ record { path = group_disk; mebibytes = 4 } ∷ [];
      lockspaces = record { name = codes "ls"; path = codes "/d"; offset = 0 } ∷ record { name = codes "lvm_vg"; path = group_disk; offset = 0 } ∷ [];
      resources = story_resource 1 ∷ story_resource 2 ∷ story_resource 3 ∷ story_resource 4 ∷ group_resource (codes "GLLK") 1 ∷ group_resource (codes "VGLK") 2 ∷ group_resource (codes "lv") 3 ∷ [];
      sessions = map (story_session (codes "ls")) (range_with_len 1 hosts) ++ map (story_session (codes "lvm_vg")) (range_with_len 1 hosts);
    }

-- The lines are read as it.
abbrev pub StoryHeadersAreRead : Type 0
StoryHeadersAreRead =
    (hosts : ℕ) (paired : Bool) → 1 ≤ hosts → hosts ≤ 16
    → read_header whole_language [] 1 (numbered_lines (as_bytes (story_lines hosts paired))) ≡ Header_read (story_header hosts paired) []
