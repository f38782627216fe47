-- Schedules with a line that is refused, and the report's last line.
use Rattle.sl_examples.specs.WorkedSchedules.{one_machine, two_machines}
use Rattle.std.specs.Prelude.{List, codes, [], ℕ, ◌++◌, ◌∷◌}

-- A schedule with the last line of its report.
pub record LastLine : Type 0 where
  pub source : List (List ℕ)
  pub line : List ℕ

-- A schedule whose report ends with this line.
abbrev pub ends_with : List (List ℕ) → List ℕ → LastLine
ends_with source line = record { source = source; line = line }

-- A write of phase 2 in flight on a machine that was reset.
abbrev pub reset_in_phase2 : List (List ℕ)
reset_in_phase2 =
    two_machines
    ++ (
    codes "command 1 acquire -r ls:r:/d:1048576 -p 7" ∷ codes "do 1 1" ∷ codes "do 1 2" ∷ codes "do 1 3" ∷ codes "reset 1" ∷ []
    )

-- The first lines of a header.
abbrev pub header_front : List (List ℕ)
header_front = codes "sanlock 1" ∷ codes "time 100 600 100 0 300" ∷ codes "hosts 1" ∷ codes "ids 2" ∷ codes "disk /d 4" ∷ codes "lockspace ls /d 0" ∷ []

-- Headers that are refused.
abbrev pub refused_headers : List LastLine
refused_headers =
    ends_with (header_front ++ codes "resource ls r /d 1048576" ∷ codes "session 1 ls 1 a" ∷ []) (codes "line 9 syntax")
    ∷ ends_with (header_front ++ codes "resource ls r /d 1048576" ∷ codes "session 1 ls 1 a" ∷ codes "begi" ∷ []) (codes "line 9 syntax")
    ∷ ends_with (codes "sanlock 1" ∷ codes "time 100 600 100 0 300" ∷ codes "hosts 2" ∷ codes "ids 2" ∷ codes "disk /d 4" ∷ codes "lockspace ls /d 0" ∷ codes "resource ls r /d 1048576" ∷ codes "session 1 ls 1 a" ∷ codes "session 2 ls 2 a" ∷ codes "begin" ∷ []) (codes "line 9 premise name")
    ∷ ends_with (codes "sanlock 1" ∷ codes "time 100 600 100 0 300" ∷ codes "hosts 2" ∷ codes "ids 2" ∷ codes "disk /d 4" ∷ codes "lockspace ls /d 0" ∷ codes "resource ls r /d 1048576" ∷ codes "session 1 ls 1 a" ∷ codes "session 2 ls 1 b" ∷ codes "begin" ∷ []) (codes "line 9 missing free")
    ∷ ends_with (header_front ++ codes "resource l2 r /d 1048576" ∷ codes "session 1 ls 1 a" ∷ codes "begin" ∷ []) (codes "line 7 missing lockspace")
    ∷ ends_with (header_front ++ codes "resource ls r /d 4194304" ∷ codes "session 1 ls 1 a" ∷ codes "begin" ∷ []) (codes "line 7 missing disk")
    ∷ ends_with (codes "sanlock 1" ∷ codes "time 0 700000 100 0 300" ∷ []) (codes "line 2 limit io")
    ∷ []

-- Events that are refused, after a header that is read.
abbrev pub refused_events : List LastLine
refused_events =
    ends_with (one_machine ++ codes "pass 1000000000000000" ∷ []) (codes "line 10 limit moment")
    ∷ ends_with (one_machine ++ codes "pass 999999999999999" ∷ []) (codes "line 10 premise watchdog")
    ∷ ends_with (one_machine ++ codes "land 1 1" ∷ []) (codes "line 10 missing call")
    ∷ ends_with (one_machine ++ codes "test 2" ∷ []) (codes "line 10 missing machine")
    ∷ ends_with (codes "sanlock 1" ∷ codes "time 100 600 100 0 300" ∷ codes "hosts 1" ∷ codes "ids 2" ∷ codes "" ∷ codes "# a comment" ∷ codes "disk /d 4" ∷ codes "lockspace ls /d 0" ∷ codes "resource ls r /d 1048576" ∷ codes "session 1 ls 1 a" ∷ codes "begin" ∷ codes "wake 1" ∷ codes "bad" ∷ []) (codes "line 13 syntax")
    ∷ []

-- Tears: one that leaves the old record or the new one spells a record, and is refused.
abbrev pub tears : List LastLine
tears =
    ends_with (reset_in_phase2 ++ codes "tear 1 4 39" ∷ codes "command 2 acquire -r ls:r:/d:1048576 -p 9" ∷ codes "do 2 1" ∷ []) (codes "line 16 premise torn")
    ∷ ends_with (reset_in_phase2 ++ codes "tear 1 4 512" ∷ codes "command 2 acquire -r ls:r:/d:1048576 -p 9" ∷ codes "do 2 1" ∷ []) (codes "line 16 premise torn")
    ∷ ends_with (reset_in_phase2 ++ codes "tear 1 4 40" ∷ codes "command 2 acquire -r ls:r:/d:1048576 -p 9" ∷ codes "do 2 1" ∷ []) (codes "end events 8 calls 5 grants 0 refusals 1 conflicts 0")
    ∷ []
