-- What the whole language may be played with.
use Rattle.sl_area.specs.AreaSizes.{layout_of}
use Rattle.sl_world_state.specs.SaneWorlds.{ReadsCommands}
use Rattle.sl_play.specs.Replays.{MayPlay, played_language}
use Rattle.sl_report.specs.OwedReports.{HeadersAreGood}
use Rattle.sl_report.specs.Languages.{language_of, whole_language}
use Rattle.sl_report.specs.Schedules.{Header_read, numbered_lines, read_header}
use Rattle.sl_run.specs.Headers.{IsHeader}
use Rattle.sl_run.specs.Worlds.{Program}
use Rattle.sl_run.specs.declared.header.Header.{Header}
use Rattle.sl_text.specs.Forms.{Form, as_bytes}
use Rattle.sl_trace.specs.CommandForms.{forms}
use Rattle.sl_trace.specs.declared.command.Command.{Command}
use Rattle.std.specs.Prelude.{List, codes, length, [], ℕ, ◌∷◌, ◌≡◌}

-- ---- headers

-- Each header that is read is one that a world may begin with, whatever commands its daemons read.
abbrev pub EachHeaderIsGood : Type 0
EachHeaderIsGood = (p : Program) → HeadersAreGood (language_of p)

-- The lines of a header with several of each, of large sectors, of areas with pairs.
abbrev pub full_header : List (List ℕ)
full_header =
    codes "sanlock 2" ∷ codes "# some of each" ∷ codes "time 1000 60000 10000 10 60000" ∷ codes "hosts 3" ∷ codes "ids 250" ∷ codes "geometry 4096 2"
    ∷ codes "lvm 8" ∷ codes "clock 1 500" ∷ codes "clock 3 0" ∷ codes "disk /d 4" ∷ codes "disk /e 64" ∷ codes "lockspace one /d 0" ∷ codes "lockspace two /e 0" ∷ []
    ∷ codes "resource one lease /d 2097152" ∷ codes "resource two lease /e 4194304" ∷ codes "session 1 one 1 host" ∷ codes "session 1 two 2 host"
    ∷ codes "session 2 one 250 other" ∷ codes "begin" ∷ []

-- The lines of a header with no more than must be.
abbrev pub least_header : List (List ℕ)
least_header =
    codes "sanlock 1" ∷ codes "time 1000 60000 10000 10 60000" ∷ codes "hosts 1" ∷ codes "ids 2" ∷ codes "disk /d 2" ∷ codes "lockspace one /d 0"
    ∷ codes "begin" ∷ []

-- These lines are read to their end, as this header.
abbrev pub IsReadAs : List (List ℕ) → Header → Type 0
IsReadAs lines h = read_header whole_language [] 1 (numbered_lines (as_bytes lines)) ≡ Header_read h []

-- The header of so many machines, clocks, disks, lockspaces, resources and sessions.
pub record Has (h : Header) (machines clocks disks lockspaces resources sessions : ℕ) : Type 0 where
  pub machines_are : h.machines ≡ machines
  pub clock_lines : length h.clocks ≡ clocks
  pub disk_lines : length h.disks ≡ disks
  pub lockspace_lines : length h.lockspaces ≡ lockspaces
  pub resource_lines : length h.resources ≡ resources
  pub session_lines : length h.sessions ≡ sessions

-- These lines are read as such a header.
abbrev pub IsRead : List (List ℕ) → ℕ → ℕ → ℕ → ℕ → ℕ → ℕ → Type 0
IsRead lines machines clocks disks lockspaces resources sessions = (h : Header) × IsReadAs lines h × Has h machines clocks disks lockspaces resources sessions

-- Both headers are read.
abbrev pub SomeHeadersAreRead : Type 0
SomeHeadersAreRead = IsRead full_header 3 2 2 2 2 3 × IsRead least_header 1 0 1 1 0 0

-- ---- commands

-- The commands of the whole language: all forms, at the header's layout.
abbrev pub whole_commands : Header → List (Form Command)
whole_commands h = forms (layout_of h.geometry)

-- What they read of a header that a world may begin with is a command of its layout.
abbrev pub CommandsAreRead : Type 0
CommandsAreRead = (h : Header) → IsHeader h → ReadsCommands whole_commands h

-- ---- both

-- A program whose daemons read these commands reads the whole language, and may play all of it.
pub record WholeLanguageMayPlay : Type 0 where
  pub whole : played_language whole_commands ≡ whole_language
  pub plays : MayPlay whole_commands
