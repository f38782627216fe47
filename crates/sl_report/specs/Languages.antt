-- What of the schedules' language a program reads. The language of all schedules is the promise; a program that reads less of it says so
-- by a value of this type, and all that is said of schedules and reports is said of whatever language it reads. What a line says is always
-- read by the forms of all schedules; a narrower language then leaves out some of it.
use Rattle.sl_report.specs.HeaderLines.{HeaderLine}
use Rattle.sl_run.specs.Worlds.{Program, whole_program}
use Rattle.sl_run.specs.declared.event.Event.{Event}
use Rattle.sl_run.specs.declared.event.Refusal.{Refusal}
use Rattle.std.specs.Prelude.{Bool, List, None, Option, Some, if◌then◌else◌, true, [], ℕ, ◌==◌, ◌||◌, ◌∷◌}

-- A language of schedules.
pub record Language : Type 0 where
  -- digest and commands
  pub program : Program
  -- lines that say nothing
  pub skips : List ℕ → Bool
  -- what is taken of a header line that was read, or of none
  pub header_line : Option HeaderLine → Option HeaderLine
  -- how many lines of a rank the header must have, and may have at most, if there is a most
  pub least : ℕ → ℕ
  pub most : ℕ → Option ℕ
  -- what is taken of an event that was read, or of none
  pub event : Option Event → Option Event
  -- how a refusal is told
  pub told : Refusal → Refusal

-- An empty line or a comment.
abbrev pub is_skipped : List ℕ → Bool
is_skipped [] = true
is_skipped (c ∷ cs) = c == 35

-- The geometry, retries, clocks, resources and sessions may be left out.
abbrev pub least_lines : ℕ → ℕ
least_lines k = if k == 4 || k == 5 || k == 6 || k == 9 || k == 10 then 0 else 1

-- Any number of clocks and sessions, 8 disks and lockspaces, 256 resources, one of the others.
abbrev pub most_lines : ℕ → Option ℕ
most_lines k =
    if k == 6 || k == 10 then None
    else (if k == 7 || k == 8 then Some 8
    else (if k == 9 then Some 256 else Some 1))

-- The language of all schedules, of this program.
abbrev pub language_of : Program → Language
language_of p =
    record {
      program = p;
      skips = is_skipped;
      header_line = (λ l. l);
      least = least_lines;
      most = most_lines;
      event = (λ e. e);
      told = (λ r. r);
    }

-- The language of the whole program.
abbrev pub whole_language : Language
whole_language = language_of whole_program
