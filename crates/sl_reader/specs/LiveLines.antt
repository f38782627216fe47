-- What a line of a live script says, and why it is refused.
use Rattle.sl_trace.specs.Jobs.{process_named}
use Rattle.sl_reader.specs.declared.live_lines.LiveLine.TheVariants.{Command, Exits, Locks, Post, Refused}
use Rattle.sl_reader.specs.declared.live_lines.LiveLine.{LiveLine}
use Rattle.sl_reader.specs.Scopes.{is_elsewhere}
use Rattle.sl_reader.specs.declared.scope.Scope.{Scope}
use Rattle.sl_area.specs.AreaSizes.{layout_of}
use Rattle.sl_report.specs.Languages.{whole_language}
use Rattle.sl_report.specs.ReadLines.{event_in}
use Rattle.sl_report.specs.Schedules.{NumberedLine, line_refusal}
use Rattle.sl_run.specs.Refusals.{is_for_locks}
use Rattle.sl_run.specs.Worlds.{first_that}
use Rattle.sl_run.specs.declared.event.Event.TheVariants.{ExitOf, GiveCommand, GiveLvm}
use Rattle.sl_run.specs.declared.event.Event.{Event}
use Rattle.sl_run.specs.declared.event.Refusal.TheVariants.{MissingLvm, MissingMachine, Syntax}
use Rattle.sl_run.specs.declared.event.Refusal.{Refusal}
use Rattle.sl_trace.specs.CommandForms.{command_in, forms}
use Rattle.sl_trace.specs.declared.command.Command.{Command as CommandOf}
use Rattle.sl_words.specs.Words.{choose, some_is}
use Rattle.std.specs.Option.{option_and_then}
use Rattle.std.specs.Prelude.{
  Bool,
  Err,
  List,
  None,
  Ok,
  Option,
  Result,
  Some,
  bytes_eq,
  codes,
  drop,
  false,
  length,
  nat_lt,
  slice_index,
  take,
  true,
  [],
  ℕ,
  ◌&&◌,
  ◌++◌,
  ◌==◌,
  ◌∷◌,
}

-- ---- what a line spells

-- Whether the line begins with this verb and a space.
abbrev pub has_verb : List ℕ → List ℕ → Bool
has_verb verb line = nat_lt (length verb) (length line) && bytes_eq (take (length verb) line) verb && slice_index line (length verb) == 32

-- The line with another verb in place of this one, if it has this one.
abbrev pub with_verb : List ℕ → List ℕ → List ℕ → Option (List ℕ)
with_verb verb other line = choose (has_verb verb line) (other ++ drop (length verb) line)

-- What a schedule's event is in a live script: the text of `command`, or the line for lvmlockd.
abbrev pub command_of : Event → Option LiveLine
command_of (GiveCommand m text) = Some (Command m text)
command_of (GiveLvm m line) = Some (Locks m line)
command_of e = None

-- .. behind `post`.
abbrev pub post_of : Event → Option LiveLine
post_of (GiveCommand m text) = Some (Post m text)
post_of e = None

-- .. behind `exits`.
abbrev pub exits_of : Event → Option LiveLine
exits_of (ExitOf m p) = Some (Exits m p)
exits_of e = None

abbrev pub schedule_event : Scope → List ℕ → Option Event
schedule_event s line = event_in whole_language s.machines s.geometry.sector line

-- `post` is read as `command` is, and `exits` as `exit`; no other line of a schedule is one of a live script.
abbrev pub live_line_in : Scope → List ℕ → Option LiveLine
live_line_in s line =
    elim (with_verb (codes "post") (codes "command") line) [
      | Some text ↦ option_and_then post_of (schedule_event s text)
      | None ↦ elim (with_verb (codes "exits") (codes "exit") line) [
        | Some text ↦ option_and_then exits_of (schedule_event s text)
        | None ↦ option_and_then command_of (schedule_event s line)
      ]
    ]

-- ---- why it is refused

-- The command that a text is.
abbrev pub text_command : Scope → List ℕ → Result CommandOf ℕ
text_command s text = command_in (forms (layout_of s.geometry)) text

-- The process that it names.
abbrev pub process_in : Scope → List ℕ → Option ℕ
process_in s text = elim (text_command s text) [ Ok c ↦ process_named c | Err column ↦ None ]

-- Whether that is a script's: no child of the run, and not lvmlockd.
abbrev pub is_of_script : Scope → List ℕ → Bool
is_of_script s text = some_is (λ p. nat_lt p 1000000) (process_in s text)

abbrev pub is_of_locks : Scope → List ℕ → Bool
is_of_locks s text = is_for_locks (text_command s text)

-- The first refusal that fits a text, or another line.
abbrev pub text_refusal : Scope → ℕ → List ℕ → Option Refusal
text_refusal s m text =
    first_that ((is_of_script s text, Syntax) ∷ (is_elsewhere s m, MissingMachine) ∷ (is_of_locks s text, MissingLvm) ∷ [])

abbrev pub machine_refusal : Scope → ℕ → Option Refusal
machine_refusal s m = first_that ((is_elsewhere s m, MissingMachine) ∷ [])

abbrev pub live_refusal : Scope → LiveLine → Option Refusal
live_refusal s (Command m text) = text_refusal s m text
live_refusal s (Post m text) = text_refusal s m text
live_refusal s (Locks m line) = machine_refusal s m
live_refusal s (Exits m p) = machine_refusal s m
live_refusal s (Refused number why) = Some why

-- What a line says, or why it is refused.
abbrev pub checked : Scope → Option LiveLine → Result LiveLine Refusal
checked s None = Err Syntax
checked s (Some l) = elim (live_refusal s l) [ Some why ↦ Err why | None ↦ Ok l ]

-- .. with its number; empty lines and comments say nothing.
abbrev pub live_line : Scope → NumberedLine → Option (ℕ × Result LiveLine Refusal)
live_line s l =
    elim (line_refusal l) [
      | Some why ↦ Some (l.number, Err why)
      | None ↦ elim (whole_language.skips l.text) [ true ↦ None | false ↦ Some (l.number, checked s (live_line_in s l.text)) ]
    ]
