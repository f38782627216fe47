-- A schedule followed, each daemon doing what is due.
use Rattle.sl_report.specs.Languages.{Language}
use Rattle.sl_report.specs.DueRuns.{effects_of}
use Rattle.sl_report.specs.Schedules.{At_end, At_line, Ending, EventLine, Follows, Header_read, NumberedLine, event_lines_of, many_asks, numbered_lines, read_header}
use Rattle.sl_run.specs.Inputs.{asking}
use Rattle.sl_run.specs.EventChanges.{happens}
use Rattle.sl_run.specs.Refusals.{refusal_of}
use Rattle.sl_run.specs.Runs.{Happening, world_after}
use Rattle.sl_run.specs.Worlds.{World, world_with}
use Rattle.sl_run.specs.declared.event.Event.TheVariants.{GiveAsk}
use Rattle.sl_run.specs.declared.event.Event.{Event}
use Rattle.sl_run.specs.declared.header.Header.{Header}
use Rattle.std.specs.Prelude.{Err, List, None, Ok, Some, suc, zero, [], ℕ, ◌++◌, ◌∷◌, ◌≡◌}

-- Each event's effects are those that are due in the world before it.
abbrev pub DoesWhatIsDue : World → List Happening → Type 0
DoesWhatIsDue w [] = Unit {0}
DoesWhatIsDue w (x ∷ xs) = (x.1 ≡ effects_of w x.0) × DoesWhatIsDue (happens w x.0 x.1) xs

-- The asks that are due, one after another, so many at most.
abbrev pub asks_run : ℕ → World → List Happening
asks_run zero w = []
asks_run (suc n) w =
    elim (asking w) [
      | None ↦ []
      | Some m ↦ (GiveAsk m, effects_of w (GiveAsk m)) ∷ asks_run n (happens w (GiveAsk m) (effects_of w (GiveAsk m)))
    ]

-- An event with the asks that follow it.
abbrev pub event_run : World → Event → List Happening
event_run w e = (e, effects_of w e) ∷ asks_run many_asks (happens w e (effects_of w e))

-- The happenings up to the first line that is refused.
abbrev pub followed_run : World → List EventLine → List Happening
followed_run w [] = []
followed_run w (l ∷ ls) =
    elim l.1 [
      | Err r ↦ []
      | Ok e ↦ elim (refusal_of w e) [ Some r ↦ [] | None ↦ event_run w e ++ followed_run (world_after w (event_run w e)) ls ]
    ]

-- How it ends.
abbrev pub followed_end : World → List EventLine → Ending
followed_end w [] = At_end
followed_end w (l ∷ ls) =
    elim l.1 [
      | Err r ↦ At_line l.0 r
      | Ok e ↦ elim (refusal_of w e) [ Some r ↦ At_line l.0 r | None ↦ followed_end (world_after w (event_run w e)) ls ]
    ]

-- The lines spell a header and events, and each event may happen when its line comes, where each daemon does what is due.
pub record IsAccepted (lang : Language) (source : List ℕ) : Type 0 where
  pub header : Header
  pub rest : List NumberedLine
  pub run : List Happening
  pub is_read : read_header lang [] 1 (numbered_lines source) ≡ Header_read header rest
  pub follows : Follows (world_with lang.program header) (event_lines_of lang header rest) run At_end
  pub does : DoesWhatIsDue (world_with lang.program header) run
