-- What is left of a schedule, from a moment of its run on: where it ends as it should, and where it breaks off.
--
-- A report is proved from its end. Whatever finishes behind an event finishes before it, with the event's lines in front, so a program that
-- goes from line to line never has to know the run that it makes.
use Rattle.sl_report.specs.OwedReports.{IsFrontOf}
use Rattle.sl_report.specs.Languages.{Language}
use Rattle.sl_report.specs.Reports.{Counts, count_event, event_lines, run_counts, run_lines}
use Rattle.sl_report.specs.Schedules.{At_end, At_line, Ending, EventLine, Follows, FollowsSoFar, NoAsk, last_lines}
use Rattle.sl_run.specs.Inputs.{asking}
use Rattle.sl_run.specs.EventChanges.{happens}
use Rattle.sl_run.specs.Refusals.{may_happen, refusal_of}
use Rattle.sl_run.specs.Runs.{AfterEachFront, Happening, HasSteps, IsRun, world_after}
use Rattle.sl_run.specs.Worlds.{World}
use Rattle.sl_run.specs.declared.event.Event.TheVariants.{GiveAsk}
use Rattle.sl_run.specs.declared.event.Event.{Event}
use Rattle.sl_run.specs.declared.event.Refusal.{Refusal}
use Rattle.sl_text.specs.Forms.{as_bytes}
use Rattle.sl_trace.specs.declared.effects.Effects.{Effects}
use Rattle.std.specs.Prelude.{Err, List, Ok, Some, true, [], ℕ, ◌++◌, ◌∷◌, ◌≡◌}

-- ---- what is left

-- Some happenings follow these lines from this world, at each moment of which this holds of the world, and their report behind what is
-- written is the whole.
pub record Finishes (P : World → Type 0) (lang : Language) (w : World) (k : Counts) (ls : List EventLine) (out total : List ℕ) (end : Ending) : Type 0 where
  pub xs : List Happening
  pub follows : Follows w ls xs end
  pub is_run : IsRun w xs
  pub fronts : AfterEachFront xs (λ now. P (world_after w now))
  pub text : total ≡ out ++ as_bytes (run_lines w xs ++ last_lines lang (run_counts w k xs) end)

-- Some happenings follow these lines so far, and what is written in the end begins what is written now with their lines.
pub record BreaksOff (P : World → Type 0) (w : World) (ls : List EventLine) (out total : List ℕ) : Type 0 where
  pub xs : List Happening
  pub follows : FollowsSoFar w ls xs
  pub is_run : IsRun w xs
  pub fronts : AfterEachFront xs (λ now. P (world_after w now))
  pub text : IsFrontOf total (out ++ as_bytes (run_lines w xs))

-- ---- from behind to before

-- Whatever is left behind is left before.
pub record LeadsBack (P : World → Type 0) (lang : Language) (w : World) (k : Counts) (ls : List EventLine) (out : List ℕ) (v : World) (n : Counts) (left : List EventLine) (now : List ℕ) : Type 0 where
  pub finishes : (total : List ℕ) (end : Ending) → Finishes P lang v n left now total end → Finishes P lang w k ls out total end
  pub breaks : (total : List ℕ) → BreaksOff P v left now total → BreaksOff P w ls out total

-- The event may happen, has its steps, and this holds of the world before it.
pub record MayCome (P : World → Type 0) (w : World) (e : Event) (fxs : List Effects) : Type 0 where
  pub may : may_happen w e ≡ true
  pub steps : HasSteps w e fxs
  pub holds : P w

-- A line's event, where no ask is due; an ask that is due, before any line.
abbrev pub EventsLeadBack : (World → Type 0) → Type 0
EventsLeadBack P =
    (lang : Language) (w : World) (k : Counts) (n : ℕ) (e : Event) (fxs : List Effects) (ls : List EventLine) (out : List ℕ) → NoAsk w → MayCome P w e fxs
    → LeadsBack P lang w k ((n, Ok e) ∷ ls) out (happens w e fxs) (count_event w e fxs k) ls (out ++ as_bytes (event_lines w e fxs))

abbrev pub AsksLeadBack : (World → Type 0) → Type 0
AsksLeadBack P =
    (lang : Language) (w : World) (k : Counts) (m : ℕ) (fxs : List Effects) (ls : List EventLine) (out : List ℕ) → asking w ≡ Some m → MayCome P w (GiveAsk m) fxs
    → LeadsBack P lang w k ls out (happens w (GiveAsk m) fxs) (count_event w (GiveAsk m) fxs k) ls (out ++ as_bytes (event_lines w (GiveAsk m) fxs))

-- One after another.
abbrev pub LeadingIsChained : (World → Type 0) → Type 0
LeadingIsChained P =
    (lang : Language) (w v u : World) (k n i : Counts) (ls left rest : List EventLine) (out now more : List ℕ)
    → LeadsBack P lang w k ls out v n left now → LeadsBack P lang v n left now u i rest more → LeadsBack P lang w k ls out u i rest more

-- ---- the end

pub record EndsFinish (P : World → Type 0) : Type 0 where
  -- where no line is left, the last line is; where one can't be read, or its event may not happen, its refusal is
  pub ends : (lang : Language) (w : World) (k : Counts) (out : List ℕ) → P w → NoAsk w → Finishes P lang w k [] out (out ++ as_bytes (last_lines lang k At_end)) At_end
  pub misread : (lang : Language) (w : World) (k : Counts) (n : ℕ) (why : Refusal) (ls : List EventLine) (out : List ℕ) → P w → NoAsk w
      → Finishes P lang w k ((n, Err why) ∷ ls) out (out ++ as_bytes (last_lines lang k (At_line n why))) (At_line n why)
  pub refused : (lang : Language) (w : World) (k : Counts) (n : ℕ) (e : Event) (why : Refusal) (ls : List EventLine) (out : List ℕ) → P w → NoAsk w → refusal_of w e ≡ Some why
      → Finishes P lang w k ((n, Ok e) ∷ ls) out (out ++ as_bytes (last_lines lang k (At_line n why))) (At_line n why)
  -- and a run may break off anywhere
  pub breaks : (w : World) (ls : List EventLine) (out total : List ℕ) → P w → IsFrontOf total out → BreaksOff P w ls out total
