-- What is written of a step, and what is counted of it.
use Rattle.sl_locks.specs.Replies.{told_as}
use Rattle.sl_locks.specs.declared.line_steps.StepTold.{StepTold}
use Rattle.sl_report.specs.Reports.{Counts, StepTold as ToldStep, refusals_told, test_words}
use Rattle.sl_trace.specs.EffectTexts.{machine_line}
use Rattle.std.specs.Prelude.{Bool, List, None, Option, Some, if◌then◌else◌, length, [], ℕ, ◌+◌, ◌<◌, ◌^◌, ◌∷◌}

-- A step as the definitions tell it.
abbrev pub told_view : StepTold → ToldStep
told_view t = record { effects = t.effects; line = told_as t.line }

-- The line of a test that came out so, if there was one.
abbrev pub tests_told : ℕ → Option Bool → List (List ℕ)
tests_told m None = []
tests_told m (Some holds) = machine_line m (test_words holds) ∷ []

-- The counts with those of a step of an event, or of an ask.
abbrev pub counts_with : Bool → StepTold → ℕ → Counts → Counts
counts_with ask t conflicts k =
    record {
      events = if ask then k.events else k.events + 1;
      calls = k.calls + length t.effects.calls;
      grants = k.grants + length t.effects.grants;
      refusals = k.refusals + refusals_told (told_view t);
      conflicts = k.conflicts + conflicts;
    }

-- The counts with an event of which nothing is told.
abbrev pub one_more : Counts → Counts
one_more k = record k { events = k.events + 1 }

-- Each count is one of 64 bits.
pub record AreCounted (k : Counts) : Type 0 where
  pub events : k.events < 2 ^ 64
  pub calls : k.calls < 2 ^ 64
  pub grants : k.grants < 2 ^ 64
  pub refusals : k.refusals < 2 ^ 64
  pub conflicts : k.conflicts < 2 ^ 64
