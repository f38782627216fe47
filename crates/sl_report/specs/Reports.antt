-- What is written for an event, and the counts of the last line.
--
-- Of each step: its effects in the order of their classes, but not the reply to an ask; then the reply to lvmlockd's line, if it has come
-- (`step_lines`). Behind all steps of a `test`, whether it held (`test_lines`). The counts are of events but for asks, calls, grants,
-- replies that are not ok, and grants that left a conflict.
use Rattle.sl_run.specs.Conflicts.{Holding, has_conflict, holding, world_uses}
use Rattle.sl_run.specs.EventChanges.{happens, number_of_step}
use Rattle.sl_run.specs.Inputs.{input_of, is_ask, machine_of}
use Rattle.sl_run.specs.Locks.{Told, locks_after, told_effects}
use Rattle.sl_run.specs.Runs.{Happening}
use Rattle.sl_run.specs.Worlds.{Machine, World, machine_at, reading_now}
use Rattle.sl_run.specs.declared.event.Event.TheVariants.{Test}
use Rattle.sl_run.specs.declared.event.Event.{Event}
use Rattle.sl_text.specs.Forms.{spaced}
use Rattle.sl_trace.specs.WatchdogConnections.{test_holds}
use Rattle.sl_trace.specs.EffectTexts.{effect_lines, is_ok_reply, machine_line}
use Rattle.sl_trace.specs.Traces.{held_after, is_ended_by}
use Rattle.sl_trace.specs.declared.effects.Effects.{Effects}
use Rattle.sl_trace.specs.declared.effects.Grant.{Grant}
use Rattle.sl_trace.specs.declared.input.Input.{Input}
use Rattle.std.specs.Option.{option_map_or}
use Rattle.std.specs.Prelude.{Bool, List, None, Option, Some, bytes_eq, codes, count_by, decimal, false, filter, flat_map, if◌then◌else◌, length, map, not, sum_by, take, true, [], ℕ, ◌++◌, ◌+◌, ◌==◌, ◌∷◌}

-- The words of a test.
abbrev pub test_words : Bool → List (List ℕ)
test_words true = codes "test" ∷ codes "ok" ∷ []
test_words false = codes "test" ∷ codes "failed" ∷ []

-- The line of a test.
abbrev pub test_lines : World → Event → List (List ℕ)
test_lines w e =
    elim e [
      | Test m ↦ elim (machine_at w m) [ None ↦ [] | Some a ↦ machine_line m (test_words (test_holds a.connections (reading_now a))) ∷ [] ]
      | _ ↦ []
    ]

-- What is told of a step: its effects but for the reply to an ask, and the reply to an lvm line.
pub record StepTold : Type 0 where
  pub effects : Effects
  pub line : Told

-- What is told of a step of a machine's daemon, or of what the machine itself does.
abbrev pub step_told : Option Input → Effects → Machine → StepTold
step_told None fx a = record { effects = fx; line = None }
step_told (Some i) fx a =
    record { effects = told_effects (number_of_step a) i fx a.locks; line = (locks_after (number_of_step a) i fx a.locks).1 }

-- What is told of an event in the world before it.
abbrev pub event_told : World → Event → List Effects → List StepTold
event_told w e fxs =
    map (λ fx. option_map_or (step_told (input_of w e) fx) (machine_at w (machine_of e)) (record { effects = fx; line = None })) fxs

-- The line of the reply to an lvm line.
abbrev pub told_lines : ℕ → Told → List (List ℕ)
told_lines m None = []
told_lines m (Some p) = machine_line m (codes "reply" ∷ decimal p.0 ∷ p.1 ∷ []) ∷ []

-- The lines of a step.
abbrev pub step_lines : ℕ → StepTold → List (List ℕ)
step_lines m t = effect_lines m t.effects ++ told_lines m t.line

-- The lines of an event in the world before it, with the effects of its steps.
abbrev pub event_lines : World → Event → List Effects → List (List ℕ)
event_lines w e fxs = flat_map (step_lines (machine_of e)) (event_told w e fxs) ++ test_lines w e

-- What the last line counts.
pub record Counts : Type 0 where
  pub events : ℕ
  pub calls : ℕ
  pub grants : ℕ
  pub refusals : ℕ
  pub conflicts : ℕ

-- All counts at 0.
abbrev pub no_counts : Counts
no_counts = record { events = 0; calls = 0; grants = 0; refusals = 0; conflicts = 0 }

-- What the other machines hold, and what lingers of what they held.
abbrev pub held_by_others : World → ℕ → List Holding
held_by_others w m = filter (λ h. not (h.machine == m)) (world_uses w)

-- How many of these grants leave a conflict, given in turn.
abbrev pub conflicts_after : List Holding → ℕ → List Grant → List Grant → ℕ
conflicts_after others m held [] = 0
conflicts_after others m held (g ∷ gs) =
    (if has_conflict (others ++ map (holding m) (held ++ g ∷ [])) then 1 else 0) + conflicts_after others m (held ++ g ∷ []) gs

-- The conflicts of a machine's steps, one after another, with what it held before them.
abbrev pub conflicts_of : List Holding → ℕ → List Grant → List Effects → ℕ
conflicts_of others m held [] = 0
conflicts_of others m held (fx ∷ fxs) =
    conflicts_after others m (filter (λ g. not (is_ended_by fx.ends g)) held) fx.grants + conflicts_of others m (held_after fx held) fxs

-- Whether the text of a reply begins with "ok".
abbrev pub is_ok_text : List ℕ → Bool
is_ok_text text = bytes_eq (take 2 text) (codes "ok")

-- The refusals that are told of a step.
abbrev pub refusals_told : StepTold → ℕ
refusals_told t =
    let fx : Effects = t.effects in
    count_by (λ a. not (is_ok_reply a.reply)) fx.replies + option_map_or (λ p. if is_ok_text p.1 then 0 else 1) t.line 0

-- The counts with those of an event in the world before it.
unfoldable pub count_event : World → Event → List Effects → Counts → Counts
count_event w e fxs k =
    let m : ℕ = machine_of e in
    record {
      events = if is_ask e then k.events else k.events + 1;
      calls = k.calls + sum_by (λ fx. length fx.calls) fxs;
      grants = k.grants + sum_by (λ fx. length fx.grants) fxs;
      refusals = k.refusals + sum_by refusals_told (event_told w e fxs);
      conflicts = k.conflicts + conflicts_of (held_by_others w m) m (option_map_or (λ a. a.holdings) (machine_at w m) []) fxs;
    }

-- The last line of a whole report.
abbrev pub end_line : Counts → List ℕ
end_line k =
    spaced (codes "end" ∷ codes "events" ∷ decimal k.events ∷ codes "calls" ∷ decimal k.calls ∷ codes "grants" ∷ decimal k.grants
    ∷ codes "refusals" ∷ decimal k.refusals ∷ codes "conflicts" ∷ decimal k.conflicts ∷ [])

-- The lines of the run and its counts.
abbrev pub run_lines : World → List Happening → List (List ℕ)
run_lines w [] = []
run_lines w (x ∷ xs) = event_lines w x.0 x.1 ++ run_lines (happens w x.0 x.1) xs

-- The counts of a run.
abbrev pub run_counts : World → Counts → List Happening → Counts
run_counts w k [] = k
run_counts w k (x ∷ xs) = run_counts (happens w x.0 x.1) (count_event w x.0 x.1 k) xs
