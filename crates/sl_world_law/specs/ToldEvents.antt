-- What is told of an event, by what is kept before it.
use Rattle.sl_world_state.specs.Inputs.{input_in}
use Rattle.sl_world_state.specs.KeptWorld.{KeptState, MachineState, machine_in}
use Rattle.sl_world_state.specs.ShownWorlds.{Tells}
use Rattle.sl_run.specs.Conflicts.{Holding, conflicts, has_conflict, holding, lingering_holding, world_uses}
use Rattle.sl_run.specs.Inputs.{asking, machine_of}
use Rattle.sl_run.specs.Refusals.{may_happen}
use Rattle.sl_run.specs.Locks.{locks_after, told_effects}
use Rattle.sl_run.specs.Worlds.{World, lingers, machine_at}
use Rattle.sl_run.specs.declared.event.Event.TheVariants.{Test}
use Rattle.sl_run.specs.declared.event.Event.{Event}
use Rattle.sl_world_state.specs.SaneWorlds.{IsSane}
use Rattle.sl_run.specs.declared.header.Header.{Header}
use Rattle.sl_report.specs.Reports.{StepTold, conflicts_after, conflicts_of, event_told, held_by_others, test_lines, test_words}
use Rattle.sl_text.specs.Forms.{Form}
use Rattle.sl_time.specs.Times.{reading_of}
use Rattle.sl_trace.specs.WatchdogConnections.{test_holds}
use Rattle.sl_trace.specs.EffectTexts.{machine_line}
use Rattle.sl_trace.specs.declared.command.Command.{Command}
use Rattle.sl_trace.specs.declared.effects.Effects.{Effects}
use Rattle.sl_trace.specs.declared.effects.Grant.{Grant}
use Rattle.sl_trace.specs.declared.input.Input.{Input}
use Rattle.std.specs.List.{enumerate_from, list_any}
use Rattle.std.specs.Option.{option_map_or}
use Rattle.std.specs.Prelude.{Bool, List, None, Option, Some, false, filter, find, flat_map, if◌then◌else◌, is_some, map, not, option_map, true, [], ℕ, ◌++◌, ◌+◌, ◌==◌, ◌∷◌, ◌≡◌, ◌||◌}

-- ---- steps

-- A step of a machine's daemon, or what the machine itself does.
abbrev pub told_of : Option Input → Effects → MachineState → StepTold
told_of None fx s = record { effects = fx; line = None }
told_of (Some i) fx s = record { effects = told_effects s.next.job i fx s.locks; line = (locks_after s.next.job i fx s.locks).1 }

-- The step of an event.
abbrev pub told_in : KeptState → Event → Effects → StepTold
told_in k e fx = option_map_or (told_of (input_in k e) fx) (machine_in k (machine_of e)) (record { effects = fx; line = None })

-- ---- tests

-- Whether an event is a test that holds.
abbrev pub tested_in : KeptState → Event → Bool
tested_in k e =
    elim e [
      | Test m ↦ option_map_or (λ s. test_holds s.connections (reading_of s.clock)) (machine_in k m) false
      | _ ↦ false
    ]

-- What is written of a test that came out so.
abbrev pub tested_lines : Event → Bool → List (List ℕ)
tested_lines e holds = elim e [ Test m ↦ machine_line m (test_words holds) ∷ [] | _ ↦ [] ]

-- ---- conflicts

-- All holdings of machines, the first of them with this number.
abbrev pub holdings_from : ℕ → List MachineState → List Holding
holdings_from i ss = flat_map (λ p. map (holding p.0) p.1.held) (enumerate_from i ss)

-- All that lingers there at a moment.
abbrev pub lingering_from : ℕ → ℕ → ℕ → List MachineState → List Holding
lingering_from land moment i ss = flat_map (λ p. map (lingering_holding p.0) (filter (lingers land moment) p.1.lingering)) (enumerate_from i ss)

-- All by whose processes a resource may be written.
abbrev pub uses_in : KeptState → List Holding
uses_in k = holdings_from 1 k.machines ++ lingering_from k.header.timing.land k.moment 1 k.machines

-- Those of the other machines.
abbrev pub others_in : KeptState → ℕ → List Holding
others_in k m = filter (λ h. not (h.machine == m)) (uses_in k)

-- What a machine holds.
abbrev pub held_in : KeptState → ℕ → List Grant
held_in k m = option_map_or (λ s. s.held) (machine_in k m) []

-- How many of a step's grants leave a conflict, given in turn.
abbrev pub conflicts_in : KeptState → Event → Effects → ℕ
conflicts_in k e fx = conflicts_of (others_in k (machine_of e)) (machine_of e) (held_in k (machine_of e)) (fx ∷ [])

-- The same, where it is known whether there is a conflict among the uses before them.
abbrev pub clashes_after : Bool → List Holding → ℕ → List Grant → ℕ
clashes_after clash hs m [] = 0
clashes_after clash hs m (g ∷ gs) =
    let h : Holding = holding m g in
    let now : Bool = clash || list_any (conflicts h) hs in
    (if now then 1 else 0) + clashes_after now (hs ++ h ∷ []) m gs

-- ---- asks

-- The first machine with an ask that is due.
abbrev pub asking_in : KeptState → Option ℕ
asking_in k = option_map (λ p. p.0) (find (λ p. is_some p.1.locks.due) (enumerate_from 1 k.machines))

-- ---- what is told is kept

-- Of an event that may happen, with these effects.
pub record IsTold (w : World) (e : Event) (fx : Effects) (told : StepTold) (holds : Bool) (count : ℕ) : Type 0 where
  pub step : event_told w e (fx ∷ []) ≡ told ∷ []
  pub tests : test_lines w e ≡ tested_lines e holds
  pub conflicts : conflicts_of (held_by_others w (machine_of e)) (machine_of e) (option_map_or (λ a. a.holdings) (machine_at w (machine_of e)) []) (fx ∷ []) ≡ count

abbrev pub TellingIsKept : Type 0
TellingIsKept =
    (commands : Header → List (Form Command)) (k : KeptState) (w : World) → Tells k w → IsSane commands w → (e : Event) → may_happen w e ≡ true → (fx : Effects)
    → IsTold w e fx (told_in k e fx) (tested_in k e) (conflicts_in k e fx)

abbrev pub UsesAreKept : Type 0
UsesAreKept = (k : KeptState) (w : World) → Tells k w → world_uses w ≡ uses_in k

abbrev pub AsksAreKept : Type 0
AsksAreKept = (k : KeptState) (w : World) → Tells k w → asking w ≡ asking_in k

-- A use more is one test more: none conflicts with itself, and of two the first conflicts with the second where the second does with the first.
abbrev pub OneMoreConflict : Type 0
OneMoreConflict = (hs : List Holding) (h : Holding) → has_conflict (hs ++ h ∷ []) ≡ (has_conflict hs || list_any (conflicts h) hs)

-- So a step's conflicts are counted by a test for each grant.
abbrev pub ConflictsAreCounted : Type 0
ConflictsAreCounted =
    (others : List Holding) (m : ℕ) (held gs : List Grant)
    → conflicts_after others m held gs
    ≡ clashes_after (has_conflict (others ++ map (holding m) held)) (others ++ map (holding m) held) m gs

-- Where uses stand is no matter.
abbrev pub ConflictsOfParts : Type 0
ConflictsOfParts = (xs ys zs : List Holding) → has_conflict (xs ++ ys ++ zs) ≡ has_conflict (xs ++ zs ++ ys)
