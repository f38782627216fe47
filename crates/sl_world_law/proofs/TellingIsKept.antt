-- What is told of an event is a matter of what is kept.
use Rattle.sl_world_state.specs.KeptWorld.{KeptState, MachineState}
use Rattle.sl_world_state.specs.SaneWorlds.{IsSane}
use Rattle.sl_world_state.specs.ShownWorlds.{Tells, shown}
use Rattle.sl_world_law.proofs.AllowedEvents.{allowed, machine_found}
use Rattle.sl_world_law.proofs.GivenInputs.{inputs_are_kept}
use Rattle.sl_world_law.proofs.Lookups.{machine_shown}
use Rattle.sl_world_law.proofs.WholeEvents.{runs_then}
use Rattle.sl_report.specs.Reports.{conflicts_of, step_told, test_lines, test_words}
use Rattle.sl_run.specs.Conflicts.{Holding, holding, lingering_holding}
use Rattle.sl_run.specs.Refusals.{event_tests, may_happen}
use Rattle.sl_run.specs.Inputs.{input_of, machine_of}
use Rattle.sl_run.specs.EventChanges.{number_of_step}
use Rattle.sl_run.specs.Locks.{locks_after, told_effects}
use Rattle.sl_run.specs.Worlds.{Daemon, Lingering, Machine, World, lingers, machine_at, next_numbers}
use Rattle.sl_run.specs.declared.event.Event.TheVariants.{Test}
use Rattle.sl_run.specs.declared.event.Event.{Event}
use Rattle.sl_run.specs.declared.event.Refusal.TheVariants.{MissingUp}
use Rattle.sl_run.specs.declared.header.Header.{Header}
use Rattle.sl_text.specs.Forms.{Form}
use Rattle.sl_time.specs.Times.{reading_of}
use Rattle.sl_trace.specs.WatchdogConnections.{test_holds}
use Rattle.sl_trace.specs.EffectTexts.{machine_line}
use Rattle.sl_trace.specs.declared.command.Command.{Command}
use Rattle.sl_trace.specs.declared.effects.Effects.{Effects}
use Rattle.sl_trace.specs.declared.input.Input.{Input}
use Rattle.sl_words.proofs.CaseLaws.{one_value}
use Rattle.sl_world_law.specs.ToldEvents.{AsksAreKept, TellingIsKept, UsesAreKept, holdings_from, lingering_from, tested_in, tested_lines, told_in, told_of}
use Rattle.std.proofs.Common.{ap, ap₂, refl, sym, ◌∙◌}
use Rattle.std.specs.List.{enumerate_from}
use Rattle.std.specs.Option.{option_map_or}
use Rattle.std.specs.Prelude.{Bool, List, None, Option, Some, cond, false, filter, find, flat_map, is_some, map, not, option_map, true, [], ℕ, ◌++◌, ◌+◌, ◌==◌, ◌∷◌, ◌≡◌}

-- ---- steps

number_is : (a : Machine) (d : Daemon) → a.daemon ≡ Some d → number_of_step a ≡ (next_numbers a).job
number_is a d runs =
    ap (λ (o : Option Daemon). number_of_step (record a { daemon = o })) runs ∙ sym (ap (λ (o : Option Daemon). (next_numbers (record a { daemon = o })).job) runs)

own_told : (h : Header) (fx : Effects) (a : Machine) → step_told None fx a ≡ told_of None fx (shown h a)
own_told h fx a = refl

given_told : (h : Header) (i : Input) (fx : Effects) (a : Machine) (d : Daemon) → a.daemon ≡ Some d → step_told (Some i) fx a ≡ told_of (Some i) fx (shown h a)
unfolding shown
given_told h i fx a d runs = ap (λ n. record { effects = told_effects n i fx a.locks; line = (locks_after n i fx a.locks).1 }) (number_is a d runs)

told_by : (h : Header) (fx : Effects) (o : Option Input) (q : Option Machine) → ((a : Machine) → q ≡ Some a → step_told o fx a ≡ told_of o fx (shown h a))
    → option_map_or (step_told o fx) q (record { effects = fx; line = None }) ≡ option_map_or (told_of o fx) (option_map (shown h) q) (record { effects = fx; line = None })
told_by h fx o None same = refl
told_by h fx o (Some a) same = same a refl

steps_told : (commands : Header → List (Form Command)) (k : KeptState) (w : World) → Tells k w → IsSane commands w → (e : Event) → may_happen w e ≡ true → (fx : Effects)
    → option_map_or (step_told (input_of w e) fx) (machine_at w (machine_of e)) (record { effects = fx; line = None }) ≡ told_in k e fx
steps_told commands k w t is e may fx =
    told_by w.header fx (input_of w e) (machine_at w (machine_of e)) (λ a at. here a at (input_of w e) refl)
    ∙ ap₂ (λ o q. option_map_or (told_of o fx) q (record { effects = fx; line = None })) (inputs_are_kept commands k w t is e may) (sym (machine_shown k w t (machine_of e)))
  where
    here : (a : Machine) → machine_at w (machine_of e) ≡ Some a → (o : Option Input) → input_of w e ≡ o → step_told o fx a ≡ told_of o fx (shown w.header a)
    here a at None gives = own_told w.header fx a
    here a at (Some i) gives =
        let r = runs_then commands w is e may i gives in
        given_told w.header i fx a r.daemon (ap (λ (x : Machine). x.daemon) (one_value a r.before (machine_at w (machine_of e)) at r.was) ∙ r.ran)

-- ---- tests

test_found : (w : World) (m : ℕ) → may_happen w (Test m) ≡ true → (a : Machine) × (machine_at w m ≡ Some a)
unfolding event_tests
test_found w m may = let a = machine_found w m (λ b. (not b.up, MissingUp) ∷ []) (allowed w (Test m) may) in (a.0, a.1)

shown_test : (h : Header) (a : Machine) → test_holds (shown h a).connections (reading_of (shown h a).clock) ≡ test_holds a.connections (reading_of a.clock)
unfolding shown
shown_test h a = refl

tests_told : (k : KeptState) (w : World) → Tells k w → (e : Event) → may_happen w e ≡ true → test_lines w e ≡ tested_lines e (tested_in k e)
tests_told k w t (Test m) may =
    let a = test_found w m may in
    ap (λ (o : Option Machine). elim o as (λ z. List (List ℕ)) [ None ↦ [] | Some b ↦ machine_line m (test_words (test_holds b.connections (reading_of b.clock))) ∷ [] ]) a.1
    ∙ ap (λ b. machine_line m (test_words b) ∷ [])
    (sym (ap (λ (o : Option MachineState). option_map_or (λ (s : MachineState). test_holds s.connections (reading_of s.clock)) o false)
    (machine_shown k w t m ∙ ap (option_map (shown w.header)) a.1) ∙ shown_test w.header a.0))
tests_told k w t e may = refl

-- ---- uses

shown_held : (h : Header) (a : Machine) → (shown h a).held ≡ a.holdings
unfolding shown
shown_held h a = refl

shown_lingering : (h : Header) (a : Machine) → (shown h a).lingering ≡ a.lingering
unfolding shown
shown_lingering h a = refl

all_held : (h : Header) (i : ℕ) (xs : List Machine) → flat_map (λ p. map (holding p.0) p.1.holdings) (enumerate_from i xs) ≡ holdings_from i (map (shown h) xs)
all_held h i [] = refl
all_held h i (x ∷ xs) = ap₂ (λ gs hs. map (holding i) gs ++ hs) (sym (shown_held h x)) (all_held h (i + 1) xs)

all_lingers : (h : Header) (land moment i : ℕ) (xs : List Machine)
    → flat_map (λ p. map (lingering_holding p.0) (filter (lingers land moment) p.1.lingering)) (enumerate_from i xs) ≡ lingering_from land moment i (map (shown h) xs)
all_lingers h land moment i [] = refl
all_lingers h land moment i (x ∷ xs) =
    ap₂ (λ (ls : List Lingering) hs. map (lingering_holding i) (filter (lingers land moment) ls) ++ hs) (sym (shown_lingering h x)) (all_lingers h land moment (i + 1) xs)

pub uses_are_kept : UsesAreKept
uses_are_kept k w t =
    ap₂ (λ hs ls. hs ++ ls) (all_held w.header 1 w.machines ∙ ap (holdings_from 1) t.machines)
    (all_lingers w.header w.header.timing.land w.moment 1 w.machines
    ∙ ap₂ (λ (h : Header) ss. lingering_from h.timing.land w.moment 1 ss) t.header t.machines ∙ ap (λ n. lingering_from k.header.timing.land n 1 k.machines) t.moment)

held_here : (h : Header) (o : Option Machine) → option_map_or (λ (a : Machine). a.holdings) o [] ≡ option_map_or (λ (s : MachineState). s.held) (option_map (shown h) o) []
held_here h None = refl
held_here h (Some a) = sym (shown_held h a)

pub telling_is_kept : TellingIsKept
telling_is_kept commands k w t is e may fx =
    record {
      step = ap (λ x. x ∷ []) (steps_told commands k w t is e may fx);
      tests = tests_told k w t e may;
      conflicts = ap₂ (λ hs gs. conflicts_of (filter (λ (h : Holding). not (h.machine == machine_of e)) hs) (machine_of e) gs (fx ∷ [])) (uses_are_kept k w t)
          (held_here w.header (machine_at w (machine_of e)) ∙ ap (λ o. option_map_or (λ (s : MachineState). s.held) o []) (sym (machine_shown k w t (machine_of e))));
    }

-- ---- asks

shown_locks : (h : Header) (a : Machine) → (shown h a).locks ≡ a.locks
unfolding shown
shown_locks h a = refl

abbrev first_number : {A : Type 0} → (A → Bool) → List (ℕ × A) → Option ℕ
first_number p xs = option_map (λ x. x.0) (find (λ x. p x.1) xs)

asking_from : (h : Header) (i : ℕ) (xs : List Machine)
    → first_number (λ (a : Machine). is_some a.locks.due) (enumerate_from i xs) ≡ first_number (λ (s : MachineState). is_some s.locks.due) (enumerate_from i (map (shown h) xs))
asking_from h i [] = refl
asking_from h i (x ∷ xs) =
    by_first (is_some x.locks.due) (i, x) (find (λ p. is_some p.1.locks.due) (enumerate_from (i + 1) xs))
    ∙ ap₂ (λ b o. cond b (Some i) o) (ap (λ l. is_some l.due) (sym (shown_locks h x))) (asking_from h (i + 1) xs)
    ∙ sym (by_first (is_some (shown h x).locks.due) (i, shown h x) (find (λ p. is_some p.1.locks.due) (enumerate_from (i + 1) (map (shown h) xs))))
  where
    by_first : {A : Type 0} (b : Bool) (x : ℕ × A) (o : Option (ℕ × A)) → option_map (λ y. y.0) (cond b (Some x) o) ≡ cond b (Some x.0) (option_map (λ y. y.0) o)
    by_first true x o = refl
    by_first false x o = refl

pub asks_are_kept : AsksAreKept
asks_are_kept k w t = asking_from w.header 1 w.machines ∙ ap (λ ss. first_number (λ (s : MachineState). is_some s.locks.due) (enumerate_from 1 ss)) t.machines
