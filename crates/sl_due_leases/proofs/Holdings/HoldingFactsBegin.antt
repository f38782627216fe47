-- The facts of holdings hold once a step has begun: by time alone nothing is held, granted or ended, and what is told to stop holds on.
use Rattle.sl_due_facts.proofs.Acts.EffectsKeep.{stopped}
use Rattle.sl_due_facts.proofs.Acts.LoopsKeep.{for_each_keeps, when_keeps}
use Rattle.sl_due_facts.specs.Acts.KeptByEffects.{ByEffects}
use Rattle.sl_due.specs.DueRecovery.{begin_recoveries, begin_recovery, begins_now, signal_and_refuse}
use Rattle.sl_due.specs.Steps.{begin_step, seen}
use Rattle.sl_due_leases.proofs.Holdings.HoldingsByEffects.{HoldsAt, upheld}
use Rattle.sl_due_leases.proofs.Holdings.HoldingsByLoops.{AnswersNoJob, stopped_held}
use Rattle.sl_due_leases.proofs.Holdings.StandsGrow.{stands_same}
use Rattle.sl_due_leases.specs.Holdings.HoldingLaws.{HoldingFactsBegin}
use Rattle.sl_words.proofs.Numbers.{refl_le}
use Rattle.sl_trace.specs.Sessions.{is_joined, joined_after, present_sessions, recovery_of, removed_after}
use Rattle.sl_trace.specs.Sightings.{counted_over, counts_over}
use Rattle.sl_trace.specs.declared.session.Session.{Session}
use Rattle.sl_due_facts.specs.Facts.HeardCall.{IsOpen}
use Rattle.sl_due_facts.specs.Facts.HoldingFacts.{HoldingFacts}
use Rattle.sl_trace.specs.Traces.{Child, Setting, Submitted, Trace, child_after, children, first_child, held_by, holdings, is_ended_by, next_child, no_effects, spot_of_grant}
use Rattle.sl_trace.specs.declared.effects.Entry.{Entry}
use Rattle.sl_trace.specs.declared.effects.Grant.{Grant}
use Rattle.sl_trace.specs.declared.input.Input.TheVariants.{Wake}
use Rattle.sl_trace.specs.declared.input.Input.{Input}
use Rattle.sl_run_law.proofs.Sessions.CallOwners.{session_more}
use Rattle.sl_run_law.proofs.Sessions.MarksStay.{joined_more}
use Rattle.sl_words.proofs.CaseLaws.{none_some, true_is_false}
use Rattle.sl_words.proofs.WordLaws.{and_true}
use Rattle.sl_words.specs.Words.{choose}
use Rattle.std.proofs.Common.{ap, append-nil, inl, inr, refl, subst, sym, ◌∙◌}
use Rattle.sl_words.proofs.Options.{none_is, some_there}
use Rattle.std.specs.Prelude.{Bool, Contains, List, None, Option, Some, [], false, filter, is_none, is_some, length, map, not, true, ℕ, ◌&&◌, ◌+◌, ◌<◌, ◌∷◌, ◌≡◌, ◌≤◌}

-- ---- a step that has done nothing

abbrev pub fresh : ℕ → Trace → Trace
fresh now past = record { reading = now; input = Wake; effects = no_effects } ∷ past

pub none_ended : (gs : List Grant) → filter (λ g. not (is_ended_by [] g)) gs ≡ gs
none_ended [] = refl
none_ended (g ∷ gs) = ap (λ hs. g ∷ hs) (none_ended gs)

pub held_fresh : (now : ℕ) (past : Trace) → holdings (fresh now past) ≡ holdings past
held_fresh now past = append-nil (filter (λ g. not (is_ended_by [] g)) (holdings past)) ∙ none_ended (holdings past)

all_same : (ks : List Child) → map (child_after Wake) ks ≡ ks
all_same [] = refl
all_same (k ∷ ks) = ap (λ ys. k ∷ ys) (all_same ks)

pub children_fresh : (now : ℕ) (past : Trace) → children (fresh now past) ≡ children past
children_fresh now past = append-nil (map (child_after Wake) (children past)) ∙ all_same (children past)

none_removed : (o : Option ℕ) (b : Bool) (n : ℕ) → o ≡ None → (elim o as (λ z. Option ℕ) [ Some k ↦ Some k | None ↦ choose (b && false) n ]) ≡ None
none_removed None true n is = refl
none_removed None false n is = refl
none_removed (Some k) b n is = absurd (none_some k (sym is))

joined_fresh : (now : ℕ) (past : Trace) (s : Session) → is_joined past s ≡ true → is_joined (fresh now past) s ≡ true
joined_fresh now past s joined =
    let v = and_true (is_some (joined_after past s)) (is_none (removed_after past s)) joined in
    let j = some_there (joined_after past s) v.0 in
    let e : Entry = record { reading = now; input = Wake; effects = no_effects } in
    ap (λ o. is_some o && is_none (removed_after (e ∷ past) s)) (joined_more e past s j.0 j.1)
    ∙ ap (λ o. is_none o) (none_removed (removed_after past s) (is_some (joined_after past s)) (length past + 1) (none_is (removed_after past s) v.1))

still_counted : (st : Setting) (now : ℕ) (past : Trace) (s : Session) (j n : ℕ) → counted_over st past s j n ≡ true → counted_over st (fresh now past) s j n ≡ true
still_counted st now past s j n is = by (counts_over st (fresh now past) s j n) where
  by : (b : Bool) → (elim b as (λ z. Bool) [ true ↦ true | false ↦ counted_over st past s j n ]) ≡ true
  by true = refl
  by false = is

no_heard : (t : Trace) (m : Submitted) → IsOpen t None m → m.answer ≡ None
no_heard t m (inl none) = none
no_heard t m (inr h) = absurd (none_some m.call.number h.0)

fresh_held : (st : Setting) (now : ℕ) (past : Trace) → HoldingFacts st past None → HoldingFacts st (fresh now past) None
fresh_held st now past h =
    upheld st past (fresh now past) None None (record {
      inside = λ g there. subst (λ gs. Contains gs g) (held_fresh now past) there;
      fewer = λ q path offset. subst (λ gs. length (held_by gs q path offset) ≤ length (held_by (holdings past) q path offset)) (sym (held_fresh now past)) (refl_le (length (held_by (holdings past) q path offset)));
      sessions = λ n s its. session_more st (record { reading = now; input = Wake; effects = no_effects }) past n s its;
      joined = λ g s there its name joined. joined_fresh now past s joined;
      further = subst (λ ks. next_child past ≤ first_child + length ks) (sym (children_fresh now past)) (refl_le (next_child past));
      given = λ old k there.
          subst (λ ks. k.process < first_child + length ks) (sym (children_fresh now past)) (old k (subst (λ ks. Contains ks k) (children_fresh now past) there));
      stands = λ g s there its exclusive stands.
          stands_same st past (fresh now past) None None s (spot_of_grant g) g.lver refl refl (λ j n is. still_counted st now past s j n is) (λ m inside opens. inl (no_heard (fresh now past) m opens)) stands;
    }) h

-- ---- the recoveries that begin

pub wake_effects : ByEffects (λ z. z.input ≡ Wake)
wake_effects =
    record {
      ends = λ x e h. h;
      signals = λ x p s h. h;
      moves = λ x m h. h;
      grants = λ x g h. h;
      starts = λ x s h. h;
      replies = λ x j r h. h;
      calls = λ x s path p o op has h. h;
    }

pub waking_answers_none : (past : Trace) (i : Input) → i ≡ Wake → AnswersNoJob past i
waking_answers_none past i wake n w m told there number = absurd (true_is_false (ap (λ k. is_wake k) (sym wake ∙ told))) where
  is_wake : Input → Bool
  is_wake Wake = true
  is_wake k = false

pub holding_facts_begin : HoldingFactsBegin
unfolding begin_recoveries begin_recovery
holding_facts_begin st past e follows whole =
    (for_each_keeps (λ z. HoldsAt z × (z.input ≡ Wake)) (present_sessions st (seen (begin_step st past e.reading))) begin_recovery (begin_step st past e.reading)
    (λ s there y h. when_keeps (λ z. HoldsAt z × (z.input ≡ Wake)) (begins_now (seen y) (recovery_of y.setting (seen y) s)) (signal_and_refuse s None) y
    (λ begins k. (stopped_held y s None (waking_answers_none y.past y.input k.1) k.0, stopped (λ z. z.input ≡ Wake) wake_effects y s None k.1)) h)
    (fresh_held st e.reading past whole.facts.holdings, refl)).0
