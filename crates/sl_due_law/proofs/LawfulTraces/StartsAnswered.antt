-- A child's job is answered by the entry in which its start is.
use Rattle.sl_due_facts.proofs.Acts.LoopsKeep.{for_each_keeps, when_keeps}
use Rattle.sl_due_facts.proofs.Acts.StepsKeep.{Fixed, due_is_of}
use Rattle.sl_due_facts.proofs.Acts.TracesKeep.{due_is_seen}
use Rattle.sl_due_facts.specs.Acts.TraceSoFar.{entry_of}
use Rattle.sl_due.specs.Due.{IsDue, after_input, before_input, due_step}
use Rattle.sl_due.specs.CarriedDelta.{carry_delta}
use Rattle.sl_due.specs.DueTimeOuts.{remove_connection}
use Rattle.sl_due.specs.DueInputs.{end_holdings, on_spawned, started_reply, take_input, when_running}
use Rattle.sl_due.specs.DueWake.{end_if_done, finish, finish_session, free_if_done}
use Rattle.sl_due.specs.Steps.{Step, add_reply, add_signal, begin_step, seen, when, with_input, with_some}
use Rattle.sl_due_law.proofs.Causes.HeadsAreEarly.{heads_are_early}
use Rattle.sl_due_leases.proofs.Grants.Values.ReadsByInputs.{found_after, has_number}
use Rattle.sl_due_facts.proofs.Jobs.EffectsAreAllowed.{delta, removal}
use Rattle.sl_due_facts.proofs.Jobs.NearlyPlainActs.{AnyMove, AnyStart, Anything, Nearly, NoLook, free_plain}
use Rattle.sl_due_facts.proofs.Jobs.SessionsStand.{reply_stops, stopped_stays}
use Rattle.sl_due_law.specs.Causes.LineCauses.{IsBeforeInput}
use Rattle.sl_due_law.specs.LawfulTraces.Busy.{told_by}
use Rattle.sl_due_law.specs.LawfulTraces.CarriedFacts.{Holds}
use Rattle.sl_trace.specs.Jobs.{job_of_start}
use Rattle.sl_words.proofs.Lists.{head_is}
use Rattle.sl_trace.specs.DeltaDecisions.{delta_known, delta_of_session, next_free}
use Rattle.sl_trace.specs.Sessions.{has_open_write, holdings_of, is_joined, open_calls_of, present_sessions, recovery_of}
use Rattle.sl_trace.specs.declared.session.Session.{Session}
use Rattle.sl_trace.specs.Traces.{Child, FollowsTrace, Setting, Trace, child_after, child_numbered, children, is_expected, is_running, new_child, stands_for}
use Rattle.sl_trace.specs.declared.effects.Entry.{Entry}
use Rattle.sl_trace.specs.declared.effects.Signal.TheVariants.{Term}
use Rattle.sl_trace.specs.declared.input.Input.TheVariants.{Answer as Told, Exit, Line, Number, Spawned, Wake}
use Rattle.sl_trace.specs.declared.input.Input.{Input}
use Rattle.sl_trace.specs.declared.reply.Reply.TheVariants.{SpawnFault}
use Rattle.sl_trace.specs.declared.reply.Reply.{Reply}
use Rattle.sl_words.proofs.CaseLaws.{none_some, some_value}
use Rattle.sl_words.proofs.WordLaws.{some_is_true}
use Rattle.sl_words.specs.Words.{is_empty}
use Rattle.std.proofs.Common.{ap, refl, subst, sym, ◌∙◌}
use Rattle.std.specs.Prelude.{Bool, IsTrue, None, Option, Some, false, find, is_none, is_some, map, not, option_and_then, true, ℕ, ◌&&◌, ◌++◌, ◌∷◌, ◌≡◌}

-- ---- what is answered stays so

abbrev Stopped : ℕ → Step → Type 0
Stopped j y = is_running (seen y) j ≡ false

stopped_nearly : (j : ℕ) → Nearly (Stopped j)
stopped_nearly j =
    record {
      ends = λ y e h. h;
      signals = λ y q signal h. h;
      moves = λ y m may h. h;
      grants = λ y g h. h;
      starts = λ y k may h. h;
      replies = λ y i r may h. stopped_stays y i r j h;
      calls = λ y s path p o op no_look h. h;
      rest = λ y h. h;
    }

session_stopped : (j : ℕ) (s : Session) (y : Step) → Stopped j y → Stopped j (finish_session s y)
unfolding finish_session
session_stopped j s y h = when_keeps (Stopped j) (is_joined (seen y) s) (λ z. elim (is_some (recovery_of z.setting (seen z) s)) as (λ w. Step) [ true ↦ end_if_done s z | false ↦ free_if_done s z ]) y (λ joined k. by k (is_some (recovery_of y.setting (seen y) s))) h where
  by : Stopped j y → (b : Bool)
      → Stopped j (elim b as (λ z. Step) [
        | true ↦ when (is_empty (holdings_of (seen y) s) && not (has_open_write (seen y) s)) (remove_connection s.lockspace) y
        | false ↦ when (is_empty (holdings_of (seen y) s) && is_empty (open_calls_of (seen y) s)) (λ z. carry_delta s (next_free (delta_of_session z.setting s) z.reading (delta_known z.setting (seen z) s)) z) y
      ])
  by h true = when_keeps (Stopped j) (is_empty (holdings_of (seen y) s) && not (has_open_write (seen y) s)) (remove_connection s.lockspace) y (λ is k. removal (Stopped j) (Stopped j) Anything NoLook AnyStart AnyMove (stopped_nearly j) y s.lockspace tt k) h
  by h false =
      when_keeps (Stopped j) (is_empty (holdings_of (seen y) s) && is_empty (open_calls_of (seen y) s)) (λ z. carry_delta s (next_free (delta_of_session z.setting s) z.reading (delta_known z.setting (seen z) s)) z) y
      (λ is k. delta (Stopped j) (Stopped j) Anything NoLook AnyStart AnyMove (stopped_nearly j) y s (next_free (delta_of_session y.setting s) y.reading (delta_known y.setting (seen y) s))
      (free_plain y s (delta_of_session y.setting s) y.reading (delta_known y.setting (seen y) s)) k) h

last_stopped : (j : ℕ) (y : Step) → Stopped j y → Stopped j (finish y)
unfolding finish
last_stopped j y h = for_each_keeps (Stopped j) (present_sessions y.setting (seen y)) finish_session y (λ s there z k. session_stopped j s z k) h

-- ---- a start that is told

said_stops : (x : Step) (j : ℕ) (r : Reply) → Stopped j (when (is_running (seen x) j) (add_reply j r) x)
said_stops x j r = by (is_running (seen x) j) refl where
  by : (b : Bool) → is_running (seen x) j ≡ b → Stopped j (when b (add_reply j r) x)
  by true is = reply_stops x j r
  by false is = is

spawned_stops : (x : Step) (p : ℕ) (ok : Bool) (j : ℕ) → job_of_start (seen x) p ≡ Some j → Stopped j (on_spawned p ok x)
unfolding on_spawned
spawned_stops x p true j is = subst (λ o. Stopped j (when_running o (started_reply (seen x) p) x)) (sym is) (said_stops x j (started_reply (seen x) p))
spawned_stops x p false j is = by (stands_for (seen y) p) where
  y : Step
  y = when_running (job_of_start (seen x) p) SpawnFault (end_holdings p x)

  there : Stopped j (when_running (job_of_start (seen x) p) SpawnFault (end_holdings p x))
  there = subst (λ o. Stopped j (when_running o SpawnFault (end_holdings p x))) (sym is) (said_stops (end_holdings p x) j SpawnFault)

  by : (o : Option ℕ) → Stopped j (with_some o (λ q. add_signal q Term) (when_running (job_of_start (seen x) p) SpawnFault (end_holdings p x)))
  by None = there
  by (Some q) = there

-- ---- an entry

spawned_step : (st : Setting) (past : Trace) (now p : ℕ) (ok : Bool) (j : ℕ) → job_of_start (seen (with_input (Spawned p ok) (before_input (begin_step st past now)))) p ≡ Some j → Stopped j (due_step st past now (Spawned p ok))
unfolding due_step after_input take_input
spawned_step st past now p ok j is = last_stopped j (on_spawned p ok (with_input (Spawned p ok) (before_input (begin_step st past now)))) (spawned_stops (with_input (Spawned p ok) (before_input (begin_step st past now))) p ok j is)

pub starts_answered : (st : Setting) (past : Trace) (e : Entry) (k : Child) (j : ℕ) → FollowsTrace st past e → IsDue st past e → Holds st past → child_numbered (e ∷ past) k.process ≡ Some k → k.job ≡ Some j
    → told_by e.input ≡ Some k.process → is_running (e ∷ past) j ≡ false
starts_answered st past e k j follows due_one h found its told = by e.input refl told where
  entry : entry_of (due_step st past e.reading e.input) ≡ e
  entry = head_is (entry_of (due_step st past e.reading e.input)) e (due_step st past e.reading e.input).past past (due_is_seen st past e due_one)

  fixed : Fixed st past e.reading (due_step st past e.reading e.input)
  fixed = due_is_of st past e.reading e.input

  early : IsBeforeInput st past e.reading (before_input (begin_step st past e.reading))
  early = heads_are_early st past e.reading h.whole

  at_end : Stopped j (due_step st past e.reading e.input) → is_running (e ∷ past) j ≡ false
  at_end s = subst (λ f. is_running (f ∷ past) j ≡ false) entry (subst (λ t. is_running (entry_of (due_step st past e.reading e.input) ∷ t) j ≡ false) fixed.before s)

  spawned : (p : ℕ) (ok : Bool) → e.input ≡ Spawned p ok → p ≡ k.process → is_running (e ∷ past) j ≡ false
  spawned p ok is same = at_end (subst (λ i. Stopped j (due_step st past e.reading i)) (sym is) (spawned_step st past e.reading p ok j job)) where
    starting : (c : Child) × (child_numbered past p ≡ Some c) × (is_none c.answer ≡ true)
    starting = some_is_true (λ (c : Child). is_none c.answer) (child_numbered past p) (subst (λ (i : Input). IsTrue (is_expected st past i)) is follows.expected)

    z : Step
    z = before_input (begin_step st past e.reading)

    last : child_after (Spawned p ok) starting.0 ≡ k
    last =
        some_value (child_after (Spawned p ok) starting.0) k
        (sym (ap (λ i. find (has_number p) (map (child_after i) (children past) ++ map new_child e.effects.starts)) is ∙ found_after (Spawned p ok) p (children past) (map new_child e.effects.starts) starting.0 starting.1)
        ∙ (ap (λ n. child_numbered (e ∷ past) n) same ∙ found))

    job : job_of_start (seen (with_input (Spawned p ok) (before_input (begin_step st past e.reading)))) p ≡ Some j
    job =
        ap (λ o. option_and_then (λ (c : Child). c.job) o)
        (ap (λ t. find (has_number p) (map (child_after (Spawned p ok)) (children t) ++ map new_child z.effects.starts)) early.before
        ∙ found_after (Spawned p ok) p (children past) (map new_child z.effects.starts) starting.0 starting.1)
        ∙ (ap (λ (c : Child). c.job) last ∙ its)

  by : (i : Input) → e.input ≡ i → told_by i ≡ Some k.process → is_running (e ∷ past) j ≡ false
  by (Spawned p ok) is at = spawned p ok is (some_value p k.process at)
  by (Told n a) is at = absurd (none_some k.process at)
  by (Line text) is at = absurd (none_some k.process at)
  by (Number text) is at = absurd (none_some k.process at)
  by (Exit p) is at = absurd (none_some k.process at)
  by Wake is at = absurd (none_some k.process at)
