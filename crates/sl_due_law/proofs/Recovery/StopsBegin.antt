-- Once a step has begun each session whose recovery begins by time has been stopped.
use Rattle.sl_due_facts.proofs.Acts.AddedAtEnd.{contains_last}
use Rattle.sl_due_facts.proofs.Acts.LoopsKeep.{for_each_keeps, when_keeps}
use Rattle.sl_due_facts.specs.Acts.TraceSoFar.{entry_of}
use Rattle.sl_due.specs.DueRecovery.{begin_recoveries, begin_recovery, begins_now, send, signal_and_refuse, signal_holders}
use Rattle.sl_due.specs.Steps.{Step, add_call_of, add_end, add_grant, add_move, add_reply, add_signal, add_start, begin_step, for_each, seen, when}
use Rattle.sl_due_facts.proofs.Jobs.EffectsAreAllowed.{stopped}
use Rattle.sl_due_facts.proofs.Jobs.JobFactsBegin.{sessions_then}
use Rattle.sl_due_facts.proofs.Jobs.NearlyPlainActs.{AnyMove, AnyStart, Anything, Nearly, NoLook}
use Rattle.sl_due_facts.proofs.Jobs.QuietFactsBegin.{leaving_wake}
use Rattle.sl_due_facts.proofs.Jobs.SessionsArePresent.{joined_present, present_inside}
use Rattle.sl_due_facts.specs.Jobs.JobLaws.{BeginsWith}
use Rattle.sl_run.specs.LawfulRecovery.{StopsSession}
use Rattle.sl_trace.specs.KillPrograms.{stopper_of}
use Rattle.sl_trace.specs.Jobs.{jobs_of_session}
use Rattle.sl_words.proofs.Lists.{contains_cases, contains_none}
use Rattle.sl_words.proofs.Numbers.{number_itself}
use Rattle.sl_due_law.proofs.Recovery.MayStop.{MayStop, programs_on_wake, stop_done}
use Rattle.sl_due_law.proofs.Recovery.RecoveriesStart.{joined_unless, leaving_before, starts_at}
use Rattle.sl_due_law.proofs.Recovery.StopsGrow.{itself_grown, reply_grown, signal_grown, start_grown}
use Rattle.sl_due_law.specs.Recovery.Stops.{Stops}
use Rattle.sl_trace.specs.Sessions.{holders_of, is_joined, last_renewal, present_sessions, recovery_of, sessions}
use Rattle.sl_trace.specs.declared.session.Begun.{Begun}
use Rattle.sl_trace.specs.declared.session.Session.{Session}
use Rattle.sl_due_facts.specs.Facts.HeardCall.{heard_by}
use Rattle.sl_trace.specs.EffectTexts.{is_ok_reply}
use Rattle.sl_trace.specs.Traces.{Job, Setting, Trace, next_child}
use Rattle.sl_trace.specs.declared.effects.Effects.{Effects}
use Rattle.sl_trace.specs.declared.effects.JobReply.{JobReply}
use Rattle.sl_trace.specs.declared.effects.Sent.{Sent}
use Rattle.sl_trace.specs.declared.effects.Signal.TheVariants.{Term}
use Rattle.sl_trace.specs.declared.effects.Start.{Start}
use Rattle.sl_trace.specs.declared.reply.Reply.TheVariants.{Recovering}
use Rattle.sl_words.specs.Words.{some_is}
use Rattle.std.proofs.Common.{ap, arith, inl, inr, refl, subst, sym, ◌∙◌}
use Rattle.std.specs.Prelude.{Contains, IsFalse, List, None, Option, Some, [], filter, length, not, true, ℕ, ◌++◌, ◌+◌, ◌<◌, ◌==◌, ◌∷◌, ◌≡◌, ◌⊎◌}

-- ---- the beginnings of recoveries signal, start kill programs and refuse, and do nothing else

abbrev pub with_said : Step → List Sent → List Start → List JobReply → Step
with_said x signals starts replies = let fx : Effects = x.effects in record x { effects = record fx { signals = signals; starts = starts; replies = replies } }

-- Its replies are of this kind, which takes in refusals by recovery.
pub record Says (P : JobReply → Type 0) (x y : Step) : Type 0 where
  pub signals : List Sent
  pub starts : List Start
  pub replies : List JobReply
  pub is : y ≡ with_said x signals starts replies
  pub kind : (a : JobReply) → Contains replies a → P a

abbrev pub TakesRefusals : (JobReply → Type 0) → Type 0
TakesRefusals P = (j t : ℕ) → P (record { job = j; reply = Recovering t })

says_itself : (P : JobReply → Type 0) (x : Step) → ((a : JobReply) → Contains x.effects.replies a → P a) → Says P x x
says_itself P x kind = record { signals = x.effects.signals; starts = x.effects.starts; replies = x.effects.replies; is = refl; kind = kind }

term_says : (P : JobReply → Type 0) (x y : Step) (p : ℕ) → Says P x y → Says P x (send p Term y)
term_says P x y p h = by (stopper_of y.setting (seen y) p) where
  by : (o : Option (List ℕ))
      → Says P x (elim o as (λ z. Step) [ None ↦ add_signal p Term y | Some program ↦ add_start (record { process = next_child (seen y); program = program; job = None; stands_for = Some p }) y ])
  by None = record { signals = h.signals ++ record { process = p; signal = Term } ∷ []; starts = h.starts; replies = h.replies; is = ap (λ z. add_signal p Term z) h.is; kind = h.kind }
  by (Some program) =
      let k : Start = record { process = next_child (seen y); program = program; job = None; stands_for = Some p } in
      record { signals = h.signals; starts = h.starts ++ k ∷ []; replies = h.replies; is = ap (λ z. add_start k z) h.is; kind = h.kind }

refusal_says : (P : JobReply → Type 0) → TakesRefusals P → (x y : Step) (j t : ℕ) → Says P x y → Says P x (add_reply j (Recovering t) y)
refusal_says P takes x y j t h =
    record {
      signals = h.signals;
      starts = h.starts;
      replies = h.replies ++ record { job = j; reply = Recovering t } ∷ [];
      is = ap (λ z. add_reply j (Recovering t) z) h.is;
      kind = λ a there. by a (contains_last h.replies (record { job = j; reply = Recovering t }) a there);
    } where
      by : (a : JobReply) → Contains h.replies a ⊎ (record { job = j; reply = Recovering t } ≡ a) → P a
      by a (inl old) = h.kind a old
      by a (inr is) = subst (λ b. P b) is (takes j t)

stop_says : (P : JobReply → Type 0) → TakesRefusals P → (x y : Step) (s : Session) (kept_one : Option ℕ) → Says P x y → Says P x (signal_and_refuse s kept_one y)
unfolding signal_and_refuse
stop_says P takes x y s kept_one h =
    let z : Step = signal_holders Term s y in
    for_each_keeps (Says P x) (filter (λ (j : Job). not (some_is (λ k. k == j.number) kept_one)) (jobs_of_session z.setting (seen z) s)) (λ j. add_reply j.number (Recovering (last_renewal z.setting (seen z) s))) z
    (λ j inside w k. refusal_says P takes x w j.number (last_renewal z.setting (seen z) s) k)
    (for_each_keeps (Says P x) (holders_of (seen y) s) (λ p. send p Term) y (λ p inside w k. term_says P x w p k) h)

-- A stop by itself.
pub stop_only_says : (x : Step) (s : Session) (kept_one : Option ℕ) → Says (λ a. Unit {0}) x (signal_and_refuse s kept_one x)
stop_only_says x s kept_one = stop_says (λ a. Unit {0}) (λ j t. tt) x x s kept_one (says_itself (λ a. Unit {0}) x (λ a there. tt))

-- No reply says that a job is done.
abbrev pub IsDenial : JobReply → Type 0
IsDenial a = IsFalse (is_ok_reply a.reply)

denials : TakesRefusals IsDenial
denials j t = refl

begins_say : (x y : Step) (s : Session) → Says IsDenial x y → Says IsDenial x (begin_recovery s y)
unfolding begin_recovery
begins_say x y s h = when_keeps (Says IsDenial x) (begins_now (seen y) (recovery_of y.setting (seen y) s)) (signal_and_refuse s None) y (λ begins k. stop_says IsDenial denials x y s None k) h

all_say : (x y : Step) (ss : List Session) → Says IsDenial x y → Says IsDenial x (for_each ss begin_recovery y)
all_say x y ss h = for_each_keeps (Says IsDenial x) ss begin_recovery y (λ s there z k. begins_say x z s k) h

none_said : (st : Setting) (past : Trace) (now : ℕ) → Says IsDenial (begin_step st past now) (begin_step st past now)
none_said st past now = says_itself IsDenial (begin_step st past now) (λ a there. absurd (contains_none a there))

-- The step once recoveries have begun.
pub begun_says : (st : Setting) (past : Trace) (now : ℕ) → Says IsDenial (begin_step st past now) (begin_recoveries (begin_step st past now))
unfolding begin_recoveries
begun_says st past now = all_say (begin_step st past now) (begin_step st past now) (present_sessions st (seen (begin_step st past now))) (none_said st past now)

-- ---- so a stop in it does all that is asked

may_stop : (st : Setting) (past : Trace) (now : ℕ) (z : Step) → Says IsDenial (begin_step st past now) z → MayStop z
may_stop st past now z h =
    record {
      programs = programs_on_wake z (ap (λ (y : Step). y.input) h.is);
      ends = ap (λ (y : Step). y.effects.ends) h.is;
      denied = λ a there. h.kind a (subst (λ (y : Step). Contains y.effects.replies a) h.is there);
    }

abbrev pub Stopped : Setting → Trace → Session → Step → Type 0
Stopped st past s z = StopsSession st past (entry_of z) s None

pub stopped_nearly : (st : Setting) (past : Trace) (s : Session) (kept_one : Option ℕ) → Nearly (λ z. StopsSession st past (entry_of z) s kept_one)
stopped_nearly st past s kept_one =
    record {
      ends = λ y e h. itself_grown y (add_end e y) st past s kept_one refl refl refl h;
      signals = λ y q signal h. signal_grown y q signal st past s kept_one h;
      moves = λ y m may h. itself_grown y (add_move m y) st past s kept_one refl refl refl h;
      grants = λ y g h. itself_grown y (add_grant g y) st past s kept_one refl refl refl h;
      starts = λ y k may h. start_grown y k st past s kept_one h;
      replies = λ y j r may h. reply_grown y j r st past s kept_one h;
      calls = λ y v path p o op no_look h. itself_grown y (add_call_of v.number path p o op y) st past s kept_one refl refl refl h;
      rest = λ y h. h;
    }

later : (st : Setting) (past : Trace) (s : Session) (ss : List Session) (z : Step) → Stopped st past s z → Stopped st past s (for_each ss begin_recovery z)
unfolding begin_recovery
later st past s ss z h =
    for_each_keeps (Stopped st past s) ss begin_recovery z
    (λ t there y k. when_keeps (Stopped st past s) (begins_now (seen y) (recovery_of y.setting (seen y) t)) (signal_and_refuse t None) y
    (λ begins f. stopped (Stopped st past s) (Stopped st past s) Anything NoLook AnyStart AnyMove (stopped_nearly st past s None) tt y t None (λ w g j inside. tt) f) k) h

each_stopped : (st : Setting) (past : Trace) (now : ℕ) (ss : List Session) (z : Step) (s : Session) → Says IsDenial (begin_step st past now) z → Contains ss s
    → begins_now (seen (begin_step st past now)) (recovery_of st (seen (begin_step st past now)) s) ≡ true → Stopped st past s (for_each ss begin_recovery z)
unfolding begin_recovery
each_stopped st past now [] z s h there begins = absurd (contains_none s there)
each_stopped st past now (t ∷ ss) z s h there begins = by (contains_cases t ss s there) (λ old. each_stopped st past now ss (begin_recovery t z) s (begins_say (begin_step st past now) z t h) old begins) where
  here : begins_now (seen z) (recovery_of z.setting (seen z) s) ≡ true
  here = ap (λ (y : Step). begins_now (seen y) (recovery_of y.setting (seen y) s)) h.is ∙ begins

  stops : begin_recovery s z ≡ signal_and_refuse s None z
  stops = ap (λ b. when b (signal_and_refuse s None) z) here

  done : Stopped st past s (signal_and_refuse s None z)
  done =
      subst (λ es. StopsSession st es (entry_of (signal_and_refuse s None z)) s None) (ap (λ (y : Step). y.past) h.is)
      (subst (λ k. StopsSession k z.past (entry_of (signal_and_refuse s None z)) s None) (ap (λ (y : Step). y.setting) h.is) (stop_done z s None (may_stop st past now z h)))

  by : (t ≡ s) ⊎ Contains ss s → (Contains ss s → Stopped st past s (for_each ss begin_recovery (begin_recovery t z))) → Stopped st past s (for_each ss begin_recovery (begin_recovery t z))
  by (inr old) more = more old
  by (inl is) more = later st past s ss (begin_recovery t z) (subst (λ y. Stopped st past s y) (sym (ap (λ q. begin_recovery q z) is ∙ stops)) done)

-- ---- the whole

pub stops_begin : BeginsWith (λ x. Stops x (heard_by x.input))
unfolding begin_recoveries
stops_begin st past e follows w = at_begin (begin_recoveries x) (begun_says st past e.reading) (λ s there begins. each_stopped st past e.reading (present_sessions st (seen x)) x s (none_said st past e.reading) there begins) where
  x : Step
  x = begin_step st past e.reading

  at_begin : (y : Step) → Says IsDenial (begin_step st past e.reading) y
      → ((s : Session) → Contains (present_sessions st (seen (begin_step st past e.reading))) s → begins_now (seen (begin_step st past e.reading)) (recovery_of st (seen (begin_step st past e.reading)) s) ≡ true → Stopped st past s y)
      → Stops y (heard_by y.input)
  at_begin y h stops =
      subst (λ z. Stops z (heard_by z.input)) (sym h.is) (record {
        recovers = λ s b there is at other. subst (λ z. Stopped st past s z) h.is (recovers_one s b there is at);
        leaves = λ s j there is at. absurd (old j (leaving_before st past s j (leaving_wake st past e.reading s j is)) at);
      }) where
        old : (j : Job) → j.at < length past → j.at ≡ length past → ⊥
        old j less at = omega (arith, less, at)

        recovers_one : (s : Session) (b : Begun) → Contains (sessions st past) s → recovery_of st (seen (begin_step st past e.reading)) s ≡ Some b → b.at ≡ length past → Stopped st past s y
        recovers_one s b there is at =
            let t : Trace = seen (begin_step st past e.reading) in
            let started = starts_at st (entry_of (begin_step st past e.reading)) past s b is at in
            let joined : is_joined t s ≡ true = joined_unless (entry_of (begin_step st past e.reading)) past s started.1.joined refl in
            let present : Contains (present_sessions st t) s = present_inside st t s (subst (λ ss. Contains ss s) (sym (sessions_then st past e.reading)) there) (joined_present t s joined) in
            let more : b.at + 1 ≡ length t = omega (arith, at) in
            let now : begins_now t (recovery_of st t s) ≡ true = ap (λ o. begins_now t o) is ∙ (ap (λ n. n == length t) more ∙ number_itself (length t)) in
            stops s present now
