-- By an entry's end is done what recovery and leaving ask: who held is told and killed in time, jobs are refused, sessions end.
use Rattle.sl_due_facts.proofs.Acts.InputsKeep.{other_acts}
use Rattle.sl_due_facts.proofs.Acts.PlainActs.{plain_acts}
use Rattle.sl_due_facts.proofs.Acts.StepsKeep.{Fixed, at_input, bare_at_input, due_is_of, head_keeps}
use Rattle.sl_due_facts.proofs.Acts.TracesKeep.{due_is_seen}
use Rattle.sl_due_facts.specs.Acts.KeptByEffects.{Plainly}
use Rattle.sl_due_facts.specs.Acts.TraceSoFar.{entry_of}
use Rattle.sl_due.specs.Due.{IsDue, after_input, before_input, due, due_step}
use Rattle.sl_due.specs.DueCommands.{carry_decision}
use Rattle.sl_due.specs.DueRecovery.{begin_recoveries, is_kill_due, kills}
use Rattle.sl_due.specs.Steps.{Step, begin_step, seen}
use Rattle.sl_due_facts.proofs.Jobs.CallsHaveFacts.{find_mapped, timely}
use Rattle.sl_due_facts.proofs.Jobs.EffectsAreAllowed.{sent}
use Rattle.sl_due_facts.proofs.Jobs.JobFactsGrow.{contains_left}
use Rattle.sl_due_facts.proofs.Jobs.QuietEffects.{recovery_told}
use Rattle.sl_due_facts.proofs.Jobs.SessionsArePresent.{joined_present, present_inside, session_has}
use Rattle.sl_due_facts.proofs.Jobs.SessionsHaveJobs.{contains_either, left_in}
use Rattle.sl_run.specs.LawfulGrant.{LawfulGrant}
use Rattle.sl_run.specs.LawfulParting.{MayPart}
use Rattle.sl_run.specs.LawfulRecovery.{IsSent, LawfulRecovery, StopsSession, was_killed}
use Rattle.sl_run.specs.LawForms.{IsAnsweredAt}
use Rattle.sl_words.proofs.Lists.{any_of, find_inside, got_before, got_inside, head_is, in_map, kept_inside}
use Rattle.sl_words.proofs.Numbers.{number_itself}
use Rattle.sl_words.proofs.Options.{mapped_value}
use Rattle.sl_due_law.proofs.Recovery.FinishEnds.{StaysRegistered, finish_ends, joined_registered, registered_plainly}
use Rattle.sl_due_law.proofs.Recovery.HoldersAre.{HeldBy, held_by_one, holder_of_one, holders_stay}
use Rattle.sl_due_law.proofs.Recovery.MayStop.{held_then}
use Rattle.sl_due_law.proofs.Recovery.PartingsAreKept.{find_kept}
use Rattle.sl_due_law.proofs.Recovery.PassesKeep.{IsSentBy, after_kills, all_killed, before_last, failed_is_told, sent_plainly, until_last}
use Rattle.sl_due_law.proofs.Recovery.RecoveriesStart.{BegunBefore, By_read, By_time, StartReason, Starts, begun_before, joined_unless, recovery_starts}
use Rattle.sl_due_law.proofs.Recovery.StopsBegin.{IsDenial, Says, begun_says, with_said}
use Rattle.sl_due_law.proofs.Recovery.StopsConclude.{old_session}
use Rattle.sl_due_law.specs.Recovery.KillFacts.{KillFacts, KilledAfter}
use Rattle.sl_due_law.specs.Recovery.Stops.{FreeTold, FreesEnd, Stops}
use Rattle.sl_trace.specs.Sessions.{begun_in, calls_of, free_write, has_open_write, holders_of, holdings_of, is_active, is_call_of, is_free_purpose, is_joined, leaving_in, leaving_job, leaving_of, present_sessions, recovery_of, session_numbered, sessions}
use Rattle.sl_trace.specs.declared.session.Begun.{Begun}
use Rattle.sl_trace.specs.declared.session.Session.{Session}
use Rattle.sl_due_facts.specs.Facts.HoldingFacts.{HoldingFacts}
use Rattle.sl_due_facts.specs.Facts.AllFacts.{WholeTrace}
use Rattle.sl_trace.specs.WatchdogConnections.{is_registered}
use Rattle.sl_trace.specs.Traces.{Answered, Job, Setting, Submitted, Trace, answer_of, answered_in, holdings, is_ended_by, last_reading, mark, new_call, stands_for, submitted}
use Rattle.sl_trace.specs.declared.effects.Call.{Call}
use Rattle.sl_trace.specs.declared.effects.Effects.{Effects}
use Rattle.sl_trace.specs.declared.effects.Entry.{Entry}
use Rattle.sl_trace.specs.declared.effects.Grant.{Grant}
use Rattle.sl_trace.specs.declared.effects.Sent.{Sent}
use Rattle.sl_trace.specs.declared.effects.Signal.{Signal}
use Rattle.sl_trace.specs.declared.effects.Signal.TheVariants.{Kill, Term}
use Rattle.sl_trace.specs.declared.input.Answer.{Answer}
use Rattle.sl_trace.specs.declared.input.Input.{Input}
use Rattle.sl_trace.specs.declared.input.Input.TheVariants.{Answer as Told, Exit, Line, Number, Spawned, Wake}
use Rattle.sl_run_law.proofs.Sessions.CallsAreMade.{IsNewCall, old_or_new, same_answered}
use Rattle.sl_words.proofs.CaseLaws.{is_false, none_some, not_both, one_value, some_value}
use Rattle.std.proofs.Common.{ap, ap₂, arith, inl, inr, refl, subst, sym, ◌∙◌}
use Rattle.std.proofs.lemmas.Bool.{eqb-true}
use Rattle.std.proofs.lemmas.Bool.Decides.{nat_tests}
use Rattle.std.specs.List.{list_any}
use Rattle.std.specs.Option.{option_or}
use Rattle.std.specs.Prelude.{Bool, Contains, List, None, Option, Some, [], cond, false, filter, find, fold, is_none, is_some, length, nat_le, nat_lt, not, option_map, suc, true, ℕ, ◌&&◌, ◌+◌, ◌<◌, ◌==◌, ◌||◌, ◌∷◌, ◌≡◌, ◌≤◌, ◌⊎◌}

-- ---- kills

-- What was signalled in the step is in its entry.
sent_at_end : (st : Setting) (past : Trace) (e : Entry) (p : ℕ) (g : Signal) → IsDue st past e → IsSentBy p g (due_step st past e.reading e.input) → IsSent e p g
unfolding due
sent_at_end st past e p g is h = subst (λ (fx : Effects). Contains fx.signals (record { process = p; signal = g })) (sym is) h

killed_low : (i k : ℕ) (p : ℕ) (t : Trace) → i ≤ k → was_killed k p t ≡ true → was_killed i p t ≡ true
killed_low i k p [] low h = h
killed_low i k p (e ∷ es) low h =
    by (nat_le k (length es)) refl (list_any (λ (s : Sent). s.process == p && elim s.signal [ Kill ↦ true | Term ↦ false ]) e.effects.signals) (was_killed k p es) h (λ rest. killed_low i k p es low rest) where
      from_low : nat_le k (length es) ≡ true → nat_le i (length es) ≡ true
      from_low is = let most : i ≤ k = low in grind (arith, nat_tests)

      over : (a : Bool) → (a || true) ≡ true
      over true = refl
      over false = refl

      by : (b : Bool) → nat_le k (length es) ≡ b → (sends rest : Bool) → ((b && sends) || rest) ≡ true → (rest ≡ true → was_killed i p es ≡ true) → ((nat_le i (length es) && sends) || was_killed i p es) ≡ true
      by true is true rest g more = ap (λ a. (a && true) || was_killed i p es) (from_low is)
      by true is false rest g more = ap (λ a. (nat_le i (length es) && false) || a) (more g) ∙ over (nat_le i (length es) && false)
      by false is sends rest g more = ap (λ a. (nat_le i (length es) && sends) || a) (more g) ∙ over (nat_le i (length es) && sends)

kill_counts : (k p : ℕ) (e : Entry) (es : Trace) → k ≤ length es → IsSent e p Kill → was_killed k p (e ∷ es) ≡ true
kill_counts k p e es low sent =
    ap₂ (λ a b. (a && b) || was_killed k p es) at_least
    (any_of (λ (s : Sent). s.process == p && elim s.signal [ Kill ↦ true | Term ↦ false ]) e.effects.signals (record { process = p; signal = Kill }) (ap (λ b. b && true) (number_itself p)) sent)
  where
    at_least : nat_le k (length es) ≡ true
    at_least = let most : k ≤ length es = low in grind (arith, nat_tests)

kill_stays : (k p : ℕ) (e : Entry) (es : Trace) → was_killed k p es ≡ true → was_killed k p (e ∷ es) ≡ true
kill_stays k p e es h = by (nat_le k (length es) && list_any (λ (s : Sent). s.process == p && elim s.signal [ Kill ↦ true | Term ↦ false ]) e.effects.signals) where
  by : (b : Bool) → (b || was_killed k p es) ≡ true
  by true = refl
  by false = h

-- A holder at the end of a session that isn't active held before.
old_holder : (st : Setting) (past : Trace) (e : Entry) (s : Session) (p : ℕ) → LawfulGrant st past e → Contains (sessions st (e ∷ past)) s → is_active st (e ∷ past) s ≡ false → HeldBy (e ∷ past) s p → HeldBy past s p
old_holder st past e s p granting there inactive h =
    by (contains_either (filter (λ (g : Grant). not (is_ended_by e.effects.ends g)) (holdings past)) e.effects.grants h.grant h.held) where
      by : Contains (filter (λ (g : Grant). not (is_ended_by e.effects.ends g)) (holdings past)) h.grant ⊎ Contains e.effects.grants h.grant → HeldBy past s p
      by (inl old) =
          record { grant = h.grant; held = (kept_inside (λ (g : Grant). not (is_ended_by e.effects.ends g)) (holdings past) h.grant old).0; session = h.session; process = h.process; own = h.own }
      by (inr new) =
          let its : session_numbered st (e ∷ past) h.grant.session ≡ Some s = ap (λ n. session_numbered st (e ∷ past) n) h.session ∙ session_has st (e ∷ past) s there in
          absurd (not_both (is_active st (e ∷ past) s) ((granting.each h.grant s new its).active h.own) inactive)

-- Its session was joined before.
holder_joined : (st : Setting) (past : Trace) (e : Entry) (s : Session) (p : ℕ) → HoldingFacts st past None → Contains (sessions st (e ∷ past)) s → HeldBy past s p → Contains (sessions st past) s × (is_joined past s ≡ true)
holder_joined st past e s p facts there h =
    let own = facts.owned h.grant h.held in
    let inside : Contains (sessions st past) own.0 = got_inside (sessions st past) h.grant.session own.0 own.1 in
    let now : session_numbered st (e ∷ past) h.grant.session ≡ Some own.0 = got_before (sessions st past) (begun_in st past (length (sessions st past)) e) h.grant.session own.0 own.1 in
    let one : own.0 ≡ s = one_value own.0 s (session_numbered st (e ∷ past) h.grant.session) now (ap (λ n. session_numbered st (e ∷ past) n) h.session ∙ session_has st (e ∷ past) s there) in
    (subst (λ (z : Session). Contains (sessions st past) z) one inside, subst (λ (z : Session). is_joined past z ≡ true) one own.2)

-- The kills of a start whose grace has passed in this entry and not before are sent in it.
kills_now : (st : Setting) (past : Trace) (e : Entry) (s : Session) (p : ℕ) → IsDue st past e → Contains (sessions st past) s → is_joined past s ≡ true → HeldBy past s p
    → (is_kill_due st (seen (begin_step st past e.reading)) (recovery_of st (seen (begin_step st past e.reading)) s) || is_kill_due st (seen (begin_step st past e.reading)) (leaving_of st (seen (begin_step st past e.reading)) s)) ≡ true → IsSent e p Kill
kills_now st past e s p is there joined held due_one =
    sent_at_end st past e p Kill is (after_kills (IsSentBy p Kill) (sent_plainly p Kill) st past e.reading e.input (at_begin (begin_recoveries (begin_step st past e.reading)) (begun_says st past e.reading))) where
      at_begin : (y : Step) → Says IsDenial (begin_step st past e.reading) y → IsSentBy p Kill (kills y)
      at_begin y h = subst (λ z. IsSentBy p Kill (kills z)) (sym h.is) (all_killed z s p present (ap₂ (λ a b. a && b) now due_one) holds) where
        z : Step
        z = with_said (begin_step st past e.reading) h.signals h.starts h.replies

        now : is_joined (seen (with_said (begin_step st past e.reading) h.signals h.starts h.replies)) s ≡ true
        now = joined_unless (entry_of (with_said (begin_step st past e.reading) h.signals h.starts h.replies)) past s joined refl

        present : Contains (present_sessions st (seen (with_said (begin_step st past e.reading) h.signals h.starts h.replies))) s
        present = present_inside st (seen z) s (old_session z s there) (joined_present (seen z) s now)

        holds : Contains (holders_of (seen (with_said (begin_step st past e.reading) h.signals h.starts h.replies)) s) p
        holds = holders_stay past (seen z) s (held_then z refl) p (holder_of_one past s p held)

-- Due in this entry, or killed before.
due_or_before : (st : Setting) (past : Trace) (e : Entry) (b : Begun) → b.kills_from < length (e ∷ past) → b.reading + st.grace ≤ e.reading
    → (is_kill_due st (seen (begin_step st past e.reading)) (Some b) ≡ true) ⊎ ((b.kills_from < length past) × (b.reading + st.grace ≤ last_reading st past))
due_or_before st past e b low late = by (nat_lt b.kills_from (length past)) refl (nat_le (b.reading + st.grace) (last_reading st past)) refl where
  first : nat_le b.kills_from (length past) ≡ true
  first = let less : b.kills_from < suc (length past) = low in grind (arith, nat_tests)

  second : nat_le (b.reading + st.grace) e.reading ≡ true
  second = let most : b.reading + st.grace ≤ e.reading = late in grind (arith, nat_tests)

  by : (a : Bool) → nat_lt b.kills_from (length past) ≡ a → (c : Bool) → nat_le (b.reading + st.grace) (last_reading st past) ≡ c
      → (is_kill_due st (seen (begin_step st past e.reading)) (Some b) ≡ true) ⊎ ((b.kills_from < length past) × (b.reading + st.grace ≤ last_reading st past))
  by true is_a true is_c = inr (grind (arith, nat_tests), grind (arith, nat_tests))
  by true is_a false is_c = inl (ap₂ (λ p q. p && q && not (nat_lt b.kills_from (length past) && nat_le (b.reading + st.grace) (last_reading st past))) first second ∙ ap₂ (λ p q. not (p && q)) is_a is_c)
  by false is_a c is_c = inl (ap₂ (λ p q. p && q && not (nat_lt b.kills_from (length past) && nat_le (b.reading + st.grace) (last_reading st past))) first second ∙ ap (λ p. not (p && nat_le (b.reading + st.grace) (last_reading st past))) is_a)

-- ---- so kills are done at each entry's end

inactive_recovering : (st : Setting) (t : Trace) (s : Session) (b : Begun) → recovery_of st t s ≡ Some b → is_active st t s ≡ false
inactive_recovering st t s b is = ap (λ o. is_joined t s && is_none o && is_none (leaving_job st t s)) is ∙ over (is_joined t s) where
  over : (a : Bool) → (a && false && is_none (leaving_job st t s)) ≡ false
  over true = refl
  over false = refl

inactive_leaving : (st : Setting) (t : Trace) (s : Session) (j : Job) → leaving_job st t s ≡ Some j → is_active st t s ≡ false
inactive_leaving st t s j is = ap (λ o. is_joined t s && is_none (recovery_of st t s) && is_none o) is ∙ over (is_joined t s && is_none (recovery_of st t s)) where
  over : (a : Bool) → (a && false) ≡ false
  over true = refl
  over false = refl

-- How the recovery stands once the step has begun.
recovery_at_begin : (st : Setting) (past : Trace) (e : Entry) (s : Session) (b : Begun) → recovery_of st (e ∷ past) s ≡ Some b → b.kills_from < length (e ∷ past) → recovery_of st (seen (begin_step st past e.reading)) s ≡ Some b
recovery_at_begin st past e s b is low =
    recovery_told (record { setting = st; past = past; reading = e.reading; input = Wake; effects = e.effects }) e.input s b is (is_false (b.kills_from == length past + 1) (λ same. never (eqb-true b.kills_from (length past + 1) same))) where
      never : b.kills_from ≡ length past + 1 → ⊥
      never same = let less : b.kills_from < suc (length past) = low in omega (arith, less, same)

below_all : (k : ℕ) (past : Trace) (e : Entry) → k < length (e ∷ past) → k ≤ length past
below_all k past e low = let less : k < suc (length past) = low in omega (arith, less)

pub kill_facts_end : (st : Setting) (past : Trace) (e : Entry) → IsDue st past e → WholeTrace st past → KillFacts st past → LawfulGrant st past e → KillFacts st (e ∷ past)
kill_facts_end st past e due_one w k granting = record { recovery = recovers_one; leaving = leaves_one } where
  x : Step
  x = begin_step st past e.reading

  recovers_one : (s : Session) (b : Begun) → Contains (sessions st (e ∷ past)) s → recovery_of st (e ∷ past) s ≡ Some b → KilledAfter st (e ∷ past) s b
  recovers_one s b there is low late p inside = by (due_or_before st past e b low late) where
    held : HeldBy past s p
    held = old_holder st past e s p granting there (inactive_recovering st (e ∷ past) s b is) (held_by_one (e ∷ past) s p inside)

    own : Contains (sessions st past) s × (is_joined past s ≡ true)
    own = holder_joined st past e s p w.facts.holdings there held

    now : is_kill_due st (seen (begin_step st past e.reading)) (Some b) ≡ true → IsSent e p Kill
    now due_now =
        kills_now st past e s p due_one own.0 own.1 held
        (ap (λ o. is_kill_due st (seen (begin_step st past e.reading)) o || is_kill_due st (seen (begin_step st past e.reading)) (leaving_of st (seen (begin_step st past e.reading)) s)) (recovery_at_begin st past e s b is low)
        ∙ ap (λ a. a || is_kill_due st (seen (begin_step st past e.reading)) (leaving_of st (seen (begin_step st past e.reading)) s)) due_now)

    before : b.kills_from < length past → b.reading + st.grace ≤ last_reading st past → (recovery_of st past s ≡ Some b) ⊎ ((recovery_of st past s ≡ None) × Starts st past s e b) → was_killed b.kills_from p past ≡ true
    before less late_then (inl was) = k.recovery s b own.0 was less late_then p (holder_of_one past s p held)
    before less late_then (inr new) = absurd (started new.1.reason) where
      started : StartReason st past s e b → ⊥
      started (By_time time) = let low_one : b.kills_from < length past = less in omega (arith, low_one, time)
      started (By_read read_one shows) = let low_one : b.kills_from < length past = less in omega (arith, low_one, read_one)

    by : (is_kill_due st (seen (begin_step st past e.reading)) (Some b) ≡ true) ⊎ ((b.kills_from < length past) × (b.reading + st.grace ≤ last_reading st past)) → was_killed b.kills_from p (e ∷ past) ≡ true
    by (inl due_now) = kill_counts b.kills_from p e past (below_all b.kills_from past e low) (now due_now)
    by (inr old) = kill_stays b.kills_from p e past (before old.0 old.1 (recovery_starts st e past s b is))

  leaves_one : (s : Session) (b : Begun) → Contains (sessions st (e ∷ past)) s → leaving_of st (e ∷ past) s ≡ Some b → KilledAfter st (e ∷ past) s b
  leaves_one s b there is low late p inside = by (due_or_before st past e b low late) where
    begun : Job → Begun
    begun j = record { at = j.at; reading = j.reading; kills_from = j.at + 1 }

    job : (j : Job) × (leaving_job st (e ∷ past) s ≡ Some j) × (record { at = j.at; reading = j.reading; kills_from = j.at + 1 } ≡ b)
    job = mapped_value begun (leaving_job st (e ∷ past) s) b is

    held : HeldBy past s p
    held = old_holder st past e s p granting there (inactive_leaving st (e ∷ past) s job.0 job.1) (held_by_one (e ∷ past) s p inside)

    own : Contains (sessions st past) s × (is_joined past s ≡ true)
    own = holder_joined st past e s p w.facts.holdings there held

    old_job : (o : Option Job) → leaving_job st past s ≡ o → (elim o as (λ z. Option Job) [ Some j ↦ Some j | None ↦ leaving_in st past s e ]) ≡ Some job.0 → leaving_job st past s ≡ Some job.0
    old_job (Some j) was h = was ∙ h
    old_job None was h =
        let at : length past ≡ job.0.at = ap (λ (z : Job). z.at) (left_in st past s e job.0 h).3 in
        let kills : job.0.at + 1 ≡ b.kills_from = ap (λ (z : Begun). z.kills_from) job.2 in
        let less : b.kills_from < suc (length past) = low in absurd (omega (arith, at, kills, less))

    was_leaving : leaving_job st past s ≡ Some job.0
    was_leaving = old_job (leaving_job st past s) refl job.1

    leaving_then : leaving_of st past s ≡ Some b
    leaving_then = ap (λ o. option_map begun o) was_leaving ∙ ap (λ z. Some z) job.2

    leaving_now : leaving_of st (seen (begin_step st past e.reading)) s ≡ Some b
    leaving_now = ap (λ o. option_map begun (elim o as (λ z. Option Job) [ Some j ↦ Some j | None ↦ None ])) was_leaving ∙ ap (λ z. Some z) job.2

    over : (a : Bool) → (a || true) ≡ true
    over true = refl
    over false = refl

    now : is_kill_due st (seen (begin_step st past e.reading)) (Some b) ≡ true → IsSent e p Kill
    now due_now =
        kills_now st past e s p due_one own.0 own.1 held
        (ap (λ o. is_kill_due st (seen (begin_step st past e.reading)) (recovery_of st (seen (begin_step st past e.reading)) s) || is_kill_due st (seen (begin_step st past e.reading)) o) leaving_now
        ∙ (ap (λ a. is_kill_due st (seen (begin_step st past e.reading)) (recovery_of st (seen (begin_step st past e.reading)) s) || a) due_now
        ∙ over (is_kill_due st (seen (begin_step st past e.reading)) (recovery_of st (seen (begin_step st past e.reading)) s))))

    by : (is_kill_due st (seen (begin_step st past e.reading)) (Some b) ≡ true) ⊎ ((b.kills_from < length past) × (b.reading + st.grace ≤ last_reading st past)) → was_killed b.kills_from p (e ∷ past) ≡ true
    by (inl due_now) = kill_counts b.kills_from p e past (below_all b.kills_from past e low) (now due_now)
    by (inr old) = kill_stays b.kills_from p e past (k.leaving s b own.0 leaving_then old.0 old.1 p (holder_of_one past s p held))

-- ---- who has nothing left ends

old_plainly : (s : Session) → Plainly (λ z. Contains (sessions z.setting z.past) s)
unfolding carry_decision
old_plainly s =
    record {
      effects = record {
        ends = λ x e h. h;
        signals = λ x q g h. h;
        moves = λ x m h. h;
        grants = λ x k h. h;
        starts = λ x k h. h;
        replies = λ x j r h. h;
        calls = λ x z path q o op has h. h;
      };
      inputs = λ x i wake bare h. h;
      begins = λ x text k n a wake bare says is h. h;
    }

-- From a step's beginning to where what comes last begins.
to_last : (I : Step → Type 0) → Plainly I → (st : Setting) (past : Trace) (now : ℕ) (i : Input) → I (begin_recoveries (begin_step st past now)) → I (before_last i (at_input st past now))
to_last I p st past now i h =
    let bare = bare_at_input st past now in until_last I p (at_input st past now) i bare.0 bare.1 (head_keeps I (other_acts I (plain_acts I p)) st past now h).kept

ends_at_last : (st : Setting) (past : Trace) (now : ℕ) (i : Input) (s : Session) → Contains (sessions st past) s → is_joined past s ≡ true → is_registered st past s.lockspace ≡ true
    → is_some (recovery_of (due_step st past now i).setting (seen (due_step st past now i)) s) ≡ true → holdings_of (seen (due_step st past now i)) s ≡ [] → has_open_write (seen (due_step st past now i)) s ≡ false
    → is_joined (seen (due_step st past now i)) s ≡ false
unfolding due_step before_input after_input
ends_at_last st past now i s there joined registered recovers_one empty written =
    finish_ends (before_last i (at_input st past now)) s (to_last (λ z. Contains (sessions z.setting z.past) s) (old_plainly s) st past now i (subst (λ (z : Step). Contains (sessions z.setting z.past) s) (sym begun.is) there))
    (to_last (StaysRegistered s) (registered_plainly s) st past now i (subst (λ z. StaysRegistered s z) (sym begun.is) (joined, inl registered))) recovers_one empty written
  where
    begun : Says IsDenial (begin_step st past now) (begin_recoveries (begin_step st past now))
    begun = begun_says st past now

-- ---- a free's answer

-- A call that is answered at the newest entry is answered by its input.
answered_now : (st : Setting) (past : Trace) (e : Entry) (c : Submitted) (a : Answered) → Contains (submitted (e ∷ past)) c → c.answer ≡ Some a → a.at ≡ length past → (n : ℕ) × (answer : Answer) × (e.input ≡ Told n answer) × (c.call.number ≡ n)
answered_now st past e c a there is at = by (old_or_new (length past) e.reading e.effects.calls (mark past e e.input (submitted past)) c there) where
  early : (m : Submitted) → Contains (submitted past) m → m ≡ c → ⊥
  early m inside same =
      let in_time = (timely past m inside).1 a (ap (λ (z : Submitted). z.answer) same ∙ is) in let less : a.at < length past = in_time.1 in omega (arith, less, at)

  marked : (i : Input) → e.input ≡ i → Contains (mark past e i (submitted past)) c → (n : ℕ) × (answer : Answer) × (e.input ≡ Told n answer) × (c.call.number ≡ n)
  marked (Told n answer) input inside = told (in_map (answered_in past e n answer) (submitted past) c inside) where
    told : (m : Submitted) × Contains (submitted past) m × (answered_in past e n answer m ≡ c) → (k : ℕ) × (ans : Answer) × (e.input ≡ Told k ans) × (c.call.number ≡ k)
    told f = by_number (f.0.call.number == n) refl where
      by_number : (b : Bool) → (f.0.call.number == n) ≡ b → (k : ℕ) × (ans : Answer) × (e.input ≡ Told k ans) × (c.call.number ≡ k)
      by_number true same = (n, answer, input, ap (λ (z : Submitted). z.call.number) (sym f.2) ∙ (ap (λ (k : Call). k.number) (same_answered past e n answer f.0).call ∙ eqb-true f.0.call.number n same))
      by_number false other =
          let unmarked : f.0 ≡ c = sym (ap (λ b. elim b as (λ z. Submitted) [ false ↦ f.0 | true ↦ record (f.0) { answer = option_or f.0.answer (Some (answer_of past e answer f.0.call)) } ]) other) ∙ f.2 in absurd (early f.0 f.1 unmarked)
  marked (Line text) input inside = absurd (early c inside refl)
  marked (Number text) input inside = absurd (early c inside refl)
  marked (Exit p) input inside = absurd (early c inside refl)
  marked (Spawned p ok) input inside = absurd (early c inside refl)
  marked Wake input inside = absurd (early c inside refl)

  by : Contains (mark past e e.input (submitted past)) c ⊎ IsNewCall (length past) e.reading e.effects.calls c → (n : ℕ) × (answer : Answer) × (e.input ≡ Told n answer) × (c.call.number ≡ n)
  by (inl old) = marked e.input refl old
  by (inr new) = absurd (none_some a (sym new.unmet ∙ is))

-- What is found and answered is none of the newest entry's calls.
find_old : (q : Submitted → Bool) (now at : ℕ) (cs : List Call) (ms : List Submitted) (m : Submitted) (a : Answered) → find q (fold (λ ds c. new_call at now c ∷ ds) ms cs) ≡ Some m → m.answer ≡ Some a → find q ms ≡ Some m
find_old q now at [] ms m a found is = found
find_old q now at (c ∷ cs) ms m a found is = by (q (new_call at now c)) refl (find_old q now at cs (new_call at now c ∷ ms) m a found is) where
  by : (b : Bool) → q (new_call at now c) ≡ b → cond b (Some (new_call at now c)) (find q ms) ≡ Some m → find q ms ≡ Some m
  by false other h = h
  by true mine h = absurd (none_some a (ap (λ (z : Submitted). z.answer) (some_value (new_call at now c) m h) ∙ is))

-- So the free's answer is the step's input.
pub free_answered : (st : Setting) (past : Trace) (e : Entry) (y : Step) (s : Session) (c : Submitted) (answer : Answer) → y.input ≡ e.input → y.past ≡ past → free_write (calls_of (e ∷ past) s) ≡ Some c → IsAnsweredAt (length past) c answer → FreeTold y s
free_answered st past e y s c answer input before free answered =
    let now = answered_now st past e c answered.0 there answered.1 answered.2 in
    record {
      number = now.0;
      answer = now.1;
      told = input ∙ now.2;
      call = (at_past now.0 now.1 now.2).0;
      free = ap (λ t. find (λ (d : Submitted). is_call_of s d && is_free_purpose d.call.purpose) (submitted t)) before ∙ (at_past now.0 now.1 now.2).1;
      its = (at_past now.0 now.1 now.2).2 ∙ now.3;
    } where
      chosen : Submitted → Bool
      chosen d = is_call_of s d && is_free_purpose d.call.purpose

      found : find (λ (d : Submitted). is_call_of s d && is_free_purpose d.call.purpose) (submitted (e ∷ past)) ≡ Some c
      found = sym (find_kept (is_call_of s) (λ (d : Submitted). is_free_purpose d.call.purpose) (submitted (e ∷ past))) ∙ free

      there : Contains (submitted (e ∷ past)) c
      there = (find_inside (λ (d : Submitted). is_call_of s d && is_free_purpose d.call.purpose) (submitted (e ∷ past)) c found).0

      at_past : (n : ℕ) (ans : Answer) → e.input ≡ Told n ans → (m : Submitted) × (find (λ (d : Submitted). is_call_of s d && is_free_purpose d.call.purpose) (submitted past) ≡ Some m) × (m.call.number ≡ c.call.number)
      at_past n ans told =
          let old : find (λ (d : Submitted). is_call_of s d && is_free_purpose d.call.purpose) (mark past e e.input (submitted past)) ≡ Some c =
          find_old (λ (d : Submitted). is_call_of s d && is_free_purpose d.call.purpose) e.reading (length past) e.effects.calls (mark past e e.input (submitted past)) c answered.0 found answered.1
          in
          let f =
          mapped_value (answered_in past e n ans) (find (λ (d : Submitted). is_call_of s d && is_free_purpose d.call.purpose) (submitted past)) c
          (sym (find_mapped (λ (d : Submitted). is_call_of s d && is_free_purpose d.call.purpose) (answered_in past e n ans) (submitted past)
          (λ d. ap (λ (k : Call). (k.session == s.number) && is_free_purpose k.purpose) (same_answered past e n ans d).call))
          ∙ (ap (λ i. find (λ (d : Submitted). is_call_of s d && is_free_purpose d.call.purpose) (mark past e i (submitted past))) (sym told) ∙ old))
          in
          (f.0, f.1, sym (ap (λ (k : Call). k.number) (same_answered past e n ans f.0).call) ∙ ap (λ (z : Submitted). z.call.number) f.2)

-- ---- the law

-- What a step has done by its end, said of its entry.
record DoneAtEnd (st : Setting) (past : Trace) (e : Entry) : Type 0 where
  recovers : (s : Session) (b : Begun) → Contains (sessions st past) s → recovery_of st (e ∷ past) s ≡ Some b → b.at ≡ length past → StopsSession st past e s None
  leaves : (s : Session) (j : Job) → Contains (sessions st past) s → leaving_job st (e ∷ past) s ≡ Some j → j.at ≡ length past → StopsSession st past e s (Some j.number)
  ends : (s : Session) (c : Submitted) (answer : Answer) → Contains (sessions st past) s → is_joined past s ≡ true → free_write (calls_of (e ∷ past) s) ≡ Some c → IsAnsweredAt (length past) c answer → is_joined (e ∷ past) s ≡ false

done_at_end : (st : Setting) (past : Trace) (e : Entry) (y : Step) → y.setting ≡ st → y.past ≡ past → entry_of y ≡ e → Stops y None → FreesEnd y → DoneAtEnd st past e
done_at_end st past e y setting before entry stops ends =
    subst (λ f. DoneAtEnd st past f) entry (subst (λ t. DoneAtEnd st t (entry_of y)) before (subst (λ k. DoneAtEnd k y.past (entry_of y)) setting (record {
      recovers = λ s b there is at. stops.recovers s b there is at refl;
      leaves = λ s j there is at. stops.leaves s j there is at;
      ends = λ s c answer there joined free answered. ends s there joined (free_answered y.setting y.past (entry_of y) y s c answer refl refl free answered);
    })))

pub recovery_is_lawful : (st : Setting) (past : Trace) (e : Entry) → IsDue st past e → WholeTrace st past → KillFacts st (e ∷ past) → Stops (due_step st past e.reading e.input) None → FreesEnd (due_step st past e.reading e.input)
    → LawfulRecovery st past e
recovery_is_lawful st past e due_one w k stops ends =
    record {
      recovers = λ s there b is at. done.recovers s b there is at;
      leaves = λ s there j is at. done.leaves s j there is at;
      recovery_kills = λ s there b is low late p inside.
          let bounds : BegunBefore (e ∷ past) b = begun_before st (e ∷ past) s b is in
          let most : b.kills_from ≤ b.at + 1 = bounds.most in
          let more : b.at + 1 < suc (length past) = low in
          killed_low b.at b.kills_from p (e ∷ past) bounds.least (k.recovery s b (now s there) is (omega (arith, most, more)) late p inside);
      leaving_kills = λ s there b is low late p inside.
          let job = mapped_value (λ (j : Job). record { at = j.at; reading = j.reading; kills_from = j.at + 1 }) (leaving_job st (e ∷ past) s) b is in
          let at : job.0.at ≡ b.at = ap (λ (z : Begun). z.at) job.2 in
          let kills : job.0.at + 1 ≡ b.kills_from = ap (λ (z : Begun). z.kills_from) job.2 in
          let more : b.at + 1 < suc (length past) = low in
          killed_low b.at b.kills_from p (e ∷ past) (omega (arith, at, kills)) (k.leaving s b (now s there) is (omega (arith, at, kills, more)) late p inside);
      fails = λ c p input stands. fails_one c p input stands;
      parts = λ s there joined may. parts_one s there joined may;
    } where
      y : Step
      y = due_step st past e.reading e.input

      fixed : Fixed st past e.reading (due_step st past e.reading e.input)
      fixed = due_is_of st past e.reading e.input

      end_is : seen (due_step st past e.reading e.input) ≡ e ∷ past
      end_is = due_is_seen st past e due_one

      entry : entry_of (due_step st past e.reading e.input) ≡ e
      entry = head_is (entry_of (due_step st past e.reading e.input)) e (due_step st past e.reading e.input).past past (due_is_seen st past e due_one)

      done : DoneAtEnd st past e
      done = done_at_end st past e (due_step st past e.reading e.input) fixed.setting fixed.before entry stops ends

      now : (s : Session) → Contains (sessions st past) s → Contains (sessions st (e ∷ past)) s
      now s there = contains_left (sessions st past) (begun_in st past (length (sessions st past)) e) s there

      fails_one : (c p : ℕ) → e.input ≡ Spawned c false → stands_for past c ≡ Some p → IsSent e p Term
      fails_one c p input stands =
          sent_at_end st past e p Term due_one (subst (λ i. IsSentBy p Term (due_step st past e.reading i)) (sym input) (failed_is_told st past e.reading c p stands))

      parts_one : (s : Session) → Contains (sessions st past) s → is_joined past s ≡ true → MayPart st past e s → is_joined (e ∷ past) s ≡ false
      parts_one s there joined (inr freed) = done.ends s freed.0 freed.1 there joined freed.2 freed.3
      parts_one s there joined (inl left_none) =
          subst (λ t. is_joined t s ≡ false) end_is
          (ends_at_last st past e.reading e.input s there joined (joined_registered st past None s w.facts.connections there joined)
          (subst (λ t. is_some (recovery_of (due_step st past e.reading e.input).setting t s) ≡ true) (sym end_is) (subst (λ k. is_some (recovery_of k (e ∷ past) s) ≡ true) (sym fixed.setting) left_none.0))
          (subst (λ t. holdings_of t s ≡ []) (sym end_is) left_none.1) (subst (λ t. has_open_write t s ≡ false) (sym end_is) left_none.2))
