-- What is known of names and joinings is kept by each act, and holds once a step has begun.
use Rattle.sl_due_facts.proofs.Acts.DecisionsAreTheirs.{Of}
use Rattle.sl_due_facts.proofs.Acts.InputsKeep.{has_heard}
use Rattle.sl_due_facts.proofs.Acts.LoopsKeep.{for_each_keeps, when_keeps}
use Rattle.sl_due_facts.proofs.Acts.PlainActs.{line_has}
use Rattle.sl_due_facts.specs.Acts.Acts.{Has, next_of_settling}
use Rattle.sl_area.specs.AreaLayout.{request_offset}
use Rattle.sl_due.specs.DueAnswers.{set_reply}
use Rattle.sl_due.specs.DueCommands.{carry_decision, decided}
use Rattle.sl_due.specs.CarriedDelta.{carry_delta}
use Rattle.sl_due.specs.DueRecovery.{begin_recoveries, begin_recovery, begins_now, signal_and_refuse}
use Rattle.sl_due.specs.DueInputs.{end_holdings, leave_holdings, refuse_jobs_of, started_reply}
use Rattle.sl_due.specs.CarriedLease.{carry_lease, next_of_lease}
use Rattle.sl_due.specs.DueRequests.{after_value_read, bits_due, value_reply}
use Rattle.sl_due.specs.Steps.{Step, add_reply, begin_step, seen, with_input}
use Rattle.sl_due.specs.declared.decision.Decision.{Decision}
use Rattle.sl_due.specs.declared.decision.Decision.TheVariants.{ConvertsTo, GetsValue, GivesUp, Joins, Leaves, ReadsArea, Replies, Requests, SetsValue, Shares, TakesOver}
use Rattle.sl_due_facts.proofs.Jobs.AnsweredCallsFit.{both_of}
use Rattle.sl_due_facts.proofs.Jobs.CallsOfJobsFit.{joining_of}
use Rattle.sl_due_facts.proofs.Jobs.CallsStay.{is_special, late}
use Rattle.sl_due_facts.proofs.Jobs.DecisionsFit.{DecisionFits, decisions_fit}
use Rattle.sl_due_facts.proofs.Jobs.EffectsAreAllowed.{DecisionAllowed, DeltaAllowed, LeaseAllowed, decision, delta, ended, exited, lease, left, refusal, removal, removal_of_refused, requested, said, sent, signalled, stopped}
use Rattle.sl_due_facts.proofs.Jobs.JobFactsBegin.{running_then, sessions_then}
use Rattle.sl_due_facts.proofs.Jobs.JobsAreAllowed.{late_on_survey, late_on_wake, late_unless_told}
use Rattle.sl_due_facts.proofs.Jobs.LinesAreAllowed.{IsBegun, late_on_line}
use Rattle.sl_due_facts.proofs.Jobs.NearlyPlainActs.{AnyMove, AnyStart}
use Rattle.sl_due_facts.proofs.Jobs.RepliesComeAfter.{IsLateLease, joining_late, lease_late, set_late, value_late, wake_late}
use Rattle.sl_due_facts.proofs.Jobs.SessionsArePresent.{present_inside, present_is}
use Rattle.sl_due_facts.proofs.Jobs.SessionsStand.{joined_then}
use Rattle.sl_trace.specs.Jobs.{job_of_start}
use Rattle.sl_trace.specs.LeaseDecisions.{lease_place}
use Rattle.sl_trace.specs.Leases.{holdings_on, known, lver_written, spot_of_call}
use Rattle.sl_trace.specs.declared.lease.LeaseNext.{LeaseNext}
use Rattle.sl_words.proofs.Lists.{find_inside, kept_inside}
use Rattle.sl_due_facts.proofs.Sessions.NameActs.{begun_named, joining_named}
use Rattle.sl_due_facts.proofs.Sessions.NameEffects.{present_by}
use Rattle.sl_due_facts.proofs.Sessions.NamesAreAllowed.{Holds, NameCall, NameReply, active_joined, begin_at, decision_named, free_named, freed_named, heard_joined, joined_unrefused, lease_named, names_allow, renewal_named, renewed_named, request_named}
use Rattle.sl_due_facts.proofs.Sessions.NamesGrow.{call_names, input_names, reply_names}
use Rattle.sl_due_facts.specs.Sessions.SessionLaws.{HasNameFacts, NameFactsAreKept, NameFactsBegin}
use Rattle.sl_trace.specs.DeltaDecisions.{delta_known, delta_of_session, next_after_free, next_after_renewal, next_free, next_in_joining, next_on_wake, next_renewal}
use Rattle.sl_trace.specs.Sessions.{calls_of, generation_of, has_open_write, holdings_of, is_join_done, is_joined, is_present, joined_after, last_renewal, present_sessions, recovery_of, refused_after, removed_after, session_numbered, sessions}
use Rattle.sl_trace.specs.declared.delta.DeltaNext.{DeltaNext}
use Rattle.sl_trace.specs.declared.session.Session.{Session}
use Rattle.sl_due_facts.specs.Facts.HeardCall.{heard_by}
use Rattle.sl_due_facts.specs.Facts.SessionFacts.{NameFacts}
use Rattle.sl_due_facts.specs.Facts.AllFacts.{Whole}
use Rattle.sl_trace.specs.Traces.{Replied, Setting, Submitted, Trace, holdings, is_shared, job_of, next_job, no_effects, reply_to, same_place, submitted}
use Rattle.sl_trace.specs.declared.command.Command.{Command}
use Rattle.sl_trace.specs.declared.command.LockspaceArg.{LockspaceArg}
use Rattle.sl_trace.specs.declared.effects.Grant.{Grant}
use Rattle.sl_trace.specs.declared.effects.Op.TheVariants.{ReadSectors}
use Rattle.sl_trace.specs.declared.effects.Purpose.TheVariants.{Lease, Renewal, RequestRead, SeeRequest}
use Rattle.sl_trace.specs.declared.effects.Signal.TheVariants.{Kill, Term}
use Rattle.sl_trace.specs.declared.effects.Spot.{Spot}
use Rattle.sl_trace.specs.declared.effects.Work.{Work}
use Rattle.sl_trace.specs.declared.effects.Work.TheVariants.{Settling}
use Rattle.sl_trace.specs.declared.input.Answer.TheVariants.{Read}
use Rattle.sl_trace.specs.declared.input.Input.TheVariants.{Answer as Told, Exit, Line, Number, Spawned, Wake}
use Rattle.sl_trace.specs.declared.reply.Reply.{Reply}
use Rattle.sl_trace.specs.declared.reply.Reply.TheVariants.{BadCommand as Misread, Done, IoFault, IoTimeout, NoProcess, Recovering, SpawnFault}
use Rattle.sl_words.proofs.CaseLaws.{one_value}
use Rattle.sl_words.specs.Words.{choose}
use Rattle.std.proofs.Common.{ap, inl, inr, refl, subst, sym, ◌∙◌}
use Rattle.std.proofs.lemmas.Bool.{eqb-true}
use Rattle.std.specs.Prelude.{Bool, Contains, List, None, Ok, Option, Some, [], false, is_some, length, not, option_and_then, true, ℕ, ◌&&◌, ◌+◌, ◌==◌, ◌∷◌, ◌≡◌, ◌⊎◌}

-- Who holds is joined.
pub holder_joined : (x : Step) (s : Session) (spot : Spot) (g : Grant) → Whole x → Has x s → Contains (holdings_on (seen x) s spot) g → is_some (joined_after (seen x) s) ≡ true
holder_joined x s spot g h has there =
    let under = kept_inside (λ (z : Grant). same_place z.path z.offset spot.path spot.base) (holdings_of (seen x) s) g there in
    let held = kept_inside (λ (z : Grant). z.session == s.number) (holdings (seen x)) g under.0 in
    let its = h.facts.holdings.owned g held.0 in
    let one : its.0 ≡ s = one_value its.0 s (session_numbered x.setting (seen x) s.number) (subst (λ n. session_numbered x.setting (seen x) n ≡ Some its.0) (eqb-true g.session s.number held.1) its.1) has in
    joined_then (seen x) s (subst (λ (z : Session). is_joined (seen x) z ≡ true) one its.2)

delta_names : (x : Step) (s : Session) (n : DeltaNext) → DeltaAllowed (NameReply x) (NameCall x) AnyMove x s n → HasNameFacts x → HasNameFacts (carry_delta s n x)
delta_names x s n may h = delta (Holds x) HasNameFacts (NameReply x) (NameCall x) AnyStart AnyMove (names_allow x) x s n may (begin_at x h)

lease_names : (x : Step) (s : Session) (spot : Spot) (work : Work) (n : LeaseNext) → LeaseAllowed (NameReply x) (NameCall x) AnyStart x s spot work n → HasNameFacts x → HasNameFacts (carry_lease s spot work n x)
lease_names x s spot work n may h = lease (Holds x) HasNameFacts (NameReply x) (NameCall x) AnyStart AnyMove (names_allow x) x s spot work n may (begin_at x h)

answer_names : (x : Step) (j : ℕ) (r : Reply) → is_special r ≡ false → HasNameFacts x → HasNameFacts (add_reply j r x)
answer_names x j r after h = reply_names (heard_by x.input) x j r (late x r after) h

line_names : (x : Step) (text : List ℕ) (j : ℕ) (r : Reply) → x.input ≡ Wake → x.effects.calls ≡ [] → HasNameFacts x → HasNameFacts (add_reply j r (with_input (Line text) x))
line_names x text j r wake bare h = reply_names None (with_input (Line text) x) j r (late_on_line x text r) (input_names x (Line text) wake bare h)

exit_names : (x : Step) (n : ℕ) → x.input ≡ Wake → x.effects.calls ≡ [] → HasNameFacts x → HasNameFacts (refuse_jobs_of n (leave_holdings n (with_input (Exit n) x)))
exit_names x n wake bare h =
    let w : Step = with_input (Exit n) x in
    (exited (Holds w) HasNameFacts (NameReply w) (NameCall w) AnyStart AnyMove (names_allow w) (leave_holdings n w) n (λ j there. late_unless_told w (NoProcess n) refl)
    (left (Holds w) HasNameFacts (NameReply w) (NameCall w) AnyStart AnyMove (names_allow w) w n (begin_at w (input_names x (Exit n) wake bare h)))).names

carried_names : (x : Step) (text : List ℕ) (c : Command) (d : Decision) → Whole x → x.input ≡ Wake → x.effects.calls ≡ [] → x.setting.read text ≡ Ok c → decided x.setting (seen x) x.reading c ≡ d
    → HasNameFacts (carry_decision (next_job x.setting (seen x)) c d (with_input (Line text) x))
carried_names x text c d h wake bare says is = by d fits (decision_named x text c d has fits) where
  fits : DecisionFits x.setting (seen x) c d
  fits = subst (λ z. DecisionFits x.setting (seen x) c z) is (decisions_fit x.setting (seen x) x.reading c)

  has : Of (Has (with_input (Line text) x)) d
  has = subst (λ z. Of (Has (with_input (Line text) x)) z) is (line_has x text c bare)

  begins : (n : ℕ) (a : LockspaceArg) → DecisionFits x.setting (seen x) c (Joins n a) → HasNameFacts (carry_decision (next_job x.setting (seen x)) c (Joins n a) (with_input (Line text) x))
  begins n a f = begun_named x text c n a wake bare says f.0 f.1 f.2 h.facts.calls h.facts.names

  begun : (z : Decision) → IsBegun z → DecisionFits x.setting (seen x) c z → HasNameFacts (carry_decision (next_job x.setting (seen x)) c z (with_input (Line text) x))
  begun (Joins n a) k f = begins n a f
  begun (Replies r) k f = absurd k
  begun (Leaves s) k f = absurd k
  begun (ReadsArea s r) k f = absurd k
  begun (Shares s lver) k f = absurd k
  begun (GivesUp s g) k f = absurd k
  begun (TakesOver s g) k f = absurd k
  begun (ConvertsTo s r mode) k f = absurd k
  begun (Requests s r) k f = absurd k
  begun (SetsValue s spot v) k f = absurd k
  begun (GetsValue s spot) k f = absurd k

  by : (z : Decision) → DecisionFits x.setting (seen x) c z
      → IsBegun z ⊎ DecisionAllowed (Holds (with_input (Line text) x)) (NameReply (with_input (Line text) x)) (NameCall (with_input (Line text) x)) AnyStart (with_input (Line text) x) (next_job x.setting (seen x)) c z
      → HasNameFacts (carry_decision (next_job x.setting (seen x)) c z (with_input (Line text) x))
  by z f (inl k) = begun z k f
  by z f (inr may) =
      let w : Step = with_input (Line text) x in
      decision (Holds w) HasNameFacts (NameReply w) (NameCall w) AnyStart AnyMove (names_allow w) w (next_job x.setting (seen x)) c z may (λ n a joins. begins n a (subst (λ q. DecisionFits x.setting (seen x) c q) joins f))
      (begin_at w (input_names x (Line text) wake bare h.facts.names))

pub name_facts_are_kept : NameFactsAreKept
unfolding after_value_read
name_facts_are_kept =
    record {
      kills = λ x s has due h. (signalled (Holds x) HasNameFacts (NameReply x) (NameCall x) AnyStart AnyMove (names_allow x) tt x Kill s (begin_at x h.facts.names)).names;
      times_out = λ x j m wake bare runs waits late_one h.
          (refusal (Holds x) HasNameFacts (NameReply x) (NameCall x) AnyStart AnyMove (names_allow x) x j (IoTimeout m.call.number m.reading x.reading) (late_on_wake x (IoTimeout m.call.number m.reading x.reading) wake) (λ z is. tt) (begin_at x h.facts.names)).names;
      hears = λ x number answer wake bare expected h. input_names x (Told number answer) wake bare h.facts.names;
      counts = λ x text wake bare h. input_names x (Number text) wake bare h.facts.names;
      exits = λ x n wake bare one h. exit_names x n wake bare h.facts.names;
      exits_as_none = λ x n wake bare none h. input_names x (Exit n) wake bare h.facts.names;
      starts = λ x n ok wake bare expected h. input_names x (Spawned n ok) wake bare h.facts.names;
      fails_to_start = λ x n input h.
          (said (Holds x) HasNameFacts (NameReply x) (NameCall x) AnyStart AnyMove (names_allow x) (end_holdings n x) (job_of_start (seen x) n) SpawnFault (λ j is. late x SpawnFault refl)
          (ended (Holds x) HasNameFacts (NameReply x) (NameCall x) AnyStart AnyMove (names_allow x) x n (begin_at x h.facts.names))).names;
      signals_instead = λ x n o input stood h. ((names_allow x).signals x o Term (begin_at x h.facts.names)).names;
      says_started = λ x n j input is runs h. answer_names x j (started_reply (seen x) n) refl h.facts.names;
      misreads = λ x text column wake bare says h. line_names x text (next_job x.setting (seen x)) (Misread column) wake bare h.facts.names;
      answers = λ x text c r wake bare says is h. line_names x text (next_job x.setting (seen x)) r wake bare h.facts.names;
      carries = λ x text c d wake bare says is more h. carried_names x text c d h wake bare says is;
      joins_on = λ x s j step m answer hears is runs h.
          let there = (find_inside (λ (z : Submitted). z.call.number == hears.number) (submitted (seen x)) m hears.call).0 in
          joining_named x s j (has_heard x s m answer hears) (joining_of x s m j step (both_of x h) there hears.session is) runs (λ r after. late x r after) h.facts.names
          (next_in_joining (delta_of_session x.setting s) (generation_of (seen x) s) (calls_of (seen x) s) x.reading m step answer)
          (joining_late (delta_of_session x.setting s) (generation_of (seen x) s) (calls_of (seen x) s) x.reading m step answer);
      ends_joining = λ x s j step m answer hears is stops h.
          (removal_of_refused (Holds x) HasNameFacts (NameReply x) (NameCall x) AnyStart AnyMove (names_allow x) x s tt (begin_at x h.facts.names)).names;
      renewed = λ x s m answer hears is h.
          delta_names x s (next_after_renewal (is_some (recovery_of x.setting (seen x) s)) m.reading answer)
          (renewed_named x s (is_some (recovery_of x.setting (seen x) s)) m.reading answer (has_heard x s m answer hears) (heard_joined x s m answer Renewal h hears is refl)) h.facts.names;
      freed = λ x s j m answer hears is h. delta_names x s (next_after_free j m.call.number answer) (freed_named x s j m.call.number answer) h.facts.names;
      shown = λ x s m bytes hears is joined begins h.
          (stopped (Holds x) HasNameFacts (NameReply x) (NameCall x) AnyStart AnyMove (names_allow x) tt x s None
          (λ z k j there. late_on_survey x s m (Read bytes) (Recovering (last_renewal z.setting (seen z) s)) h.facts.calls hears (ap (λ p. job_of p) is)) (begin_at x h.facts.names)).names;
      sees = λ x s number bytes spot g has input held h.
          let found = find_inside (λ (z : Grant). not (is_shared z.mode)) (holdings_on (seen x) s spot) g held in
          call_names (heard_by x.input) x s g.path SeeRequest (request_offset x.setting.layout g.offset) (ReadSectors 1) has refl (joined_unrefused (seen x) s (holder_joined x s spot g h has found.0)) h.facts.names;
      leads_on = λ x s work step m answer aim hears is on aims h.
          let n : LeaseNext = next_of_lease x.setting (seen x) s (spot_of_call x.setting.layout m) aim m step answer in
          lease_names x s (spot_of_call x.setting.layout m) work n
          (lease_named x x s (spot_of_call x.setting.layout m) work n (has_heard x s m answer hears) (heard_joined x s m answer (Lease work step) h hears is refl)
          (λ r same. late x r (subst (λ k. IsLateLease k) same (lease_late (lease_place x.setting s) (known x.setting (seen x) s (spot_of_call x.setting.layout m)) aim m.call.number (lver_written m) step answer)))) h.facts.names;
      fails = λ x s m j hears lone runs h. answer_names x j (IoFault m.call.number) refl h.facts.names;
      has_asked = λ x s m j owner hears is runs h. answer_names x j Done refl h.facts.names;
      has_set = λ x s m j hears is runs h. answer_names x j (set_reply m) (set_late m) h.facts.names;
      asks = λ x s m j bytes c hears is runs reads_one h.
          requested (Holds x) HasNameFacts (NameReply x) (NameCall x) AnyStart AnyMove (names_allow x) x s j bytes c
          (request_named x s j bytes c (has_heard x s m (Read bytes) hears) (heard_joined x s m (Read bytes) (RequestRead j) h hears is refl)) (begin_at x h.facts.names);
      tells = λ x s m j bytes hears is runs h. answer_names x j (value_reply x.setting.layout bytes) (value_late x.setting.layout bytes) h.facts.names;
      warns = λ x s m bytes g signal hears is held own says h. (sent (Holds x) HasNameFacts (NameReply x) (NameCall x) AnyStart AnyMove (names_allow x) tt x g.process signal (begin_at x h.facts.names)).names;
      joins_in_time = λ x s j has wake is runs h.
          joining_named x s j has is runs (λ r after. late x r after) h.facts.names (next_on_wake (delta_of_session x.setting s) x.reading (calls_of (seen x) s)) (wake_late (delta_of_session x.setting s) x.reading (calls_of (seen x) s));
      renews = λ x s has wake joined h.
          delta_names x s (next_renewal (delta_of_session x.setting s) x.reading (delta_known x.setting (seen x) s) (bits_due x.setting (calls_of (seen x) s) x.reading))
          (renewal_named x s (delta_of_session x.setting s) x.reading (delta_known x.setting (seen x) s) (bits_due x.setting (calls_of (seen x) s) x.reading) has (joined_then (seen x) s joined)) h.facts.names;
      settles = λ x s spot has wake active whole none h.
          let n : LeaseNext = next_of_settling x.setting (seen x) s spot in
          lease_names x s spot Settling n (lease_named x x s spot Settling n has (active_joined x.setting (seen x) s active) (λ r same. late_on_wake x r wake)) h.facts.names;
      parts = λ x s has joined recovers_one free quiet h. (removal (Holds x) HasNameFacts (NameReply x) (NameCall x) AnyStart AnyMove (names_allow x) x s.lockspace tt (begin_at x h.facts.names)).names;
      frees = λ x s has joined well free quiet h.
          delta_names x s (next_free (delta_of_session x.setting s) x.reading (delta_known x.setting (seen x) s))
          (free_named x s (delta_of_session x.setting s) x.reading (delta_known x.setting (seen x) s) has (joined_then (seen x) s joined)) h.facts.names;
    }

-- ---- once a step has begun

pub joined_on_wake : (past : Trace) (now : ℕ) (s : Session) → joined_after (record { reading = now; input = Wake; effects = no_effects } ∷ past) s ≡ joined_after past s
joined_on_wake past now s = by s.job where
  same : (j : ℕ) → reply_to (record { reading = now; input = Wake; effects = no_effects } ∷ past) j ≡ reply_to past j
  same j = either (reply_to past j) where
    either : (o : Option Replied) → (elim o as (λ z. Option Replied) [ Some r ↦ Some r | None ↦ None ]) ≡ o
    either (Some r) = refl
    either None = refl

  by : (o : Option ℕ)
      → (elim o as (λ z. Option ℕ) [ None ↦ Some 0 | Some j ↦ option_and_then (λ (r : Replied). choose (is_join_done r.reply) (r.at + 1)) (reply_to (record { reading = now; input = Wake; effects = no_effects } ∷ past) j) ])
      ≡ (elim o as (λ z. Option ℕ) [ None ↦ Some 0 | Some j ↦ option_and_then (λ (r : Replied). choose (is_join_done r.reply) (r.at + 1)) (reply_to past j) ])
  by None = refl
  by (Some j) = ap (λ o. option_and_then (λ (r : Replied). choose (is_join_done r.reply) (r.at + 1)) o) (same j)

pub refused_on_wake : (past : Trace) (now : ℕ) (s : Session) → refused_after (record { reading = now; input = Wake; effects = no_effects } ∷ past) s ≡ refused_after past s
refused_on_wake past now s = by s.job where
  same : (j : ℕ) → reply_to (record { reading = now; input = Wake; effects = no_effects } ∷ past) j ≡ reply_to past j
  same j = either (reply_to past j) where
    either : (o : Option Replied) → (elim o as (λ z. Option Replied) [ Some r ↦ Some r | None ↦ None ]) ≡ o
    either (Some r) = refl
    either None = refl

  by : (o : Option ℕ)
      → (elim o as (λ z. Option ℕ) [ None ↦ None | Some j ↦ option_and_then (λ (r : Replied). choose (not (is_join_done r.reply)) (r.at + 1)) (reply_to (record { reading = now; input = Wake; effects = no_effects } ∷ past) j) ])
      ≡ (elim o as (λ z. Option ℕ) [ None ↦ None | Some j ↦ option_and_then (λ (r : Replied). choose (not (is_join_done r.reply)) (r.at + 1)) (reply_to past j) ])
  by None = refl
  by (Some j) = ap (λ o. option_and_then (λ (r : Replied). choose (not (is_join_done r.reply)) (r.at + 1)) o) (same j)

pub removed_on_wake : (past : Trace) (now : ℕ) (s : Session) → removed_after (record { reading = now; input = Wake; effects = no_effects } ∷ past) s ≡ removed_after past s
removed_on_wake past now s = by (removed_after past s) (is_some (joined_after past s)) where
  by : (o : Option ℕ) (b : Bool) → (elim o as (λ z. Option ℕ) [ Some k ↦ Some k | None ↦ choose (b && false) (length past + 1) ]) ≡ o
  by (Some k) b = refl
  by None true = refl
  by None false = refl

pub present_on_wake : (past : Trace) (now : ℕ) (s : Session) → is_present (record { reading = now; input = Wake; effects = no_effects } ∷ past) s ≡ is_present past s
present_on_wake past now s =
    ap (λ o. present_by o (removed_after (record { reading = now; input = Wake; effects = no_effects } ∷ past) s) (refused_after (record { reading = now; input = Wake; effects = no_effects } ∷ past) s) (has_open_write past s)) (joined_on_wake past now s)
    ∙ (ap (λ o. present_by (joined_after past s) o (refused_after (record { reading = now; input = Wake; effects = no_effects } ∷ past) s) (has_open_write past s)) (removed_on_wake past now s)
    ∙ ap (λ o. present_by (joined_after past s) (removed_after past s) o (has_open_write past s)) (refused_on_wake past now s))

pub names_wake : (st : Setting) (past : Trace) (now : ℕ) → NameFacts st past None → HasNameFacts (begin_step st past now)
names_wake st past now h =
    record {
      apart = λ a b first second same. h.apart a b (before a first) (before b second) same;
      begun = λ s j there its. h.begun s j (old s there) its;
      done = λ s j m a there its runs inside is other. h.done s j m a (old s there) its (sym (running_then past now j) ∙ runs) inside is other;
      waits = λ s j m ms there its runs are answered other. h.waits s j m ms (old s there) its (sym (running_then past now j) ∙ runs) are answered other;
    } where
      old : (s : Session) → Contains (sessions st (seen (begin_step st past now))) s → Contains (sessions st past) s
      old s there = subst (λ ss. Contains ss s) (sessions_then st past now) there

      before : (s : Session) → Contains (present_sessions st (seen (begin_step st past now))) s → Contains (present_sessions st past) s
      before s there =
          let is = present_is st (seen (begin_step st past now)) s there in present_inside st past s (old s is.0) (sym (present_on_wake past now s) ∙ is.1)

pub name_facts_begin : NameFactsBegin
unfolding begin_recoveries begin_recovery
name_facts_begin st past e follows w =
    let x : Step = begin_step st past e.reading in
    (for_each_keeps (Holds x) (present_sessions st (seen x)) begin_recovery x
    (λ s there y k. when_keeps (Holds x) (begins_now (seen y) (recovery_of y.setting (seen y) s)) (signal_and_refuse s None) y
    (λ begins f. stopped (Holds x) HasNameFacts (NameReply x) (NameCall x) AnyStart AnyMove (names_allow x) tt y s None (λ z g j inside. late_on_wake x (Recovering (last_renewal z.setting (seen z) s)) refl) f) k)
    (begin_at x (names_wake st past e.reading w.facts.names))).names
