-- What is known of calls and of jobs is kept by each act.
use Rattle.sl_due_facts.proofs.Acts.AddedAtEnd.{any_last, begun_by}
use Rattle.sl_due_facts.proofs.Acts.DecisionsAreTheirs.{Of}
use Rattle.sl_due_facts.proofs.Acts.InputsKeep.{has_heard}
use Rattle.sl_due_facts.proofs.Acts.PlainActs.{line_has}
use Rattle.sl_due_facts.specs.Acts.Acts.{Acts, Has, Hears, lone_job, next_of_settling}
use Rattle.sl_due_facts.specs.Acts.TraceSoFar.{entry_of}
use Rattle.sl_area.specs.AreaLayout.{delta_offset}
use Rattle.sl_due.specs.DueAnswers.{set_reply}
use Rattle.sl_due.specs.DueCommands.{carry_decision, decided}
use Rattle.sl_due.specs.CarriedDelta.{carry_delta}
use Rattle.sl_due.specs.DueTimeOuts.{refuse}
use Rattle.sl_due.specs.DueRecovery.{signal_and_refuse}
use Rattle.sl_due.specs.DueInputs.{end_holdings, leave_holdings, refuse_jobs_of, started_reply, when_running}
use Rattle.sl_due.specs.CarriedLease.{carry_lease, next_of_lease}
use Rattle.sl_due.specs.DueRequests.{after_value_read, bits_due, value_reply}
use Rattle.sl_due.specs.Steps.{Step, add_call_of, add_reply, seen, with_input}
use Rattle.sl_due.specs.declared.decision.Decision.{Decision}
use Rattle.sl_due.specs.declared.decision.Decision.TheVariants.{ConvertsTo, GetsValue, GivesUp, Joins, Leaves, ReadsArea, Replies, Requests, SetsValue, Shares, TakesOver}
use Rattle.sl_due_facts.proofs.Jobs.AnsweredCallsFit.{at, both_of, free_allowed, freed_allowed, lease_allowed, leaving_call, renewal_allowed, renewed_allowed, request_allowed}
use Rattle.sl_due_facts.proofs.Jobs.CallsHaveFacts.{sessions_bare, sessions_told}
use Rattle.sl_due_facts.proofs.Jobs.CallsOfJobsFit.{JoinsOn, joining_allowed, joins_on_wake, joins_when_heard, no_job}
use Rattle.sl_due_facts.proofs.Jobs.CallsStay.{IsLate, is_special, late}
use Rattle.sl_due_facts.proofs.Jobs.DecisionsFit.{DecisionFits, decisions_fit}
use Rattle.sl_due_facts.proofs.Jobs.EffectsAreAllowed.{Allows, DecisionAllowed, DeltaAllowed, LeaseAllowed, decision, delta, ended, exited, lease, left, refusal, removal, removal_of_refused, requested, said, sent, signalled, stopped}
use Rattle.sl_due_facts.proofs.Jobs.JobFactsGrow.{Both, CallFits, call_kept, input_sees, reply_kept}
use Rattle.sl_due_facts.proofs.Jobs.JobsAreAllowed.{MayCall, MayMove, MayReply, MayStart, Meanwhile, allows, caller_numbered, late_on_survey, late_on_wake, late_unless_told, numbered_back, runner_numbered, starter_numbered, starts_nothing, stops_allowed}
use Rattle.sl_due_facts.proofs.Jobs.JobsAreNumbered.{next_before}
use Rattle.sl_due_facts.proofs.Jobs.LeaseCallsFit.{settling_allowed}
use Rattle.sl_due_facts.proofs.Jobs.LinesAreAllowed.{IsBegun, decision_allowed, late_on_line, new_command, new_free, new_numbered}
use Rattle.sl_due_facts.proofs.Jobs.RepliesComeAfter.{joining_late, lease_within, set_late, value_late, wake_late}
use Rattle.sl_trace.specs.Jobs.{job_of_start}
use Rattle.sl_trace.specs.LeaseDecisions.{lease_place}
use Rattle.sl_trace.specs.Leases.{known, lver_written, spot_of_call}
use Rattle.sl_trace.specs.declared.lease.LeaseNext.{LeaseNext}
use Rattle.sl_words.proofs.Lists.{find_inside, got_before, kept_inside}
use Rattle.sl_words.proofs.Places.{last_there}
use Rattle.sl_trace.specs.DeltaDecisions.{delta_known, delta_of_session, join_step_of, next_after_free, next_after_renewal, next_by_time, next_free, next_in_joining, next_on_wake, next_renewal}
use Rattle.sl_trace.specs.Sessions.{added, calls_of, generation_of, is_join_call, joining_session, recovery_of, sessions}
use Rattle.sl_trace.specs.declared.delta.DeltaNext.{DeltaNext}
use Rattle.sl_trace.specs.declared.delta.DeltaNext.TheVariants.{Nothing}
use Rattle.sl_trace.specs.declared.session.Session.{Session}
use Rattle.sl_due_facts.specs.Facts.AllFacts.{Whole}
use Rattle.sl_trace.specs.TraceLaws.{with_call}
use Rattle.sl_trace.specs.Traces.{Answered, Setting, Submitted, is_of_job, is_running, job_of, next_call, next_job, outstanding, submitted, waiting_call}
use Rattle.sl_trace.specs.declared.command.Command.{Command}
use Rattle.sl_trace.specs.declared.command.Command.TheVariants.{AddLockspace}
use Rattle.sl_trace.specs.declared.command.LockspaceArg.{LockspaceArg}
use Rattle.sl_trace.specs.declared.effects.Call.{Call}
use Rattle.sl_trace.specs.declared.effects.Entry.{Entry}
use Rattle.sl_trace.specs.declared.effects.JoinStep.TheVariants.{FirstRead}
use Rattle.sl_trace.specs.declared.effects.Op.{Op}
use Rattle.sl_trace.specs.declared.effects.Op.TheVariants.{ReadSectors}
use Rattle.sl_trace.specs.declared.effects.Purpose.{Purpose}
use Rattle.sl_trace.specs.declared.effects.Purpose.TheVariants.{Joining, RequestRead, RequestWrite, SeeRequest, ValueRead, ValueWrite}
use Rattle.sl_trace.specs.declared.effects.Signal.TheVariants.{Kill, Term}
use Rattle.sl_trace.specs.declared.effects.Spot.{Spot}
use Rattle.sl_trace.specs.declared.effects.Work.{Work}
use Rattle.sl_trace.specs.declared.effects.Work.TheVariants.{Settling}
use Rattle.sl_trace.specs.declared.input.Answer.{Answer}
use Rattle.sl_trace.specs.declared.input.Answer.TheVariants.{Failed, Read, Written}
use Rattle.sl_trace.specs.declared.input.Input.TheVariants.{Answer as Told, Exit, Line, Number, Spawned, Wake}
use Rattle.sl_trace.specs.declared.reply.Reply.{Reply}
use Rattle.sl_trace.specs.declared.reply.Reply.TheVariants.{BadCommand as Misread, Done, IoFault, IoTimeout, NoProcess, SpawnFault}
use Rattle.sl_words.proofs.CaseLaws.{none_some, some_value}
use Rattle.sl_words.proofs.WordLaws.{some_is_true}
use Rattle.std.proofs.Common.{ap, inl, inr, refl, subst, sym, ◌∙◌}
use Rattle.std.proofs.lemmas.Bool.{eqb-true}
use Rattle.std.specs.Prelude.{Contains, List, None, Ok, Option, Result, Some, [], false, is_none, is_some, length, slice_get, true, ℕ, ◌++◌, ◌==◌, ◌∷◌, ◌≡◌, ◌⊎◌}

-- ---- what is allowed at a step keeps both

kept_delta : (x : Step) (s : Session) (n : DeltaNext) → DeltaAllowed (MayReply x) (MayCall x) MayMove x s n → Both x → Both (carry_delta s n x)
kept_delta x s n may b = delta (Meanwhile x) Both (MayReply x) (MayCall x) (MayStart x) MayMove (allows x) x s n may (at x b)

kept_lease : (x : Step) (s : Session) (spot : Spot) (work : Work) (n : LeaseNext) → LeaseAllowed (MayReply x) (MayCall x) (MayStart x) x s spot work n → Both x → Both (carry_lease s spot work n x)
kept_lease x s spot work n may b = lease (Meanwhile x) Both (MayReply x) (MayCall x) (MayStart x) MayMove (allows x) x s spot work n may (at x b)

kept_reply : (x : Step) (j : ℕ) (r : Reply) → MayReply x j r → Both x → Both (add_reply j r x)
kept_reply x j r may b = reply_kept x j r may.0 may.1 b

kept_call : (x : Step) (s : Session) (path : List ℕ) (p : Purpose) (o : ℕ) (op : Op) → MayCall x s path p o op → Both x → Both (add_call_of s.number path p o op x)
kept_call x s path p o op may b = p_calls (allows x) may (at x b) where
  p_calls : Allows (Meanwhile x) Both (MayReply x) (MayCall x) (MayStart x) MayMove → MayCall x s path p o op → Meanwhile x x → Both (add_call_of s.number path p o op x)
  p_calls k m h = k.calls x s path p o op m h

-- ---- a session begins

pub begun_sessions : (x : Step) (text : List ℕ) (n : ℕ) (a : LockspaceArg) (made : Call) → x.input ≡ Wake → x.effects.calls ≡ [] → x.setting.read text ≡ Ok (AddLockspace a) → n ≡ length (sessions x.setting (seen x))
    → is_join_call FirstRead made.purpose ≡ true
    → sessions x.setting (with_call made (entry_of (with_input (Line text) x)) ∷ x.past) ≡ sessions x.setting (seen (with_input (Line text) x)) ++ joining_session n (next_job x.setting (seen x)) a ∷ []
begun_sessions x text n a made wake bare reads next look =
    let st : Setting = x.setting in
    let ss : List Session = sessions st x.past in
    let e : Entry = entry_of (with_input (Line text) x) in
    let at_last : n ≡ length ss = next ∙ ap (λ zs. length zs) (sessions_bare x bare) in
    let begun : begun_by st x.past (length ss) e true ≡ joining_session (length ss) (next_job st x.past) a ∷ [] =
    ap (λ (o : Result Command ℕ). elim (added o) as (λ z. List Session) [ None ↦ [] | Some b ↦ joining_session (length ss) (next_job st x.past) b ∷ [] ]) reads in
    ap (λ b. ss ++ begun_by st x.past (length ss) e b) (any_last (λ (c : Call). is_join_call FirstRead c.purpose) x.effects.calls made look)
    ∙ (ap (λ zs. ss ++ zs) begun
    ∙ (ap (λ k. ss ++ joining_session k (next_job st x.past) a ∷ []) (sym at_last)
    ∙ (ap (λ j. ss ++ joining_session n j a ∷ []) (sym (next_before x wake)) ∙ ap (λ zs. zs ++ joining_session n (next_job st (seen x)) a ∷ []) (sym (sessions_bare (with_input (Line text) x) bare)))))

begins_kept : (x : Step) (text : List ℕ) (c : Command) (n : ℕ) (a : LockspaceArg) → x.input ≡ Wake → x.effects.calls ≡ [] → x.setting.read text ≡ Ok c → c ≡ AddLockspace a → n ≡ length (sessions x.setting (seen x)) → Both x
    → Both (carry_decision (next_job x.setting (seen x)) c (Joins n a) (with_input (Line text) x))
unfolding carry_decision
begins_kept x text c n a wake bare says adds next b =
    let w : Step = with_input (Line text) x in
    let j : ℕ = next_job x.setting (seen x) in
    let s : Session = joining_session n j a in
    let o : ℕ = delta_offset x.setting.layout a.offset a.id in
    let made : Call = record { number = next_call x.setting (seen w); session = n; purpose = Joining j FirstRead; path = a.path; offset = o; op = ReadSectors 1 } in
    let says_adds : x.setting.read text ≡ Ok (AddLockspace a) = says ∙ ap (λ z. Ok z) adds in
    let grown : sessions x.setting (with_call made (entry_of w) ∷ x.past) ≡ sessions x.setting (seen w) ++ s ∷ [] = begun_sessions x text n a made wake bare says_adds next refl in
    let at_last : n ≡ length (sessions x.setting (seen w)) = next ∙ ap (λ zs. length zs) (sym (sessions_told x (Line text) bare)) in
    call_kept w s a.path (Joining j FirstRead) o (ReadSectors 1)
    (ap (λ ss. slice_get ss n) grown ∙ (ap (λ k. slice_get (sessions x.setting (seen w) ++ s ∷ []) k) at_last ∙ last_there (sessions x.setting (seen w)) s))
    (λ k z is. ap (λ ss. slice_get ss k) grown ∙ got_before (sessions x.setting (seen w)) (s ∷ []) k z is)
    (λ i of. subst (λ q. CallFits w s a.path (Joining j FirstRead) o q) (some_value j i of) (record {
      command = AddLockspace a;
      reads = new_command x text (AddLockspace a) wake says_adds;
      free = new_free x text b wake bare;
      fits = λ m path by. refl;
    }))
    (input_sees x (Line text) wake bare refl b)

line_kept : (x : Step) (text : List ℕ) (c : Command) (d : Decision) → Whole x → x.input ≡ Wake → x.effects.calls ≡ [] → x.setting.read text ≡ Ok c → decided x.setting (seen x) x.reading c ≡ d
    → Both (carry_decision (next_job x.setting (seen x)) c d (with_input (Line text) x))
line_kept x text c d h wake bare says is = by_kind d (decision_allowed x text c d h.setting (both_of x h) wake bare says has fits) fits where
  fits : DecisionFits x.setting (seen x) c d
  fits = subst (λ z. DecisionFits x.setting (seen x) c z) is (decisions_fit x.setting (seen x) x.reading c)

  has : Of (Has (with_input (Line text) x)) d
  has = subst (λ z. Of (Has (with_input (Line text) x)) z) is (line_has x text c bare)

  begun : (z : Decision) → IsBegun z → DecisionFits x.setting (seen x) c z → Both (carry_decision (next_job x.setting (seen x)) c z (with_input (Line text) x))
  begun (Replies r) k f = absurd k
  begun (Leaves s) k f = absurd k
  begun (ReadsArea s r) k f = absurd k
  begun (Shares s lver) k f = absurd k
  begun (GivesUp s g) k f = absurd k
  begun (TakesOver s g) k f = absurd k
  begun (ConvertsTo s r mode) k f = absurd k
  begun (Requests s r) k f = absurd k
  begun (SetsValue s spot v) k f = absurd k
  begun (GetsValue s spot) k f = absurd k
  begun (Joins n a) k f = begins_kept x text c n a wake bare says f.0 f.1 (both_of x h)

  by_kind : (z : Decision) → IsBegun z ⊎ DecisionAllowed (Meanwhile (with_input (Line text) x)) (MayReply (with_input (Line text) x)) (MayCall (with_input (Line text) x)) (MayStart (with_input (Line text) x)) (with_input (Line text) x) (next_job x.setting (seen x)) c z
      → DecisionFits x.setting (seen x) c z → Both (carry_decision (next_job x.setting (seen x)) c z (with_input (Line text) x))
  by_kind z (inl k) f = begun z k f
  by_kind z (inr may) f =
      let w : Step = with_input (Line text) x in
      decision (Meanwhile w) Both (MayReply w) (MayCall w) (MayStart w) MayMove (allows w) w (next_job x.setting (seen x)) c z may
      (λ n a joins. begins_kept x text c n a wake bare says (subst (λ q. DecisionFits x.setting (seen x) c q) joins f).0 (subst (λ q. DecisionFits x.setting (seen x) c q) joins f).1 (both_of x h))
      (at w (input_sees x (Line text) wake bare refl (both_of x h)))

-- ---- all acts

stop_kept : (x : Step) (s : Session) (kept_one : Option ℕ) → ((r : Reply) → IsLate x r) → Both x → Both (signal_and_refuse s kept_one x)
stop_kept x s kept_one after b =
    (stopped (Meanwhile x) Both (MayReply x) (MayCall x) (MayStart x) MayMove (allows x) (starts_nothing x) x s kept_one (λ z k j there. stops_allowed x s after z k j there) (at x b)).0

exit_kept : (x : Step) (n : ℕ) → x.input ≡ Wake → x.effects.calls ≡ [] → Both x → Both (refuse_jobs_of n (leave_holdings n (with_input (Exit n) x)))
exit_kept x n wake bare b =
    let w : Step = with_input (Exit n) x in
    let y : Step = leave_holdings n w in
    let k : Meanwhile w y = left (Meanwhile w) Both (MayReply w) (MayCall w) (MayStart w) MayMove (allows w) w n (at w (input_sees x (Exit n) wake bare refl b)) in
    (exited (Meanwhile w) Both (MayReply w) (MayCall w) (MayStart w) MayMove (allows w) y n
    (λ j there. (numbered_back w y j.number k.1 (runner_numbered y j there), late_unless_told w (NoProcess n) refl)) k).0

spawn_failed : (x : Step) (n : ℕ) → x.input ≡ Spawned n false → Both x → Both (when_running (job_of_start (seen x) n) SpawnFault (end_holdings n x))
spawn_failed x n input b =
    let y : Step = end_holdings n x in
    let k : Meanwhile x y = ended (Meanwhile x) Both (MayReply x) (MayCall x) (MayStart x) MayMove (allows x) x n (at x b) in
    (said (Meanwhile x) Both (MayReply x) (MayCall x) (MayStart x) MayMove (allows x) y (job_of_start (seen x) n) SpawnFault (λ j is. (starter_numbered x n j b is, late x SpawnFault refl)) k).0

timed_out : (x : Step) (j : ℕ) (m : Submitted) → x.input ≡ Wake → waiting_call (seen x) j ≡ Some m → Both x → Both (refuse j (IoTimeout m.call.number m.reading x.reading) x)
timed_out x j m wake waits b =
    let found = find_inside (is_of_job j) (outstanding (seen x)) m waits in
    let there : Contains (submitted (seen x)) m = (kept_inside (λ (z : Submitted). is_none z.answer) (submitted (seen x)) m found.0).0 in
    let of = some_is_true (λ k. k == j) (job_of m.call.purpose) found.1 in
    let its : job_of m.call.purpose ≡ Some j = of.1 ∙ ap (λ k. Some k) (eqb-true of.0 j of.2) in
    (refusal (Meanwhile x) Both (MayReply x) (MayCall x) (MayStart x) MayMove (allows x) x j (IoTimeout m.call.number m.reading x.reading)
    (caller_numbered x m j b there its, late_on_wake x (IoTimeout m.call.number m.reading x.reading) wake) (λ z is. tt) (at x b)).0

pub lone_of : (p : Purpose) (j : ℕ) → lone_job p ≡ Some j → job_of p ≡ Some j
lone_of (RequestRead i) j is = is
lone_of (RequestWrite i owner) j is = is
lone_of (ValueWrite i) j is = is
lone_of (ValueRead i) j is = is
lone_of p j is = absurd (none_some j is)

heard_there : (x : Step) (s : Session) (m : Submitted) (answer : Answer) → Hears x s m answer → Contains (submitted (seen x)) m
heard_there x s m answer hears = (find_inside (λ (z : Submitted). z.call.number == hears.number) (submitted (seen x)) m hears.call).0

answer_kept : (x : Step) (s : Session) (m : Submitted) (answer : Answer) (j : ℕ) (r : Reply) → Both x → Hears x s m answer → job_of m.call.purpose ≡ Some j → is_special r ≡ false → Both (add_reply j r x)
answer_kept x s m answer j r b hears of after = kept_reply x j r (caller_numbered x m j b (heard_there x s m answer hears) of, late x r after) b

wakes_joining : (x : Step) (s : Session) (j : ℕ) → Whole x → Has x s → x.input ≡ Wake → s.job ≡ Some j → is_running (seen x) j ≡ true
    → Both (carry_delta s (next_on_wake (delta_of_session x.setting s) x.reading (calls_of (seen x) s)) x)
unfolding next_on_wake carry_delta
wakes_joining x s j h has wake its runs = by (calls_of (seen x) s) refl where
  allowed : (m : Submitted) (ms : List Submitted) → calls_of (seen x) s ≡ m ∷ ms → (m.answer ≡ None → ⊥) → Both (carry_delta s (next_on_wake (delta_of_session x.setting s) x.reading (m ∷ ms)) x)
  allowed m ms are answered =
      kept_delta x s (next_on_wake (delta_of_session x.setting s) x.reading (m ∷ ms))
      (joining_allowed x s has (λ i of. subst (λ k. JoinsOn x s k) (some_value j i (sym its ∙ of)) (joins_on_wake x s j m ms (both_of x h) h.orderly has its runs are answered)) (λ r after. late x r after)
      (next_on_wake (delta_of_session x.setting s) x.reading (m ∷ ms)) (wake_late (delta_of_session x.setting s) x.reading (m ∷ ms))) (both_of x h)

  by_answer : (m : Submitted) (ms : List Submitted) → calls_of (seen x) s ≡ m ∷ ms → (o : Option Answered) → m.answer ≡ o → Both (carry_delta s (next_on_wake (delta_of_session x.setting s) x.reading (m ∷ ms)) x)
  by_answer m ms are (Some a) is = allowed m ms are (λ none. none_some a (sym none ∙ is))
  by_answer m ms are None is =
      subst (λ (o : Option Answered). Both (carry_delta s (elim o as (λ z. DeltaNext) [ None ↦ Nothing | Some a ↦ elim (join_step_of m.call.purpose) as (λ z. DeltaNext) [ None ↦ Nothing | Some step ↦ next_by_time (delta_of_session x.setting s) x.reading m.reading a.reading step ] ]) x)) (sym is) (both_of x h)

  by : (ms : List Submitted) → calls_of (seen x) s ≡ ms → Both (carry_delta s (next_on_wake (delta_of_session x.setting s) x.reading ms) x)
  by [] are = both_of x h
  by (m ∷ ms) are = by_answer m ms are m.answer refl

pub both_are_kept : Acts Whole Both
unfolding after_value_read
both_are_kept =
    record {
      kills = λ x s has due h. (signalled (Meanwhile x) Both (MayReply x) (MayCall x) (MayStart x) MayMove (allows x) (starts_nothing x) x Kill s (at x (both_of x h))).0;
      times_out = λ x j m wake bare runs waits late_one h. timed_out x j m wake waits (both_of x h);
      hears = λ x number answer wake bare expected h. input_sees x (Told number answer) wake bare expected (both_of x h);
      counts = λ x text wake bare h. input_sees x (Number text) wake bare refl (both_of x h);
      exits = λ x n wake bare one h. exit_kept x n wake bare (both_of x h);
      exits_as_none = λ x n wake bare none h. input_sees x (Exit n) wake bare refl (both_of x h);
      starts = λ x n ok wake bare expected h. input_sees x (Spawned n ok) wake bare expected (both_of x h);
      fails_to_start = λ x n input h. spawn_failed x n input (both_of x h);
      signals_instead = λ x n o input stood h. ((allows x).signals x o Term (at x (both_of x h))).0;
      says_started = λ x n j input is runs h. kept_reply x j (started_reply (seen x) n) (starter_numbered x n j (both_of x h) is, late x (started_reply (seen x) n) refl) (both_of x h);
      misreads = λ x text column wake bare says h.
          kept_reply (with_input (Line text) x) (next_job x.setting (seen x)) (Misread column) (new_numbered x text wake, late_on_line x text (Misread column)) (input_sees x (Line text) wake bare refl (both_of x h));
      answers = λ x text c r wake bare says is h.
          kept_reply (with_input (Line text) x) (next_job x.setting (seen x)) r (new_numbered x text wake, late_on_line x text r) (input_sees x (Line text) wake bare refl (both_of x h));
      carries = λ x text c d wake bare says is more h. line_kept x text c d h wake bare says is;
      joins_on = λ x s j step m answer hears is runs h.
          kept_delta x s (next_in_joining (delta_of_session x.setting s) (generation_of (seen x) s) (calls_of (seen x) s) x.reading m step answer)
          (joining_allowed x s (has_heard x s m answer hears) (λ i of. joins_when_heard x s m answer j step (both_of x h) hears is i of) (λ r after. late x r after)
          (next_in_joining (delta_of_session x.setting s) (generation_of (seen x) s) (calls_of (seen x) s) x.reading m step answer)
          (joining_late (delta_of_session x.setting s) (generation_of (seen x) s) (calls_of (seen x) s) x.reading m step answer)) (both_of x h);
      ends_joining = λ x s j step m answer hears is stops h. (removal_of_refused (Meanwhile x) Both (MayReply x) (MayCall x) (MayStart x) MayMove (allows x) x s tt (at x (both_of x h))).0;
      renewed = λ x s m answer hears is h.
          kept_delta x s (next_after_renewal (is_some (recovery_of x.setting (seen x) s)) m.reading answer) (renewed_allowed x s (is_some (recovery_of x.setting (seen x) s)) m.reading answer (has_heard x s m answer hears)) (both_of x h);
      freed = λ x s j m answer hears is h.
          kept_delta x s (next_after_free j m.call.number answer)
          (freed_allowed x s m j m.call.number answer (caller_numbered x m j (both_of x h) (heard_there x s m answer hears) (ap (λ p. job_of p) is))) (both_of x h);
      shown = λ x s m bytes hears is joined begins h. stop_kept x s None (λ r. late_on_survey x s m (Read bytes) r h.facts.calls hears (ap (λ p. job_of p) is)) (both_of x h);
      sees = λ x s number bytes spot g has input held h. kept_call x s g.path SeeRequest _ _ (has, λ i of. no_job refl i of) (both_of x h);
      leads_on = λ x s work step m answer aim hears is on aims h.
          kept_lease x s (spot_of_call x.setting.layout m) work (next_of_lease x.setting (seen x) s (spot_of_call x.setting.layout m) aim m step answer)
          (lease_allowed x s m answer work step aim (next_of_lease x.setting (seen x) s (spot_of_call x.setting.layout m) aim m step answer) h hears is aims
          (lease_within (lease_place x.setting s) (known x.setting (seen x) s (spot_of_call x.setting.layout m)) aim m.call.number (lver_written m) step answer)) (both_of x h);
      fails = λ x s m j hears lone runs h. answer_kept x s m Failed j (IoFault m.call.number) (both_of x h) hears (lone_of m.call.purpose j lone) refl;
      has_asked = λ x s m j owner hears is runs h. answer_kept x s m Written j Done (both_of x h) hears (ap (λ p. job_of p) is) refl;
      has_set = λ x s m j hears is runs h. answer_kept x s m Written j (set_reply m) (both_of x h) hears (ap (λ p. job_of p) is) (set_late m);
      asks = λ x s m j bytes c hears is runs reads h.
          requested (Meanwhile x) Both (MayReply x) (MayCall x) (MayStart x) MayMove (allows x) x s j bytes c (request_allowed x s m j bytes c h hears is reads) (at x (both_of x h));
      tells = λ x s m j bytes hears is runs h. answer_kept x s m (Read bytes) j (value_reply x.setting.layout bytes) (both_of x h) hears (ap (λ p. job_of p) is) (value_late x.setting.layout bytes);
      warns = λ x s m bytes g signal hears is held own says h. (sent (Meanwhile x) Both (MayReply x) (MayCall x) (MayStart x) MayMove (allows x) (starts_nothing x) x g.process signal (at x (both_of x h))).0;
      joins_in_time = λ x s j has wake is runs h. wakes_joining x s j h has wake is runs;
      renews = λ x s has wake joined h.
          kept_delta x s (next_renewal (delta_of_session x.setting s) x.reading (delta_known x.setting (seen x) s) (bits_due x.setting (calls_of (seen x) s) x.reading))
          (renewal_allowed x s (delta_of_session x.setting s) x.reading (delta_known x.setting (seen x) s) (bits_due x.setting (calls_of (seen x) s) x.reading) has) (both_of x h);
      settles = λ x s spot has wake active whole none h. kept_lease x s spot Settling (next_of_settling x.setting (seen x) s spot) (settling_allowed x s spot (next_of_settling x.setting (seen x) s spot) has) (both_of x h);
      parts = λ x s has joined recovers free quiet h. (removal (Meanwhile x) Both (MayReply x) (MayCall x) (MayStart x) MayMove (allows x) x s.lockspace tt (at x (both_of x h))).0;
      frees = λ x s has joined well free quiet h.
          kept_delta x s (next_free (delta_of_session x.setting s) x.reading (delta_known x.setting (seen x) s))
          (free_allowed x s (delta_of_session x.setting s) x.reading (delta_known x.setting (seen x) s) (λ j is d. leaving_call x s h has joined quiet j is d)) (both_of x h);
    }
