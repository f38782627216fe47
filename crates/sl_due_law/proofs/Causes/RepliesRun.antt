-- Each reply is of a job that a line has brought and that ran until then; so no two of a step are of one job.
use Rattle.sl_due_facts.proofs.Acts.LoopsKeep.{each_in_turn, for_each_keeps, when_keeps, with_some_keeps}
use Rattle.sl_due_facts.proofs.Acts.ActsTogether.{from_more}
use Rattle.sl_due_facts.specs.Acts.Acts.{Acts, Has, Hears, next_of_conversion, next_of_release, next_of_settling}
use Rattle.sl_due_law.proofs.Causes.PlainCauses.{lone_of}
use Rattle.sl_due_law.specs.Causes.CausedSoFar.{RepliedSoFar}
use Rattle.sl_due_law.specs.Causes.CauseLaws.{RepliesRun, RepliesRunBegin}
use Rattle.sl_due.specs.DueAnswers.{set_reply}
use Rattle.sl_due.specs.DueCommands.{after_end, answer_line, carry_decision}
use Rattle.sl_due.specs.CarriedDelta.{carry_delta, move_connection}
use Rattle.sl_due.specs.DueRecovery.{begin_recoveries, begin_recovery, begins_now, signal_and_refuse, signal_holders}
use Rattle.sl_due.specs.DueTimeOuts.{refuse, remove_connection, remove_of_refused}
use Rattle.sl_due.specs.DueInputs.{end_holdings, leave_holdings, refuse_jobs_of, started_reply, when_running}
use Rattle.sl_due.specs.CarriedLease.{carry_lease, convert_for, convert_holding, for_work, goes_on, grant_for, held_otherwise, next_of_lease, with_command}
use Rattle.sl_due.specs.DueRequests.{after_request_read, after_value_read, bits_due, owner_read, request_refusal, value_reply, write_request}
use Rattle.sl_due.specs.Steps.{Step, with_some, add_end, add_grant, add_move, add_reply, begin_step, for_each, seen, with_input}
use Rattle.sl_due.specs.declared.decision.Decision.TheVariants.{ConvertsTo, GetsValue, GivesUp, Joins, Leaves, ReadsArea, Replies, Requests, SetsValue, Shares, TakesOver}
use Rattle.sl_due.specs.declared.decision.Decision.{Decision}
use Rattle.sl_due_leases.proofs.Holdings.LeaseCallers.{heard_call}
use Rattle.sl_due_leases.specs.Holdings.Moments.{Known}
use Rattle.sl_due_facts.proofs.Jobs.AnsweredCallsFit.{both_of}
use Rattle.sl_due_facts.proofs.Jobs.CallsOfJobsFit.{joining_of}
use Rattle.sl_due_facts.proofs.Jobs.EffectsAreAllowed.{Allows, ReadAllowed, left, reads, removal, removal_of_refused, sent, signalled}
use Rattle.sl_due_facts.proofs.Jobs.JobFactsGrow.{running_more}
use Rattle.sl_due_facts.proofs.Jobs.JobsAreAllowed.{caller_numbered, numbered_of, runner_numbered, starter_numbered}
use Rattle.sl_due_facts.proofs.Jobs.JobsAreNumbered.{below, next_is_new, numbered_seen}
use Rattle.sl_due_facts.proofs.Jobs.LinesAreAllowed.{new_numbered}
use Rattle.sl_due_facts.proofs.Jobs.RepliesComeAfter.{IsLateDelta, joining_late, wake_late}
use Rattle.sl_trace.specs.Jobs.{command_numbered, is_command_that, is_job_of_process, job_of_start, jobs_of_session, lockspace_named, process_named}
use Rattle.sl_trace.specs.Leases.{holdings_on, spot_of, spot_of_call}
use Rattle.sl_trace.specs.declared.lease.LeaseNext.TheVariants.{AnswerJob, BecomeExclusive, BecomeShared, GrantJob, Nothing as No_lease, ReadFor, WriteBlock, WriteLeader}
use Rattle.sl_trace.specs.declared.lease.LeaseNext.{LeaseNext}
use Rattle.sl_words.proofs.Lists.{contains_first, contains_more, contains_none, find_fails, find_inside, got_index, got_inside, kept_inside, there_is}
use Rattle.sl_words.proofs.Numbers.{number_itself}
use Rattle.sl_words.proofs.Options.{some_of}
use Rattle.sl_due_facts.proofs.Acts.AddedAtEnd.{contains_last}
use Rattle.sl_trace.specs.DeltaDecisions.{delta_record, is_renewal_due, delta_known, delta_of_session, next_after_free, next_after_renewal, next_free, next_in_joining, next_on_wake, next_renewal}
use Rattle.sl_trace.specs.Sessions.{calls_of, generation_of, last_renewal, last_seq, present_sessions, recovery_of, session_of_job, sessions}
use Rattle.sl_trace.specs.declared.delta.DeltaNext.TheVariants.{Disconnect, EndLeaving, Join, MoveConnection, Nothing, ReadOwn, RefuseJoin, RegisterAndRead, WriteClaim, WriteFirst, WriteFree, WriteRenewal}
use Rattle.sl_trace.specs.declared.delta.DeltaNext.{DeltaNext}
use Rattle.sl_trace.specs.WatchdogConnections.{is_registered}
use Rattle.sl_trace.specs.declared.session.Session.{Session}
use Rattle.sl_due_facts.specs.Facts.AllFacts.{Whole}
use Rattle.sl_trace.specs.Traces.{Job, Replied, is_of_job, outstanding, submitted, waiting_call, Setting, Submitted, Trace, end_of, holdings, is_running, job_numbered, job_of, jobs, line_in, next_job, reply_to, running_jobs, spot_of_grant, work_job}
use Rattle.sl_trace.specs.declared.command.Command.TheVariants.{Acquire, AddLockspace, Convert, GetLvb, HostStatus, InqLockspace, Release, ReleaseOrphan, RemLockspace, Request, RunProgram, SetKillpath, SetLvb, Status, TakeOver}
use Rattle.sl_trace.specs.declared.command.Command.{Command}
use Rattle.sl_trace.specs.declared.effects.Entry.{Entry}
use Rattle.sl_trace.specs.declared.effects.Grant.{Grant}
use Rattle.sl_trace.specs.declared.effects.JobReply.{JobReply}
use Rattle.sl_trace.specs.declared.effects.LeaseStep.TheVariants.{ReadAgain, ReadArea, ReadBeforeFree}
use Rattle.sl_trace.specs.declared.effects.LeaseStep.{LeaseStep}
use Rattle.sl_trace.specs.declared.effects.Mode.TheVariants.{Exclusive, Shared}
use Rattle.sl_trace.specs.declared.effects.Mode.{Mode}
use Rattle.sl_trace.specs.declared.effects.Move.TheVariants.{Unregister}
use Rattle.sl_trace.specs.declared.effects.Move.{Move}
use Rattle.sl_trace.specs.declared.effects.Op.{Op}
use Rattle.sl_trace.specs.declared.effects.Purpose.TheVariants.{Lease}
use Rattle.sl_trace.specs.declared.effects.Purpose.{Purpose}
use Rattle.sl_trace.specs.declared.effects.Signal.TheVariants.{Kill, Term}
use Rattle.sl_trace.specs.declared.effects.Spot.{Spot}
use Rattle.sl_trace.specs.declared.effects.Work.TheVariants.{ForJob, Settling}
use Rattle.sl_trace.specs.declared.effects.Work.{Work}
use Rattle.sl_trace.specs.declared.input.Answer.TheVariants.{Failed, Read, Written}
use Rattle.sl_trace.specs.declared.input.Answer.{Answer}
use Rattle.sl_trace.specs.declared.input.Input.TheVariants.{Answer as Told, Exit, Line, Number, Spawned, Wake}
use Rattle.sl_trace.specs.declared.input.Input.{Input}
use Rattle.sl_trace.specs.declared.reply.Reply.TheVariants.{BadCommand as Misread, Done, Generation, Granted, IoFault, IoTimeout, NoProcess, Recovering, SpawnFault}
use Rattle.sl_trace.specs.declared.reply.Reply.{Reply}
use Rattle.sl_words.proofs.CaseLaws.{false_is_true, none_some, not_both, some_value, true_or_false}
use Rattle.sl_words.proofs.WordLaws.{some_is_true}
use Rattle.sl_words.specs.Words.{some_is}
use Rattle.sl_sector.specs.Bitmaps.{no_bits}
use Rattle.sl_sector.specs.declared.sector.DeltaRec.{DeltaRec}
use Rattle.sl_sector.specs.declared.sector.DeltaState.TheVariants.{Free, Live}
use Rattle.sl_trace.specs.declared.effects.LeaseRead.TheVariants.{OfArea, OfBlock, OfFree, OfPhase1, OfPhase2}
use Rattle.std.proofs.lemmas.Bool.{eqb-true}
use Rattle.std.proofs.Common.{ap, arith, inl, inr, refl, subst, sym, ◌∙◌}
use Rattle.std.proofs.lemmas.List.Kept.{AllPairs-filter}
use Rattle.std.proofs.lemmas.List.Quantifiers.{all_pairs_push}
use Rattle.std.proofs.lemmas.List.{append-nil}
use Rattle.std.specs.Prelude.{AllPairs, Bool, Contains, IsSome, List, None, bytes_eq, Option, Some, [], false, filter, find, get_or, is_none, is_some, length, not, option_map, true, ℕ, suc, ◌++◌, ◌+◌, ◌<◌, ◌==◌, ◌∷◌, ◌≡◌, ◌≢◌, ◌⊎◌}

-- ---- one more reply

-- The job that is to be answered.
pub record MayBe (x : Step) (j : ℕ) : Type 0 where
  pub runs : is_running (seen x) j ≡ true
  pub numbered : IsSome (job_numbered x.setting (seen x) j)

-- Who was answered in the step doesn't run any more.
answered_over : (x : Step) (a : JobReply) → Contains x.effects.replies a → is_running (seen x) a.job ≡ false
answered_over x a there = by (reply_to x.past a.job) (find mine x.effects.replies) refl where
  mine : JobReply → Bool
  mine b = b.job == a.job

  by : (o : Option Replied) (q : Option JobReply) → find mine x.effects.replies ≡ q
      → is_none (elim o as (λ z. Option Replied) [ Some b ↦ Some b | None ↦ option_map (λ (b : JobReply). record { at = length x.past; reply = b.reply }) q ]) ≡ false
  by (Some b) q is = refl
  by None (Some b) is = refl
  by None None is = absurd (not_both (mine a) (number_itself a.job) (find_fails mine x.effects.replies a is there))

pub before_it : (x : Step) (j : ℕ) → is_running (seen x) j ≡ true → reply_to x.past j ≡ None
before_it x j runs = by (reply_to x.past j) refl runs where
  by : (o : Option Replied) → reply_to x.past j ≡ o
      → is_none (elim o as (λ z. Option Replied) [ Some b ↦ Some b | None ↦ option_map (λ (b : JobReply). record { at = length x.past; reply = b.reply }) (find (λ (b : JobReply). b.job == j) x.effects.replies) ]) ≡ true
      → reply_to x.past j ≡ None
  by None is h = is
  by (Some b) is h = absurd (false_is_true h)

one_more : (x : Step) (j : ℕ) (r : Reply) → MayBe x j → RepliedSoFar x → RepliedSoFar (add_reply j r x)
one_more x j r may h =
    record {
      running = λ a there. by a (contains_last x.effects.replies (record { job = j; reply = r }) a there);
      once = all_pairs_push (λ (a b : JobReply). a.job ≢ b.job) x.effects.replies (record { job = j; reply = r }) h.once (λ k d less. other k d less);
    } where
      by : (a : JobReply) → Contains x.effects.replies a ⊎ (record { job = j; reply = r } ≡ a) → (i : Job) × (job_numbered x.setting (seen x) a.job ≡ Some i) × (reply_to x.past a.job ≡ None)
      by a (inl old) = h.running a old
      by a (inr new) =
          let v = some_of (job_numbered x.setting (seen x) j) may.numbered in
          subst (λ (b : JobReply). (i : Job) × (job_numbered x.setting (seen x) b.job ≡ Some i) × (reply_to x.past b.job ≡ None)) new (v.0, v.1, before_it x j may.runs)

      other : (k : ℕ) (d : JobReply) → k < length x.effects.replies → (get_or x.effects.replies k d).job ≢ j
      other k d less same =
          let at = there_is x.effects.replies k less in
          let is : get_or x.effects.replies k d ≡ at.0 = got_index x.effects.replies k at.0 d at.1 in
          not_both (is_running (seen x) j) may.runs
          (subst (λ n. is_running (seen x) n ≡ false) (ap (λ (b : JobReply). b.job) (sym is) ∙ same) (answered_over x at.0 (got_inside x.effects.replies k at.0 at.1)))

-- ---- what answers nobody

abbrev NoReply : ℕ → Reply → Type 0
NoReply j r = ⊥

abbrev AnyCall : Session → List ℕ → Purpose → ℕ → Op → Type 0
AnyCall s path p o op = Unit {0}

abbrev AnyStart : Option ℕ → Type 0
AnyStart o = Unit {0}

abbrev AnyMove : Move → Type 0
AnyMove m = Unit {0}

silent : Allows RepliedSoFar RepliedSoFar NoReply AnyCall AnyStart AnyMove
silent =
    record {
      ends = λ y e k. record { running = k.running; once = k.once };
      signals = λ y p signal k. record { running = k.running; once = k.once };
      moves = λ y m may k. record { running = k.running; once = k.once };
      grants = λ y g k. record { running = k.running; once = k.once };
      starts = λ y s may k. record { running = k.running; once = k.once };
      replies = λ y j r may k. absurd may;
      calls = λ y s path p o op may k. record { running = k.running; once = k.once };
      rest = λ y k. k;
    }

refused_one : (x : Step) (j : ℕ) (r : Reply) → MayBe x j → RepliedSoFar x → RepliedSoFar (refuse j r x)
unfolding refuse
refused_one x j r may h =
    with_some_keeps RepliedSoFar (session_of_job x.setting (seen x) j) remove_of_refused (add_reply j r x)
    (λ z is k. removal_of_refused RepliedSoFar RepliedSoFar NoReply AnyCall AnyStart AnyMove silent (add_reply j r x) z tt k) (one_more x j r may h)

-- ---- what a delta lease decided

abbrev AnswersJoining : DeltaNext → Type 0
AnswersJoining (RefuseJoin r) = Unit {0}
AnswersJoining (Join generation renewed) = Unit {0}
AnswersJoining n = ⊥

delta_one : (x : Step) (s : Session) (n : DeltaNext) → (AnswersJoining n → (j : ℕ) → s.job ≡ Some j → MayBe x j) → ((j : ℕ) (r : Reply) → n ≡ EndLeaving j r → IsSome (job_numbered x.setting (seen x) j)) → RepliedSoFar x → RepliedSoFar (carry_delta s n x)
unfolding carry_delta
delta_one x s (RefuseJoin r) joins leaves h = with_some_keeps RepliedSoFar s.job (λ j. refuse j r) x (λ j is k. refused_one x j r (joins tt j is) k) h
delta_one x s (Join generation renewed) joins leaves h =
    with_some_keeps RepliedSoFar s.job _ x
    (λ j is k.
    let y : Step = move_connection s renewed x in
    let z = one_more y j (Generation generation) (record { runs = (joins tt j is).runs; numbered = (joins tt j is).numbered }) (record { running = k.running; once = k.once }) in
    record { running = z.running; once = z.once }) h
delta_one x s (EndLeaving j r) joins leaves h =
    when_keeps RepliedSoFar (is_running (seen x) j) (add_reply j r) (remove_connection s.lockspace x)
    (λ runs k. one_more (remove_connection s.lockspace x) j r (still (record { runs = runs; numbered = leaves j r refl })) k)
    (removal RepliedSoFar RepliedSoFar NoReply AnyCall AnyStart AnyMove silent x s.lockspace tt h)
  where
    still : MayBe x j → MayBe (remove_connection s.lockspace x) j
    still may = when_keeps (λ z. MayBe z j) (is_registered x.setting (seen x) s.lockspace) (add_move (Unregister s.lockspace)) x (λ b k. record { runs = k.runs; numbered = k.numbered }) may
delta_one x s Nothing joins leaves h = h
delta_one x s (ReadOwn step) joins leaves h = with_some_keeps RepliedSoFar s.job _ x (λ j is k. record { running = k.running; once = k.once }) h
delta_one x s (RegisterAndRead step) joins leaves h = with_some_keeps RepliedSoFar s.job _ x (λ j is k. record { running = k.running; once = k.once }) h
delta_one x s (WriteClaim d) joins leaves h = with_some_keeps RepliedSoFar s.job _ x (λ j is k. record { running = k.running; once = k.once }) h
delta_one x s Disconnect joins leaves h = removal RepliedSoFar RepliedSoFar NoReply AnyCall AnyStart AnyMove silent x s.lockspace tt h
delta_one x s (WriteFirst d) joins leaves h = with_some_keeps RepliedSoFar s.job _ x (λ j is k. record { running = k.running; once = k.once }) h
delta_one x s (MoveConnection renewed) joins leaves h = record { running = h.running; once = h.once }
delta_one x s (WriteRenewal d) joins leaves h = record { running = h.running; once = h.once }
delta_one x s (WriteFree j d) joins leaves h = record { running = h.running; once = h.once }

-- ---- what a lease decided

granted_one : (x : Step) (s : Session) (j : ℕ) (c : Command) (mode : Mode) (lver : ℕ) → MayBe x j → RepliedSoFar x → RepliedSoFar (grant_for s j c mode lver x)
granted_one x s j (Acquire r shared p persistent) mode lver may h =
    one_more (add_grant _ x) j (Granted lver) (record { runs = may.runs; numbered = may.numbered }) (record { running = h.running; once = h.once })
granted_one x s j (TakeOver r shared p persistent) mode lver may h =
    one_more (add_grant _ x) j (Granted lver) (record { runs = may.runs; numbered = may.numbered }) (record { running = h.running; once = h.once })
granted_one x s j (RunProgram r shared path) mode lver may h = record { running = h.running; once = h.once }
granted_one x s j (AddLockspace a) mode lver may h = h
granted_one x s j (RemLockspace a) mode lver may h = h
granted_one x s j (InqLockspace a) mode lver may h = h
granted_one x s j (HostStatus a) mode lver may h = h
granted_one x s j (Release r p) mode lver may h = h
granted_one x s j (ReleaseOrphan r) mode lver may h = h
granted_one x s j (Convert r shared p) mode lver may h = h
granted_one x s j (Request r v how) mode lver may h = h
granted_one x s j (GetLvb r p) mode lver may h = h
granted_one x s j (SetLvb r p bytes) mode lver may h = h
granted_one x s j (SetKillpath p path) mode lver may h = h
granted_one x s j Status mode lver may h = h

converted_one : (x : Step) (s : Session) (at : Spot) (work : Work) (mode : Mode) (lver : ℕ) → ((j : ℕ) → work_job work ≡ Some j → MayBe x j) → RepliedSoFar x
    → RepliedSoFar (for_work work (λ j. with_command j (λ c. convert_for s at j c mode lver)) x)
converted_one x s at work mode lver may h =
    with_some_keeps RepliedSoFar (work_job work) (λ j. with_command j (λ c. convert_for s at j c mode lver)) x
    (λ j is k. with_some_keeps RepliedSoFar (command_numbered x.setting (seen x) j) (λ c. convert_for s at j c mode lver) x
    (λ c found f. with_some_keeps RepliedSoFar (process_named c) (λ q z. with_some (held_otherwise (seen z) s at q mode) (convert_holding j mode lver) z) x
    (λ q named d. with_some_keeps RepliedSoFar (held_otherwise (seen x) s at q mode) (convert_holding j mode lver) x
    (λ g held b. one_more (add_grant (record g { mode = mode; lver = lver }) (add_end (end_of g) x)) j (Granted lver) (record { runs = (may j is).runs; numbered = (may j is).numbered }) (record { running = b.running; once = b.once })) d) f) k) h

silent_reads : (x : Step) (s : Session) (at : Spot) (work : Work) (step : LeaseStep) → ReadAllowed AnyCall x s at work step
silent_reads x s at work (ReadArea name) = tt
silent_reads x s at work ReadBeforeFree = tt
silent_reads x s at work (ReadAgain (OfArea name)) = tt
silent_reads x s at work (ReadAgain OfFree) = tt
silent_reads x s at work (ReadAgain OfBlock) = tt
silent_reads x s at work (ReadAgain OfPhase1) = tt
silent_reads x s at work (ReadAgain OfPhase2) = tt
silent_reads x s at work step = tt

lease_one : (x : Step) (s : Session) (at : Spot) (work : Work) (n : LeaseNext) → ((j : ℕ) → work_job work ≡ Some j → MayBe x j) → RepliedSoFar x → RepliedSoFar (carry_lease s at work n x)
unfolding carry_lease
lease_one x s at work No_lease may h = h
lease_one x s at work (ReadFor step) may h = reads RepliedSoFar RepliedSoFar NoReply AnyCall AnyStart AnyMove silent x s at work step (silent_reads x s at work step) h
lease_one x s at work (WriteBlock step b) may h = record { running = h.running; once = h.once }
lease_one x s at work (WriteLeader step l) may h = record { running = h.running; once = h.once }
lease_one x s at work (AnswerJob r) may h = with_some_keeps RepliedSoFar (work_job work) (λ j. add_reply j r) x (λ j is k. one_more x j r (may j is) k) h
lease_one x s at work (GrantJob mode lver) may h =
    with_some_keeps RepliedSoFar (work_job work) (λ j. with_command j (λ c. grant_for s j c mode lver)) x
    (λ j is k. with_some_keeps RepliedSoFar (command_numbered x.setting (seen x) j) (λ c. grant_for s j c mode lver) x (λ c found f. granted_one x s j c mode lver (may j is) f) k) h
lease_one x s at work (BecomeShared lver l) may h =
    let k = converted_one x s at work Shared lver may h in record { running = k.running; once = k.once }
lease_one x s at work (BecomeExclusive lver b) may h =
    let k = converted_one x s at work Exclusive lver may h in record { running = k.running; once = k.once }

-- ---- several jobs at once

-- Jobs are numbered in order.
one_job : (st : Setting) (es : Trace) (e : Entry) (o : Option (List ℕ)) → AllPairs (λ (a b : Job). a.number < b.number) (jobs st es)
    → AllPairs (λ (a b : Job). a.number < b.number)
    (jobs st es ++ elim o as (λ z. List Job) [ None ↦ [] | Some text ↦ record { number = next_job st es; at = length es; reading = e.reading; command = st.read text } ∷ [] ])
one_job st es e None h = subst (λ js. AllPairs (λ (a b : Job). a.number < b.number) js) (sym (append-nil (jobs st es))) h
one_job st es e (Some text) h =
    all_pairs_push (λ (a b : Job). a.number < b.number) (jobs st es) (record { number = next_job st es; at = length es; reading = e.reading; command = st.read text }) h
    (λ k d less.
    let at = there_is (jobs st es) k less in
    subst (λ (b : Job). b.number < next_job st es) (sym (got_index (jobs st es) k at.0 d at.1)) (below st es at.0 (got_inside (jobs st es) k at.0 at.1)))

pub jobs_in_order : (st : Setting) (es : Trace) → AllPairs (λ (a b : Job). a.number < b.number) (jobs st es)
jobs_in_order st [] = λ i j d less inside. absurd (omega (arith, less, inside))
jobs_in_order st (e ∷ es) = one_job st es e (line_in e.input) (jobs_in_order st es)

tail_pairs : {A : Type 0} (R : A → A → Type 0) (x : A) (xs : List A) → AllPairs R (x ∷ xs) → AllPairs R xs
tail_pairs R x xs h i j d less inside = h (suc i) (suc j) d (omega (arith, less)) (omega (arith, inside))

head_pairs : {A : Type 0} (R : A → A → Type 0) (x : A) (xs : List A) → AllPairs R (x ∷ xs) → (y : A) → Contains xs y → R x y
head_pairs {A} R x xs h y there = subst (λ (z : A). R x z) there.2 (h 0 (suc there.0) y (omega arith) (let less : there.0 < length xs = there.1 in omega (arith, less)))

-- Those that are still to be answered.
record Left (js : List Job) (y : Step) : Type 0 where
  kept : RepliedSoFar y
  may : (j : Job) → Contains js j → MayBe y j.number
  pairs : AllPairs (λ (a b : Job). a.number < b.number) js

answer_next : (r : Reply) (j : Job) (rest : List Job) (y : Step) → Left (j ∷ rest) y → Left rest (add_reply j.number r y)
answer_next r j rest y h =
    record {
      kept = one_more y j.number r (h.may j (contains_first j rest)) h.kept;
      may = λ i there. record { runs = still i there; numbered = (h.may i (contains_more j rest i there)).numbered };
      pairs = tail_pairs (λ (a b : Job). a.number < b.number) j rest h.pairs;
    } where
      still : (i : Job) → Contains rest i → is_running (seen (add_reply j.number r y)) i.number ≡ true
      still i there = by (true_or_false (is_running (seen (add_reply j.number r y)) i.number)) where
        less : j.number < i.number
        less = head_pairs (λ (a b : Job). a.number < b.number) j rest h.pairs i there

        by : (is_running (seen (add_reply j.number r y)) i.number ≡ true) ⊎ (is_running (seen (add_reply j.number r y)) i.number ≡ false) → is_running (seen (add_reply j.number r y)) i.number ≡ true
        by (inl runs) = runs
        by (inr over) = elim (running_more y j.number r i.number over) [
          | inl same ↦ absurd (omega (arith, less, same))
          | inr was ↦ absurd (not_both (is_running (seen y) i.number) (h.may i (contains_more j rest i there)).runs was)
        ]

answer_each : (x : Step) (js : List Job) (r : Reply) → Left js x → RepliedSoFar (for_each js (λ j. add_reply j.number r) x)
answer_each x js r h = (each_in_turn Left js (λ j. add_reply j.number r) x (λ j rest y k. answer_next r j rest y k) h).kept

running_left : (x : Step) (p q : Job → Bool) → RepliedSoFar x → Left (filter p (filter q (running_jobs x.setting (seen x)))) x
running_left x p q h =
    record {
      kept = h;
      may = λ j there.
          let inside = (kept_inside q (running_jobs x.setting (seen x)) j (kept_inside p (filter q (running_jobs x.setting (seen x))) j there).0).0 in
          record { runs = (kept_inside (λ (i : Job). is_running (seen x) i.number) (jobs x.setting (seen x)) j inside).1; numbered = runner_numbered x j inside };
      pairs =
          AllPairs-filter (λ (a b : Job). a.number < b.number) p (filter q (running_jobs x.setting (seen x)))
          (AllPairs-filter (λ (a b : Job). a.number < b.number) q (running_jobs x.setting (seen x))
          (AllPairs-filter (λ (a b : Job). a.number < b.number) (λ (i : Job). is_running (seen x) i.number) (jobs x.setting (seen x)) (jobs_in_order x.setting (seen x))));
    }

all_kept : Job → Bool
all_kept j = true

stopped_all : (x : Step) (s : Session) (kept : Option ℕ) → RepliedSoFar x → RepliedSoFar (signal_and_refuse s kept x)
unfolding signal_and_refuse
stopped_all x s kept h =
    let z : Step = signal_holders Term s x in
    let k : RepliedSoFar z = signalled RepliedSoFar RepliedSoFar NoReply AnyCall AnyStart AnyMove silent tt x Term s h in
    answer_each z (filter (λ j. not (some_is (λ n. n == j.number) kept)) (jobs_of_session z.setting (seen z) s)) (Recovering (last_renewal z.setting (seen z) s))
    (running_left z (λ j. not (some_is (λ n. n == j.number) kept)) (is_command_that (λ c. some_is (λ n. bytes_eq n s.lockspace) (lockspace_named c))) k)

exited_all : (x : Step) (p : ℕ) → RepliedSoFar x → RepliedSoFar (refuse_jobs_of p x)
exited_all x p h = answer_each x (filter (is_job_of_process (seen x) p) (running_jobs x.setting (seen x))) (NoProcess p) (one_filter x (is_job_of_process (seen x) p) h) where
  one_filter : (x : Step) (p : Job → Bool) → RepliedSoFar x → Left (filter p (running_jobs x.setting (seen x))) x
  one_filter x p h =
      record {
        kept = h;
        may = λ j there.
            let inside = (kept_inside p (running_jobs x.setting (seen x)) j there).0 in
            record { runs = (kept_inside (λ (i : Job). is_running (seen x) i.number) (jobs x.setting (seen x)) j inside).1; numbered = runner_numbered x j inside };
        pairs =
            AllPairs-filter (λ (a b : Job). a.number < b.number) p (running_jobs x.setting (seen x))
            (AllPairs-filter (λ (a b : Job). a.number < b.number) (λ (i : Job). is_running (seen x) i.number) (jobs x.setting (seen x)) (jobs_in_order x.setting (seen x)));
      }

-- ---- lines

-- The line's own job runs until it is answered.
own_runs : (x : Step) (text : List ℕ) → Whole x → x.input ≡ Wake → MayBe (with_input (Line text) x) (next_job x.setting (seen x))
own_runs x text k wake = record { runs = by (true_or_false (is_running (seen x) (next_job x.setting (seen x)))); numbered = new_numbered x text wake } where
  by : (is_running (seen x) (next_job x.setting (seen x)) ≡ true) ⊎ (is_running (seen x) (next_job x.setting (seen x)) ≡ false) → is_running (seen x) (next_job x.setting (seen x)) ≡ true
  by (inl runs) = runs
  by (inr over) =
      let v = some_of (job_numbered x.setting (seen x) (next_job x.setting (seen x))) (k.facts.jobs.replied (next_job x.setting (seen x)) over) in
      absurd (none_some v.0 (sym (next_is_new x.setting (seen x)) ∙ v.1))

seen_replied : (x : Step) (i : Input) → x.input ≡ Wake → RepliedSoFar x → RepliedSoFar (with_input i x)
seen_replied x i wake h =
    record {
      running = λ a there.
          let v = h.running a there in
          (v.0, numbered_seen x i wake a.job v.0 v.1, v.2);
      once = h.once;
    }

line_one : (x : Step) (text : List ℕ) (r : Reply) → Whole x → x.input ≡ Wake → RepliedSoFar x → RepliedSoFar (answer_line text (next_job x.setting (seen x)) r x)
line_one x text r k wake h = one_more (with_input (Line text) x) (next_job x.setting (seen x)) r (own_runs x text k wake) (seen_replied x (Line text) wake h)

for_own : (y : Step) (j : ℕ) → MayBe y j → (i : ℕ) → work_job (ForJob j) ≡ Some i → MayBe y i
for_own y j may i is = subst (λ n. MayBe y n) (some_value j i is) may

given_up : (y : Step) (j : ℕ) (s : Session) (g : Grant) → MayBe y j → RepliedSoFar y → RepliedSoFar (after_end s (spot_of_grant g) j g y)
unfolding after_end
given_up y j s g may h = by (holdings_on (seen y) s (spot_of_grant g)) where
  by : (hs : List Grant)
      → RepliedSoFar (elim hs as (λ v. Step) [
        | e ∷ es ↦ add_reply j Done y
        | [] ↦ carry_lease s (spot_of_grant g) (ForJob j) (next_of_release y.setting (seen y) s (spot_of_grant g) g) y
      ])
  by (e ∷ es) = one_more y j Done may h
  by [] = lease_one y s (spot_of_grant g) (ForJob j) (next_of_release y.setting (seen y) s (spot_of_grant g) g) (for_own y j may) h

decided_one : (y : Step) (j : ℕ) (c : Command) (d : Decision) → MayBe y j → RepliedSoFar y → RepliedSoFar (carry_decision j c d y)
unfolding carry_decision
decided_one y j c (Replies r) may h = h
decided_one y j c (Joins n a) may h = record { running = h.running; once = h.once }
decided_one y j c (Leaves s) may h = stopped_all y s (Some j) h
decided_one y j c (ReadsArea s r) may h = record { running = h.running; once = h.once }
decided_one y j c (Shares s lver) may h = granted_one y s j c Shared lver may h
decided_one y j c (GivesUp s g) may h = given_up (add_end (end_of g) y) j s g (record { runs = may.runs; numbered = may.numbered }) (record { running = h.running; once = h.once })
decided_one y j c (TakesOver s g) may h = granted_one (add_end (end_of g) y) s j c g.mode g.lver (record { runs = may.runs; numbered = may.numbered }) (record { running = h.running; once = h.once })
decided_one y j c (ConvertsTo s r mode) may h = lease_one y s (spot_of r) (ForJob j) (next_of_conversion y.setting (seen y) s (spot_of r) mode r.name) (for_own y j may) h
decided_one y j c (Requests s r) may h = record { running = h.running; once = h.once }
decided_one y j c (SetsValue s at v) may h = record { running = h.running; once = h.once }
decided_one y j c (GetsValue s at) may h = record { running = h.running; once = h.once }

-- ---- all acts

caller : (x : Step) (s : Session) (m : Submitted) (answer : Answer) (j : ℕ) → Whole x → Hears x s m answer → job_of m.call.purpose ≡ Some j → is_running (seen x) j ≡ true → MayBe x j
caller x s m answer j k hears of runs = record { runs = runs; numbered = caller_numbered x m j (both_of x k) (heard_call x s m answer hears).0 of }

asked_one : (x : Step) (s : Session) (j : ℕ) (bytes : List ℕ) (c : Command) → MayBe x j → RepliedSoFar x → RepliedSoFar (after_request_read s j bytes c x)
unfolding after_request_read
asked_one x s j bytes (Request r number force) may h = by (request_refusal x.setting.layout s.lockspace r number force bytes) where
  by : (o : Option Reply) → RepliedSoFar (elim o as (λ z. Step) [ Some why ↦ add_reply j why x | None ↦ write_request s j (owner_read x.setting.layout bytes) r number force x ])
  by (Some why) = one_more x j why may h
  by None = record { running = h.running; once = h.once }
asked_one x s j bytes (AddLockspace a) may h = h
asked_one x s j bytes (RemLockspace a) may h = h
asked_one x s j bytes (InqLockspace a) may h = h
asked_one x s j bytes (HostStatus a) may h = h
asked_one x s j bytes (Acquire r shared p persistent) may h = h
asked_one x s j bytes (TakeOver r shared p persistent) may h = h
asked_one x s j bytes (RunProgram r shared path) may h = h
asked_one x s j bytes (Release r p) may h = h
asked_one x s j bytes (ReleaseOrphan r) may h = h
asked_one x s j bytes (Convert r shared p) may h = h
asked_one x s j bytes (GetLvb r p) may h = h
asked_one x s j bytes (SetLvb r p set) may h = h
asked_one x s j bytes (SetKillpath p path) may h = h
asked_one x s j bytes Status may h = h

no_leaving : (x : Step) (n : DeltaNext) → IsLateDelta n → (j : ℕ) (r : Reply) → n ≡ EndLeaving j r → IsSome (job_numbered x.setting (seen x) j)
no_leaving x n h j r is = absurd (subst (λ q. IsLateDelta q) is h)

freed_leaving : (x : Step) (j : ℕ) (call : ℕ) (answer : Answer) → IsSome (job_numbered x.setting (seen x) j) → (i : ℕ) (r : Reply) → next_after_free j call answer ≡ EndLeaving i r → IsSome (job_numbered x.setting (seen x) i)
freed_leaving x j call Written its i r is = subst (λ n. IsSome (job_numbered x.setting (seen x) n)) (some_value j i (ap (λ n. left_job n) is)) its where
  left_job : DeltaNext → Option ℕ
  left_job (EndLeaving k q) = Some k
  left_job n = None
freed_leaving x j call Failed its i r is = subst (λ n. IsSome (job_numbered x.setting (seen x) n)) (some_value j i (ap (λ n. left_job n) is)) its where
  left_job : DeltaNext → Option ℕ
  left_job (EndLeaving k q) = Some k
  left_job n = None
freed_leaving x j call (Read bytes) its i r is = absurd (none_some i (ap (λ n. left_job n) is)) where
  left_job : DeltaNext → Option ℕ
  left_job (EndLeaving k q) = Some k
  left_job n = None

joining_one : (x : Step) (s : Session) (j : ℕ) (n : DeltaNext) → MayBe x j → s.job ≡ Some j → IsLateDelta n → RepliedSoFar x → RepliedSoFar (carry_delta s n x)
joining_one x s j n may its late h = delta_one x s n (λ answers i is. subst (λ k. MayBe x k) (some_value j i (sym its ∙ is)) may) (no_leaving x n late) h

renewed_one : (x : Step) (s : Session) (recovering : Bool) (made : ℕ) (answer : Answer) → RepliedSoFar x → RepliedSoFar (carry_delta s (next_after_renewal recovering made answer) x)
unfolding carry_delta
renewed_one x s true made Written h = h
renewed_one x s false made Written h = record { running = h.running; once = h.once }
renewed_one x s recovering made Failed h = h
renewed_one x s recovering made (Read bytes) h = h

renewal_one : (x : Step) (s : Session) → RepliedSoFar x
    → RepliedSoFar (carry_delta s (next_renewal (delta_of_session x.setting s) x.reading (delta_known x.setting (seen x) s) (bits_due x.setting (calls_of (seen x) s) x.reading)) x)
unfolding carry_delta next_renewal
renewal_one x s h = by (is_renewal_due (delta_of_session x.setting s) x.reading (delta_known x.setting (seen x) s)) where
  d : DeltaRec
  d = delta_record (delta_of_session x.setting s) Live (generation_of (seen x) s) (last_seq (seen x) s + 1) x.reading (bits_due x.setting (calls_of (seen x) s) x.reading)

  by : (b : Bool) → RepliedSoFar (carry_delta s (elim b as (λ z. DeltaNext) [ false ↦ Nothing | true ↦ WriteRenewal d ]) x)
  by false = h
  by true = record { running = h.running; once = h.once }

free_one : (x : Step) (s : Session) → RepliedSoFar x → RepliedSoFar (carry_delta s (next_free (delta_of_session x.setting s) x.reading (delta_known x.setting (seen x) s)) x)
unfolding carry_delta
free_one x s h = by (delta_known x.setting (seen x) s).leaving (delta_known x.setting (seen x) s).freed where
  d : DeltaRec
  d = delta_record (delta_of_session x.setting s) Free (generation_of (seen x) s) (last_seq (seen x) s + 1) x.reading no_bits

  by : (o : Option ℕ) (b : Bool) → RepliedSoFar (carry_delta s (elim o as (λ z. DeltaNext) [ None ↦ Nothing | Some j ↦ elim b as (λ z. DeltaNext) [ true ↦ Nothing | false ↦ WriteFree j d ] ]) x)
  by None b = h
  by (Some j) true = h
  by (Some j) false = record { running = h.running; once = h.once }

freed_one : (x : Step) (s : Session) (j call : ℕ) (answer : Answer) → IsSome (job_numbered x.setting (seen x) j) → RepliedSoFar x → RepliedSoFar (carry_delta s (next_after_free j call answer) x)
freed_one x s j call Written its h = delta_one x s (EndLeaving j Done) (λ never. absurd never) (freed_leaving x j call Written its) h
freed_one x s j call Failed its h = delta_one x s (EndLeaving j (IoFault call)) (λ never. absurd never) (freed_leaving x j call Failed its) h
freed_one x s j call (Read bytes) its h = delta_one x s Nothing (λ never. absurd never) (freed_leaving x j call (Read bytes) its) h

waiting_numbered : (x : Step) (j : ℕ) (m : Submitted) → Whole x → waiting_call (seen x) j ≡ Some m → IsSome (job_numbered x.setting (seen x) j)
waiting_numbered x j m k waits =
    let found = find_inside (is_of_job j) (outstanding (seen x)) m waits in
    let there : Contains (submitted (seen x)) m = (kept_inside (λ (z : Submitted). is_none z.answer) (submitted (seen x)) m found.0).0 in
    let of = some_is_true (λ i. i == j) (job_of m.call.purpose) found.1 in
    caller_numbered x m j (both_of x k) there (of.1 ∙ ap (λ i. Some i) (eqb-true of.0 j of.2))

joiner_numbered : (x : Step) (s : Session) (j : ℕ) → Whole x → Has x s → s.job ≡ Some j → IsSome (job_numbered x.setting (seen x) j)
joiner_numbered x s j k has its =
    let v = k.facts.jobs.joins s j (got_inside (sessions x.setting (seen x)) s.number s has) its in
    numbered_of x j (subst (λ o. IsSome o) (sym v.1) refl)

spawn_one : (x : Step) (p : ℕ) → Whole x → RepliedSoFar x → RepliedSoFar (when_running (job_of_start (seen x) p) SpawnFault (end_holdings p x))
spawn_one x p k h = by (job_of_start (seen x) p) refl where
  y : Step
  y = end_holdings p x

  ended_all : (RepliedSoFar y) × ((j : ℕ) → IsSome (job_numbered x.setting (seen x) j) → IsSome (job_numbered y.setting (seen y) j))
  ended_all =
      for_each_keeps (λ z. RepliedSoFar z × ((j : ℕ) → IsSome (job_numbered x.setting (seen x) j) → IsSome (job_numbered z.setting (seen z) j))) (filter (λ g. g.process == p) (holdings (seen x))) (λ g. add_end (end_of g)) x
      (λ g there z f. (record { running = f.0.running; once = f.0.once }, f.1)) (h, λ j is. is)

  by : (o : Option ℕ) → job_of_start (seen x) p ≡ o → RepliedSoFar (when_running o SpawnFault y)
  by None is = ended_all.0
  by (Some j) is = when_keeps RepliedSoFar (is_running (seen y) j) (add_reply j SpawnFault) y (λ runs f. one_more y j SpawnFault (record { runs = runs; numbered = ended_all.1 j (starter_numbered x p j (both_of x k) is) }) f) ended_all.0

worker : (x : Step) (s : Session) (work : Work) (step : LeaseStep) (m : Submitted) (answer : Answer) → Whole x → Hears x s m answer → m.call.purpose ≡ Lease work step → goes_on x.setting (seen x) s work ≡ true → (j : ℕ) → work_job work ≡ Some j → MayBe x j
worker x s Settling step m answer k hears is on j its = absurd (none_some j its)
worker x s (ForJob i) step m answer k hears is on j its = subst (λ n. MayBe x n) (some_value i j its) (caller x s m answer i k hears (ap (λ p. job_of p) is) on)

every_act : Acts (λ x. Whole x × RepliedSoFar x) RepliedSoFar
unfolding after_value_read
every_act =
    record {
      kills = λ x s has due k. signalled RepliedSoFar RepliedSoFar NoReply AnyCall AnyStart AnyMove silent tt x Kill s k.1;
      times_out = λ x j m wake bare runs waits late k. refused_one x j (IoTimeout m.call.number m.reading x.reading) (record { runs = runs; numbered = waiting_numbered x j m k.0 waits }) k.1;
      hears = λ x number answer wake bare expected k. seen_replied x (Told number answer) wake k.1;
      counts = λ x text wake bare k. seen_replied x (Number text) wake k.1;
      exits = λ x p wake bare one k.
          let w : Step = with_input (Exit p) x in
          exited_all (leave_holdings p w) p (left RepliedSoFar RepliedSoFar NoReply AnyCall AnyStart AnyMove silent w p (seen_replied x (Exit p) wake k.1));
      exits_as_none = λ x p wake bare none k. seen_replied x (Exit p) wake k.1;
      starts = λ x p ok wake bare expected k. seen_replied x (Spawned p ok) wake k.1;
      fails_to_start = λ x p input k. spawn_one x p k.0 k.1;
      signals_instead = λ x p q input stood k. record { running = k.1.running; once = k.1.once };
      says_started = λ x p j input is runs k. one_more x j (started_reply (seen x) p) (record { runs = runs; numbered = starter_numbered x p j (both_of x k.0) is }) k.1;
      misreads = λ x text column wake bare says k. line_one x text (Misread column) k.0 wake k.1;
      answers = λ x text c r wake bare says is k. line_one x text r k.0 wake k.1;
      carries = λ x text c d wake bare says is more k. decided_one (with_input (Line text) x) (next_job x.setting (seen x)) c d (own_runs x text k.0 wake) (seen_replied x (Line text) wake k.1);
      joins_on = λ x s j step m answer hears is runs k.
          joining_one x s j (next_in_joining (delta_of_session x.setting s) (generation_of (seen x) s) (calls_of (seen x) s) x.reading m step answer) (caller x s m answer j k.0 hears (ap (λ p. job_of p) is) runs)
          (joining_of x s m j step (both_of x k.0) (heard_call x s m answer hears).0 hears.session is) (joining_late (delta_of_session x.setting s) (generation_of (seen x) s) (calls_of (seen x) s) x.reading m step answer) k.1;
      ends_joining = λ x s j step m answer hears is stops k. removal_of_refused RepliedSoFar RepliedSoFar NoReply AnyCall AnyStart AnyMove silent x s tt k.1;
      renewed = λ x s m answer hears is k. renewed_one x s (is_some (recovery_of x.setting (seen x) s)) m.reading answer k.1;
      freed = λ x s j m answer hears is k. freed_one x s j m.call.number answer (caller_numbered x m j (both_of x k.0) (heard_call x s m answer hears).0 (ap (λ p. job_of p) is)) k.1;
      shown = λ x s m bytes hears is joined starts k. stopped_all x s None k.1;
      sees = λ x s number bytes at g has input held k. record { running = k.1.running; once = k.1.once };
      leads_on = λ x s work step m answer aim hears is on aims k.
          lease_one x s (spot_of_call x.setting.layout m) work (next_of_lease x.setting (seen x) s (spot_of_call x.setting.layout m) aim m step answer) (worker x s work step m answer k.0 hears is on) k.1;
      fails = λ x s m j hears lone runs k. one_more x j (IoFault m.call.number) (caller x s m Failed j k.0 hears (lone_of m.call.purpose j lone) runs) k.1;
      has_asked = λ x s m j owner hears is runs k. one_more x j Done (caller x s m Written j k.0 hears (ap (λ p. job_of p) is) runs) k.1;
      has_set = λ x s m j hears is runs k. one_more x j (set_reply m) (caller x s m Written j k.0 hears (ap (λ p. job_of p) is) runs) k.1;
      asks = λ x s m j bytes c hears is runs reads k. asked_one x s j bytes c (caller x s m (Read bytes) j k.0 hears (ap (λ p. job_of p) is) runs) k.1;
      tells = λ x s m j bytes hears is runs k. one_more x j (value_reply x.setting.layout bytes) (caller x s m (Read bytes) j k.0 hears (ap (λ p. job_of p) is) runs) k.1;
      warns = λ x s m bytes g signal hears is held own says k. sent RepliedSoFar RepliedSoFar NoReply AnyCall AnyStart AnyMove silent tt x g.process signal k.1;
      joins_in_time = λ x s j has wake is runs k.
          joining_one x s j (next_on_wake (delta_of_session x.setting s) x.reading (calls_of (seen x) s)) (record { runs = runs; numbered = joiner_numbered x s j k.0 has is }) is
          (wake_late (delta_of_session x.setting s) x.reading (calls_of (seen x) s)) k.1;
      renews = λ x s has wake joined k. renewal_one x s k.1;
      settles = λ x s at has wake active aligned none k.
          lease_one x s at Settling (next_of_settling x.setting (seen x) s at) (λ j is. absurd (none_some j is)) k.1;
      parts = λ x s has joined recovers free quiet k. removal RepliedSoFar RepliedSoFar NoReply AnyCall AnyStart AnyMove silent x s.lockspace tt k.1;
      frees = λ x s has joined well free quiet k. free_one x s k.1;
    }

pub replies_run : RepliesRun
replies_run = from_more (λ x. Whole x × RepliedSoFar x) (λ x. Known x × RepliedSoFar x) RepliedSoFar (λ x k. (k.0.0, k.1)) every_act

pub replies_run_begin : RepliesRunBegin
unfolding begin_recoveries begin_recovery
replies_run_begin st past e follows whole =
    for_each_keeps RepliedSoFar (present_sessions st (seen (begin_step st past e.reading))) begin_recovery (begin_step st past e.reading)
    (λ s there y h. when_keeps RepliedSoFar (begins_now (seen y) (recovery_of y.setting (seen y) s)) (signal_and_refuse s None) y (λ starts k. stopped_all y s None k) h)
    (record { running = λ a there. absurd (contains_none a there); once = λ i j d less inside. absurd (omega (arith, less, inside)) })
