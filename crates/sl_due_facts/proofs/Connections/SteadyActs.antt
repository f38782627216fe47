-- Acts that move no connection, reply to no joining and call only for joined sessions; what they keep, and a few acts more, is kept by all.
use Rattle.sl_trace.specs.declared.effects.Call.{Call}
use Rattle.sl_trace.specs.declared.effects.Op.{Op}
use Rattle.sl_due_facts.proofs.Acts.DecisionsAreTheirs.{Of}
use Rattle.sl_due_facts.proofs.Acts.InputsKeep.{has_heard}
use Rattle.sl_due_facts.proofs.Acts.LoopsKeep.{for_each_keeps}
use Rattle.sl_due_facts.proofs.Acts.PlainActs.{line_has}
use Rattle.sl_due_facts.specs.Acts.Acts.{Acts, Expects, Has, Hears, next_of_settling}
use Rattle.sl_due_facts.specs.Acts.TraceSoFar.{entry_of}
use Rattle.sl_area.specs.AreaLayout.{request_offset}
use Rattle.sl_due.specs.DueAnswers.{set_reply}
use Rattle.sl_due.specs.DueCommands.{carry_decision, decided}
use Rattle.sl_due.specs.CarriedDelta.{carry_delta, see_request, write_own_sector}
use Rattle.sl_due.specs.DueTimeOuts.{refuse, remove_connection, remove_of_refused}
use Rattle.sl_due.specs.DueRecovery.{send, signal_and_refuse, signal_holders}
use Rattle.sl_due.specs.DueInputs.{end_holdings, leave_holdings, refuse_jobs_of, started_reply, when_running}
use Rattle.sl_due.specs.CarriedLease.{carry_lease, next_of_lease}
use Rattle.sl_due.specs.DueRequests.{after_request_read, after_value_read, bits_due, value_reply}
use Rattle.sl_due.specs.Steps.{Step, add_call_of, add_reply, add_signal, seen, with_input}
use Rattle.sl_due.specs.declared.decision.Decision.TheVariants.{ConvertsTo, GetsValue, GivesUp, Joins, Leaves, ReadsArea, Replies, Requests, SetsValue, Shares, TakesOver}
use Rattle.sl_due.specs.declared.decision.Decision.{Decision}
use Rattle.sl_due_facts.proofs.Jobs.CallsStay.{IsLate, late}
use Rattle.sl_due_facts.proofs.Jobs.DecisionsFit.{DecisionFits, decisions_fit}
use Rattle.sl_due_facts.proofs.Jobs.EffectsAreAllowed.{Allows, DecisionAllowed, decision, ended, lease, left, requested, said, sent, signalled, stopped}
use Rattle.sl_due_facts.proofs.Jobs.JobFactsGrow.{Both, input_sees}
use Rattle.sl_due_facts.proofs.Jobs.JobsAreAllowed.{MayCall, MayMove, MayReply, MayStart, Meanwhile, allows, late_on_survey, late_on_wake, late_unless_told}
use Rattle.sl_due_facts.proofs.Jobs.LinesAreAllowed.{IsBegun, late_on_line}
use Rattle.sl_due_facts.proofs.Jobs.NearlyPlainActs.{AnyStart}
use Rattle.sl_due_facts.proofs.Jobs.RepliesComeAfter.{IsLateLease, lease_late, on_bool, on_option, set_late, value_late}
use Rattle.sl_due_facts.proofs.Jobs.SessionsArePresent.{joined_present}
use Rattle.sl_due_facts.proofs.Jobs.SessionsStand.{joined_then, running_before}
use Rattle.sl_trace.specs.Jobs.{is_command_that, is_job_of_process, job_of_start, jobs_of_session, lockspace_named}
use Rattle.sl_trace.specs.LeaseDecisions.{lease_place}
use Rattle.sl_trace.specs.Leases.{holdings_on, known, lver_written, spot_of_call}
use Rattle.sl_trace.specs.declared.lease.LeaseNext.TheVariants.{AnswerJob}
use Rattle.sl_trace.specs.declared.lease.LeaseNext.{LeaseNext}
use Rattle.sl_due_facts.proofs.AddedEffects.CallsGrow.{mine_more, others_stay, same_sessions}
use Rattle.sl_due_facts.proofs.AddedEffects.JoinedCallsKeepOrder.{one_number}
use Rattle.sl_words.proofs.Lists.{find_inside, got_inside, kept, kept_inside}
use Rattle.sl_sector.specs.Bitmaps.{no_bits}
use Rattle.sl_sector.specs.declared.sector.DeltaRec.{DeltaRec}
use Rattle.sl_sector.specs.declared.sector.DeltaState.TheVariants.{Free, Live}
use Rattle.sl_sector.specs.declared.sector.Rec.TheVariants.{DeltaIs}
use Rattle.sl_due_facts.proofs.Connections.AllowedMore.{StopsAllowed, more_decision, more_lease, more_request}
use Rattle.sl_due_facts.proofs.Connections.ConnectionEffects.{IsOtherJob, reply_same}
use Rattle.sl_due_facts.proofs.Connections.ConnectionFactsAreKept.{alone_joined, heard_is_joined, holder_is_joined, lone_other_job}
use Rattle.sl_due_facts.proofs.Connections.ConnectionLines.{active_is_joined, carried_calls, other_than_next}
use Rattle.sl_due_facts.proofs.Connections.ConnectionWalk.{NoMove, PlainCall, PlainReply, alone_of, no_step}
use Rattle.sl_due_facts.proofs.Connections.OtherJobs.{other_heard, other_of_process, other_of_session, other_starter}
use Rattle.sl_due_facts.proofs.Sessions.NamesAreAllowed.{Holds, NameCall, NameReply, decision_named, is_joining, lease_named, request_named}
use Rattle.sl_due_facts.proofs.Sessions.NamesGrow.{input_names}
use Rattle.sl_due_facts.specs.Sessions.SessionLaws.{HasNameFacts}
use Rattle.sl_trace.specs.DeltaDecisions.{DeltaLease, delta_known, delta_of_session, delta_record, is_renewal_due, next_after_free, next_after_renewal, next_free, next_in_joining, next_on_wake, next_renewal, own_offset}
use Rattle.sl_trace.specs.Sessions.{calls_of, generation_of, has_open_write, holdings_of, is_joined, join_call, joined_after, last_renewal, recovery_of, refused_after, removed_after, sessions}
use Rattle.sl_trace.specs.declared.delta.DeltaKnown.{DeltaKnown}
use Rattle.sl_trace.specs.declared.delta.DeltaNext.TheVariants.{Nothing, WriteFree, WriteRenewal}
use Rattle.sl_trace.specs.declared.session.Session.{Session}
use Rattle.sl_due_facts.specs.Facts.AllFacts.{Whole}
use Rattle.sl_trace.specs.Traces.{Job, Submitted, is_before_input, is_running, is_shared, job_of, jobs, new_call, next_call, next_job, running_jobs, submitted, work_job}
use Rattle.sl_trace.specs.declared.command.Command.{Command}
use Rattle.sl_trace.specs.declared.command.LockspaceArg.{LockspaceArg}
use Rattle.sl_trace.specs.declared.effects.Grant.{Grant}
use Rattle.sl_trace.specs.declared.effects.JoinStep.TheVariants.{FirstRead, FirstRenewal}
use Rattle.sl_trace.specs.declared.effects.JoinStep.{JoinStep}
use Rattle.sl_trace.specs.declared.effects.Op.TheVariants.{ReadSectors, WriteRecord}
use Rattle.sl_trace.specs.declared.effects.Purpose.TheVariants.{Joining, Lease, Leaving, Renewal, RequestRead, RequestWrite, SeeRequest, ValueRead, ValueWrite}
use Rattle.sl_trace.specs.declared.effects.Purpose.{Purpose}
use Rattle.sl_trace.specs.declared.effects.Signal.TheVariants.{Kill, Term}
use Rattle.sl_trace.specs.declared.effects.Spot.{Spot}
use Rattle.sl_trace.specs.declared.effects.Work.TheVariants.{Settling}
use Rattle.sl_trace.specs.declared.effects.Work.{Work}
use Rattle.sl_trace.specs.declared.input.Answer.TheVariants.{Failed, Read, Written}
use Rattle.sl_trace.specs.declared.input.Answer.{Answer}
use Rattle.sl_trace.specs.declared.input.Input.TheVariants.{Answer as Told, Exit, Line, Number, Spawned, Wake}
use Rattle.sl_trace.specs.declared.input.Input.{Input}
use Rattle.sl_trace.specs.declared.reply.Reply.TheVariants.{BadCommand as Misread, Done, IoFault, IoTimeout, NoProcess, Recovering, SpawnFault}
use Rattle.sl_trace.specs.declared.reply.Reply.{Reply}
use Rattle.sl_words.proofs.CaseLaws.{is_false, none_some, not_both}
use Rattle.sl_words.specs.Words.{some_is}
use Rattle.std.proofs.Common.{ap, inl, inr, refl, subst, sym, ◌∙◌}
use Rattle.std.specs.Prelude.{Bool, Contains, List, None, Ok, Some, [], bytes_eq, cond, false, filter, is_some, length, not, true, ℕ, ◌+◌, ◌==◌, ◌≡◌, ◌⊎◌}
use Rattle.sl_due_facts.proofs.Jobs.AnsweredCallsFit.{at, both_of}

-- ---- what such an act leaves

pub record Steady (x y : Step) : Type 0 where
  pub setting : y.setting ≡ x.setting
  pub before : y.past ≡ x.past
  pub input : y.input ≡ x.input
  pub all : sessions y.setting (seen y) ≡ sessions x.setting (seen x)
  pub jobs : jobs y.setting (seen y) ≡ jobs x.setting (seen x)
  pub running : (n : ℕ) → is_running (seen y) n ≡ true → is_running (seen x) n ≡ true
  pub moves : y.effects.moves ≡ x.effects.moves
  pub joined : (z : Session) → Contains (sessions x.setting (seen x)) z → joined_after (seen y) z ≡ joined_after (seen x) z
  pub removed : (z : Session) → Contains (sessions x.setting (seen x)) z → removed_after (seen y) z ≡ removed_after (seen x) z
  pub refused : (z : Session) → Contains (sessions x.setting (seen x)) z → refused_after (seen y) z ≡ refused_after (seen x) z
  pub calls : (z : Session) → Contains (sessions x.setting (seen x)) z → is_joined (seen x) z ≡ false → calls_of (seen y) z ≡ calls_of (seen x) z
  pub renewals : (z : Session) → Contains (sessions x.setting (seen x)) z → join_call (calls_of (seen y) z) FirstRenewal ≡ join_call (calls_of (seen x) z) FirstRenewal

pub steady_itself : (x : Step) → Steady x x
steady_itself x =
    record { setting = refl; before = refl; input = refl; all = refl; jobs = refl; running = λ n is. is; moves = refl; joined = λ z there. refl; removed = λ z there. refl; refused = λ z there. refl; calls = λ z there away. refl; renewals = λ z there. refl }

steady_late : (x y : Step) (r : Reply) → Steady x y → IsLate x r → IsLate y r
steady_late x y r h may n a is = by (may n a (sym h.input ∙ is)) where
  by : (is_before_input r ≡ false) ⊎ ((m : Submitted) → Contains (submitted x.past) m → (m.call.number == n) ≡ true → job_of m.call.purpose ≡ None)
      → (is_before_input r ≡ false) ⊎ ((m : Submitted) → Contains (submitted y.past) m → (m.call.number == n) ≡ true → job_of m.call.purpose ≡ None)
  by (inl after) = inl after
  by (inr none) = inr (λ m there its. none m (subst (λ es. Contains (submitted es) m) h.before there) its)

renewal_more : (y : Step) (s : Session) (path : List ℕ) (p : Purpose) (o : ℕ) (op : Op) (z : Session) → is_joining p ≡ false
    → join_call (calls_of (seen (add_call_of s.number path p o op y)) z) FirstRenewal ≡ join_call (calls_of (seen y) z) FirstRenewal
renewal_more y s path p o op z other = by (s.number == z.number) refl where
  made : Call
  made = record { number = next_call y.setting (seen y); session = s.number; purpose = p; path = path; offset = o; op = op }

  by : (b : Bool) → (s.number == z.number) ≡ b → join_call (calls_of (seen (add_call_of s.number path p o op y)) z) FirstRenewal ≡ join_call (calls_of (seen y) z) FirstRenewal
  by false away = ap (λ ms. join_call ms FirstRenewal) (others_stay (entry_of y) y.past made z away)
  by true mine =
      ap (λ ms. join_call ms FirstRenewal) (mine_more (entry_of y) y.past made z mine)
      ∙ ap (λ b. cond b (Some (new_call (length y.past) y.reading made)) (join_call (calls_of (seen y) z) FirstRenewal)) (no_step p FirstRenewal other)

pub steady_allow : (x : Step) → Allows (Steady x) (Steady x) (PlainReply x) (PlainCall x) AnyStart NoMove
steady_allow x =
    record {
      ends = λ y e h. record { setting = h.setting; before = h.before; input = h.input; all = h.all; jobs = h.jobs; running = h.running; moves = h.moves; joined = h.joined; removed = h.removed; refused = h.refused; calls = h.calls; renewals = h.renewals };
      signals = λ y q signal h. record { setting = h.setting; before = h.before; input = h.input; all = h.all; jobs = h.jobs; running = h.running; moves = h.moves; joined = h.joined; removed = h.removed; refused = h.refused; calls = h.calls; renewals = h.renewals };
      moves = λ y m may h. absurd may;
      grants = λ y g h. record { setting = h.setting; before = h.before; input = h.input; all = h.all; jobs = h.jobs; running = h.running; moves = h.moves; joined = h.joined; removed = h.removed; refused = h.refused; calls = h.calls; renewals = h.renewals };
      starts = λ y k may h. record { setting = h.setting; before = h.before; input = h.input; all = h.all; jobs = h.jobs; running = h.running; moves = h.moves; joined = h.joined; removed = h.removed; refused = h.refused; calls = h.calls; renewals = h.renewals };
      replies = λ y j r may h. record {
        setting = h.setting;
        before = h.before;
        input = h.input;
        all = h.all;
        jobs = h.jobs;
        running = λ n is. h.running n (running_before y j r n is);
        moves = h.moves;
        joined = λ z there. (reply_same y j r z (steady_late x y r h may.0) (may.1 z there)).joined ∙ h.joined z there;
        removed = h.removed;
        refused = λ z there. (reply_same y j r z (steady_late x y r h may.0) (may.1 z there)).refused ∙ h.refused z there;
        calls = λ z there away. (reply_same y j r z (steady_late x y r h may.0) (may.1 z there)).calls ∙ h.calls z there away;
        renewals = λ z there. ap (λ ms. join_call ms FirstRenewal) (reply_same y j r z (steady_late x y r h may.0) (may.1 z there)).calls ∙ h.renewals z there;
      };
      calls = λ y s path p o op may h. record {
        setting = h.setting;
        before = h.before;
        input = h.input;
        all = same_sessions y.setting (entry_of y) y.past (record { number = next_call y.setting (seen y); session = s.number; purpose = p; path = path; offset = o; op = op }) (no_step p FirstRead may.2) ∙ h.all;
        jobs = h.jobs;
        running = h.running;
        moves = h.moves;
        joined = h.joined;
        removed = h.removed;
        refused = h.refused;
        calls = λ z there away.
            others_stay (entry_of y) y.past (record { number = next_call y.setting (seen y); session = s.number; purpose = p; path = path; offset = o; op = op }) z
            (is_false (s.number == z.number) (λ same. not_both (is_joined (seen x) s) may.1 (subst (λ q. is_joined (seen x) q ≡ false) (one_number x.setting (seen x) s.number s z may.0 there same) away))) ∙ h.calls z there away;
        renewals = λ z there. renewal_more y s path p o op z may.2 ∙ h.renewals z there;
      };
      rest = λ y h. h;
    }

-- ---- all acts

-- What is to be shown of the other acts.
pub record SpecialActs (H J : Step → Type 0) : Type 0 where
  pub whole : (x : Step) → H x → Whole x
  pub here : (x : Step) → H x → J x
  pub steady : (x y : Step) → Steady x y → J x → J y
  pub inputs : (x : Step) (i : Input) → x.input ≡ Wake → x.effects.calls ≡ [] → Expects x i → H x → J (with_input i x)
  pub times_out : (x : Step) (j : ℕ) (m : Submitted) → x.input ≡ Wake → x.effects.calls ≡ [] → is_running (seen x) j ≡ true → H x → J (refuse j (IoTimeout m.call.number m.reading x.reading) x)
  pub begins : (x : Step) (text : List ℕ) (c : Command) (n : ℕ) (a : LockspaceArg) → x.input ≡ Wake → x.effects.calls ≡ [] → x.setting.read text ≡ Ok c → DecisionFits x.setting (seen x) c (Joins n a) → H x
      → J (carry_decision (next_job x.setting (seen x)) c (Joins n a) (with_input (Line text) x))
  pub joins_on : (x : Step) (s : Session) (j : ℕ) (step : JoinStep) (m : Submitted) (answer : Answer) → Hears x s m answer → m.call.purpose ≡ Joining j step → is_running (seen x) j ≡ true → H x
      → J (carry_delta s (next_in_joining (delta_of_session x.setting s) (generation_of (seen x) s) (calls_of (seen x) s) x.reading m step answer) x)
  pub ends_joining : (x : Step) (s : Session) (j : ℕ) (step : JoinStep) (m : Submitted) (answer : Answer) → Hears x s m answer → m.call.purpose ≡ Joining j step → is_running (seen x) j ≡ false → H x → J (remove_of_refused s x)
  pub renewed : (x : Step) (s : Session) (m : Submitted) (answer : Answer) → Hears x s m answer → m.call.purpose ≡ Renewal → H x
      → J (carry_delta s (next_after_renewal (is_some (recovery_of x.setting (seen x) s)) m.reading answer) x)
  pub freed : (x : Step) (s : Session) (j : ℕ) (m : Submitted) (answer : Answer) → Hears x s m answer → m.call.purpose ≡ Leaving j → H x → J (carry_delta s (next_after_free j m.call.number answer) x)
  pub joins_in_time : (x : Step) (s : Session) (j : ℕ) → Has x s → x.input ≡ Wake → s.job ≡ Some j → is_running (seen x) j ≡ true → H x
      → J (carry_delta s (next_on_wake (delta_of_session x.setting s) x.reading (calls_of (seen x) s)) x)
  pub parts : (x : Step) (s : Session) → Has x s → is_joined (seen x) s ≡ true → is_some (recovery_of x.setting (seen x) s) ≡ true → holdings_of (seen x) s ≡ [] → has_open_write (seen x) s ≡ false → H x
      → J (remove_connection s.lockspace x)

pub job_steady : (x z : Step) (s : Session) (j : Job) → Steady x z → Contains (jobs_of_session z.setting (seen z) s) j → Contains (jobs_of_session x.setting (seen x) s) j
job_steady x z s j h there =
    let p : Job → Bool = is_command_that (λ c. some_is (λ n. bytes_eq n s.lockspace) (lockspace_named c)) in
    let names = kept_inside p (running_jobs z.setting (seen z)) j there in
    let runs = kept_inside (λ (k : Job). is_running (seen z) k.number) (jobs z.setting (seen z)) j names.0 in
    kept p (running_jobs x.setting (seen x)) j names.1 (kept (λ (k : Job). is_running (seen x) k.number) (jobs x.setting (seen x)) j (h.running j.number runs.1) (subst (λ js. Contains js j) h.jobs runs.0))

steady_lease : (x : Step) (s : Session) (spot : Spot) (work : Work) (n : LeaseNext) → Has x s → is_joined (seen x) s ≡ true → ((r : Reply) → n ≡ AnswerJob r → IsLate x r) → ((j : ℕ) → work_job work ≡ Some j → IsOtherJob x j) → Steady x (carry_lease s spot work n x)
steady_lease x s spot work n has joined after other =
    lease (Steady x) (Steady x) (PlainReply x) (PlainCall x) AnyStart NoMove (steady_allow x) x s spot work n
    (more_lease (NameReply x) (PlainReply x) (NameCall x) (PlainCall x) x s spot work n (λ j r its late_one. (late_one, other j its)) (λ path p o op other k. (k.0, joined, other))
    (lease_named x x s spot work n has (joined_then (seen x) s joined) after)) (steady_itself x)

steady_reply : (x : Step) (j : ℕ) (r : Reply) → IsLate x r → IsOtherJob x j → Steady x (add_reply j r x)
steady_reply x j r after other = (steady_allow x).replies x j r (after, other) (steady_itself x)

steady_write : (x : Step) (s : Session) (p : Purpose) (d : DeltaRec) → Has x s → is_joined (seen x) s ≡ true → is_joining p ≡ false → Steady x (write_own_sector s p d x)
steady_write x s p d has joined no_look = (steady_allow x).calls x s s.path p (own_offset x.setting s) (WriteRecord (DeltaIs d)) (has, joined, no_look) (steady_itself x)

pub steady_renewal : (x : Step) (s : Session) (bits : List ℕ) → Has x s → is_joined (seen x) s ≡ true → Steady x (carry_delta s (next_renewal (delta_of_session x.setting s) x.reading (delta_known x.setting (seen x) s) bits) x)
unfolding next_renewal carry_delta
steady_renewal x s bits has joined =
    let l : DeltaLease = delta_of_session x.setting s in
    let k : DeltaKnown = delta_known x.setting (seen x) s in
    let d : DeltaRec = delta_record l Live k.generation (k.seq + 1) x.reading bits in
    on_bool (λ n. Steady x (carry_delta s n x)) (is_renewal_due l x.reading k) Nothing (WriteRenewal d) (steady_itself x) (steady_write x s Renewal d has joined refl)

pub steady_free : (x : Step) (s : Session) → Has x s → is_joined (seen x) s ≡ true → Steady x (carry_delta s (next_free (delta_of_session x.setting s) x.reading (delta_known x.setting (seen x) s)) x)
unfolding carry_delta
steady_free x s has joined =
    let l : DeltaLease = delta_of_session x.setting s in
    let k : DeltaKnown = delta_known x.setting (seen x) s in
    let d : DeltaRec = delta_record l Free k.generation (k.seq + 1) x.reading no_bits in
    on_option (λ n. Steady x (carry_delta s n x)) k.leaving Nothing (λ j. elim k.freed [ true ↦ Nothing | false ↦ WriteFree j d ]) (steady_itself x)
    (λ j. on_bool (λ n. Steady x (carry_delta s n x)) k.freed (WriteFree j d) Nothing (steady_write x s (Leaving j) d has joined refl) (steady_itself x))

steady_exit : (x : Step) (n : ℕ) → x.input ≡ Wake → x.effects.calls ≡ [] → Whole x → Steady (with_input (Exit n) x) (refuse_jobs_of n (leave_holdings n (with_input (Exit n) x)))
steady_exit x n wake bare h =
    for_each_keeps (Steady w) (filter (is_job_of_process (seen y) n) (running_jobs y.setting (seen y))) (λ j. add_reply j.number (NoProcess n)) y
    (λ j there z k.
    let its = kept_inside (is_job_of_process (seen y) n) (running_jobs y.setting (seen y)) j there in
    (steady_allow w).replies z j.number (NoProcess n) (late_unless_told w (NoProcess n) refl, λ q inside. other_of_process y n j both.0.1 its.0 its.1 q (subst (λ ss. Contains ss q) (sym stays.all) inside)) k) stays
  where
    w : Step
    w = with_input (Exit n) x

    y : Step
    y = leave_holdings n (with_input (Exit n) x)

    stays : Steady w y
    stays = left (Steady w) (Steady w) (PlainReply w) (PlainCall w) AnyStart NoMove (steady_allow w) w n (steady_itself w)

    both : Meanwhile w y
    both = left (Meanwhile w) Both (MayReply w) (MayCall w) (MayStart w) MayMove (allows w) w n (at w (input_sees x (Exit n) wake bare refl (both_of x h)))

-- What a command came to, but a joining's beginning.
steady_carried : (x : Step) (text : List ℕ) (c : Command) (d : Decision) → Whole x → x.input ≡ Wake → x.effects.calls ≡ [] → x.setting.read text ≡ Ok c → decided x.setting (seen x) x.reading c ≡ d
    → ((n : ℕ) (a : LockspaceArg) → d ≡ Joins n a → ⊥) → Steady (with_input (Line text) x) (carry_decision (next_job x.setting (seen x)) c d (with_input (Line text) x))
steady_carried x text c d h wake bare says is no_join = by d has fits (decision_named x text c d has fits) no_join where
  w : Step
  w = with_input (Line text) x

  fits : DecisionFits x.setting (seen x) c d
  fits = subst (λ z. DecisionFits x.setting (seen x) c z) is (decisions_fit x.setting (seen x) x.reading c)

  has : Of (Has (with_input (Line text) x)) d
  has = subst (λ z. Of (Has (with_input (Line text) x)) z) is (line_has x text c bare)

  names : HasNameFacts (with_input (Line text) x)
  names = input_names x (Line text) wake bare h.facts.names

  stops : (s : Session) → Has w s → is_joined (seen x) s ≡ true → StopsAllowed (Steady (with_input (Line text) x)) (PlainReply (with_input (Line text) x)) s
  stops s there joined z k i inside =
      let mine : Contains (sessions x.setting (seen w)) s = got_inside (sessions x.setting (seen w)) s.number s there in (
        late_on_line x text (Recovering (last_renewal z.setting (seen z) s)),
        other_of_session w s i (input_sees x (Line text) wake bare refl (both_of x h)).1 (alone_of w s names mine (joined_present (seen w) s joined)) joined (job_steady w z s i k inside),
      )

  own_stops : (z : Decision) → Of (Has (with_input (Line text) x)) z → DecisionFits x.setting (seen x) c z → (s : Session) → z ≡ Leaves s → StopsAllowed (Steady (with_input (Line text) x)) (PlainReply (with_input (Line text) x)) s
  own_stops z there f s leaving =
      let fs : DecisionFits x.setting (seen x) c (Leaves s) = subst (λ q. DecisionFits x.setting (seen x) c q) leaving f in
      stops s (subst (λ q. Of (Has (with_input (Line text) x)) q) leaving there) (active_is_joined x.setting (seen x) s fs.0)

  begun_no : (z : Decision) → ((n : ℕ) (a : LockspaceArg) → z ≡ Joins n a → ⊥) → IsBegun z → ⊥
  begun_no (Joins n a) f k = f n a refl
  begun_no (Replies r) f k = k
  begun_no (Leaves s) f k = k
  begun_no (ReadsArea s r) f k = k
  begun_no (Shares s lver) f k = k
  begun_no (GivesUp s g) f k = k
  begun_no (TakesOver s g) f k = k
  begun_no (ConvertsTo s r mode) f k = k
  begun_no (Requests s r) f k = k
  begun_no (SetsValue s spot v) f k = k
  begun_no (GetsValue s spot) f k = k

  by : (z : Decision) → Of (Has (with_input (Line text) x)) z → DecisionFits x.setting (seen x) c z
      → IsBegun z ⊎ DecisionAllowed (Holds (with_input (Line text) x)) (NameReply (with_input (Line text) x)) (NameCall (with_input (Line text) x)) AnyStart (with_input (Line text) x) (next_job x.setting (seen x)) c z
      → ((n : ℕ) (a : LockspaceArg) → z ≡ Joins n a → ⊥) → Steady (with_input (Line text) x) (carry_decision (next_job x.setting (seen x)) c z (with_input (Line text) x))
  by z there f (inl k) none = absurd (begun_no z none k)
  by z there f (inr may) none =
      decision (Steady (with_input (Line text) x)) (Steady (with_input (Line text) x)) (PlainReply (with_input (Line text) x)) (PlainCall (with_input (Line text) x)) AnyStart NoMove (steady_allow (with_input (Line text) x)) (with_input (Line text) x) (next_job x.setting (seen x)) c z
      (more_decision (Holds (with_input (Line text) x)) (Steady (with_input (Line text) x)) (NameReply (with_input (Line text) x)) (PlainReply (with_input (Line text) x)) (NameCall (with_input (Line text) x)) (PlainCall (with_input (Line text) x))
      (with_input (Line text) x) (next_job x.setting (seen x)) c z (λ r late_one. (late_one, other_than_next x text bare)) (carried_calls x text c z f) (own_stops z there f) (begun_no z none) may)
      (λ n a joins. absurd (none n a joins)) (steady_itself (with_input (Line text) x))

pub all_acts : (H J : Step → Type 0) → SpecialActs H J → Acts H J
unfolding after_value_read
all_acts H J p =
    record {
      kills = λ x s has due h. p.steady x (signal_holders Kill s x) (signalled (Steady x) (Steady x) (PlainReply x) (PlainCall x) AnyStart NoMove (steady_allow x) tt x Kill s (steady_itself x)) (p.here x h);
      times_out = λ x j m wake bare runs waits late_one h. p.times_out x j m wake bare runs h;
      hears = λ x number answer wake bare expected h. p.inputs x (Told number answer) wake bare expected h;
      counts = λ x text wake bare h. p.inputs x (Number text) wake bare refl h;
      exits = λ x n wake bare one h. p.steady (with_input (Exit n) x) (refuse_jobs_of n (leave_holdings n (with_input (Exit n) x))) (steady_exit x n wake bare (p.whole x h)) (p.inputs x (Exit n) wake bare refl h);
      exits_as_none = λ x n wake bare none h. p.inputs x (Exit n) wake bare refl h;
      starts = λ x n ok wake bare expected h. p.inputs x (Spawned n ok) wake bare expected h;
      fails_to_start = λ x n input h.
          p.steady x (when_running (job_of_start (seen x) n) SpawnFault (end_holdings n x))
          (said (Steady x) (Steady x) (PlainReply x) (PlainCall x) AnyStart NoMove (steady_allow x) (end_holdings n x) (job_of_start (seen x) n) SpawnFault
          (λ j is. (late x SpawnFault refl, other_starter x n j (p.whole x h).facts.jobs is))
          (ended (Steady x) (Steady x) (PlainReply x) (PlainCall x) AnyStart NoMove (steady_allow x) x n (steady_itself x))) (p.here x h);
      signals_instead = λ x n o input stood h. p.steady x (add_signal o Term x) ((steady_allow x).signals x o Term (steady_itself x)) (p.here x h);
      says_started = λ x n j input is runs h.
          p.steady x (add_reply j (started_reply (seen x) n) x) (steady_reply x j (started_reply (seen x) n) (late x (started_reply (seen x) n) refl) (other_starter x n j (p.whole x h).facts.jobs is)) (p.here x h);
      misreads = λ x text column wake bare says h.
          p.steady (with_input (Line text) x) (add_reply (next_job x.setting (seen x)) (Misread column) (with_input (Line text) x))
          (steady_reply (with_input (Line text) x) (next_job x.setting (seen x)) (Misread column) (late_on_line x text (Misread column)) (other_than_next x text bare)) (p.inputs x (Line text) wake bare refl h);
      answers = λ x text c r wake bare says is h.
          p.steady (with_input (Line text) x) (add_reply (next_job x.setting (seen x)) r (with_input (Line text) x))
          (steady_reply (with_input (Line text) x) (next_job x.setting (seen x)) r (late_on_line x text r) (other_than_next x text bare)) (p.inputs x (Line text) wake bare refl h);
      carries = λ x text c d wake bare says is more h. carried x text c d wake bare says is h;
      joins_on = p.joins_on;
      ends_joining = p.ends_joining;
      renewed = p.renewed;
      freed = p.freed;
      shown = λ x s m bytes hears is joined begins h.
          let w : Whole x = p.whole x h in
          let has : Has x s = has_heard x s m (Read bytes) hears in
          p.steady x (signal_and_refuse s None x)
          (stopped (Steady x) (Steady x) (PlainReply x) (PlainCall x) AnyStart NoMove (steady_allow x) tt x s None
          (λ z k j there. (
            late_on_survey x s m (Read bytes) (Recovering (last_renewal z.setting (seen z) s)) w.facts.calls hears (ap (λ q. job_of q) is),
            other_of_session x s j w.facts.jobs (alone_joined x s w.facts.names has joined) joined (job_steady x z s j k there),
          )) (steady_itself x)) (p.here x h);
      sees = λ x s number bytes spot g has input held h.
          let found = find_inside (λ (z : Grant). not (is_shared z.mode)) (holdings_on (seen x) s spot) g held in
          let joined : is_joined (seen x) s ≡ true = holder_is_joined x s spot g (p.whole x h) has found.0 in
          p.steady x (see_request s g x) ((steady_allow x).calls x s g.path SeeRequest (request_offset x.setting.layout g.offset) (ReadSectors 1) (has, joined, refl) (steady_itself x)) (p.here x h);
      leads_on = λ x s work step m answer aim hears is on aims h.
          let w : Whole x = p.whole x h in
          let n : LeaseNext = next_of_lease x.setting (seen x) s (spot_of_call x.setting.layout m) aim m step answer in
          p.steady x (carry_lease s (spot_of_call x.setting.layout m) work n x)
          (steady_lease x s (spot_of_call x.setting.layout m) work n (has_heard x s m answer hears) (heard_is_joined x s m answer (Lease work step) w hears is refl)
          (λ r same. late x r (subst (λ k. IsLateLease k) same (lease_late (lease_place x.setting s) (known x.setting (seen x) s (spot_of_call x.setting.layout m)) aim m.call.number (lver_written m) step answer)))
          (λ j its. other_heard x s m answer j (Lease work step) w hears is its refl)) (p.here x h);
      fails = λ x s m j hears lone runs h.
          let both = lone_other_job m.call.purpose j lone in
          p.steady x (add_reply j (IoFault m.call.number) x) (steady_reply x j (IoFault m.call.number) (late x (IoFault m.call.number) refl) (other_heard x s m Failed j m.call.purpose (p.whole x h) hears refl both.0 both.1)) (p.here x h);
      has_asked = λ x s m j owner hears is runs h. p.steady x (add_reply j Done x) (steady_reply x j Done (late x Done refl) (other_heard x s m Written j (RequestWrite j owner) (p.whole x h) hears is refl refl)) (p.here x h);
      has_set = λ x s m j hears is runs h. p.steady x (add_reply j (set_reply m) x) (steady_reply x j (set_reply m) (late x (set_reply m) (set_late m)) (other_heard x s m Written j (ValueWrite j) (p.whole x h) hears is refl refl)) (p.here x h);
      asks = λ x s m j bytes c hears is runs reads_one h.
          let has : Has x s = has_heard x s m (Read bytes) hears in
          let joined : is_joined (seen x) s ≡ true = heard_is_joined x s m (Read bytes) (RequestRead j) (p.whole x h) hears is refl in
          p.steady x (after_request_read s j bytes c x)
          (requested (Steady x) (Steady x) (PlainReply x) (PlainCall x) AnyStart NoMove (steady_allow x) x s j bytes c
          (more_request (NameReply x) (PlainReply x) (NameCall x) (PlainCall x) x s j bytes c (λ r late_one. (late_one, other_heard x s m (Read bytes) j (RequestRead j) (p.whole x h) hears is refl refl)) (λ path q o op other k. (k.0, joined, other))
          (request_named x s j bytes c has (joined_then (seen x) s joined))) (steady_itself x)) (p.here x h);
      tells = λ x s m j bytes hears is runs h.
          p.steady x (add_reply j (value_reply x.setting.layout bytes) x)
          (steady_reply x j (value_reply x.setting.layout bytes) (late x (value_reply x.setting.layout bytes) (value_late x.setting.layout bytes)) (other_heard x s m (Read bytes) j (ValueRead j) (p.whole x h) hears is refl refl)) (p.here x h);
      warns = λ x s m bytes g signal hears is held own says h.
          p.steady x (send g.process signal x) (sent (Steady x) (Steady x) (PlainReply x) (PlainCall x) AnyStart NoMove (steady_allow x) tt x g.process signal (steady_itself x)) (p.here x h);
      joins_in_time = p.joins_in_time;
      renews = λ x s has wake joined h.
          p.steady x (carry_delta s (next_renewal (delta_of_session x.setting s) x.reading (delta_known x.setting (seen x) s) (bits_due x.setting (calls_of (seen x) s) x.reading)) x)
          (steady_renewal x s (bits_due x.setting (calls_of (seen x) s) x.reading) has joined) (p.here x h);
      settles = λ x s spot has wake active whole none h.
          let n : LeaseNext = next_of_settling x.setting (seen x) s spot in
          p.steady x (carry_lease s spot Settling n x)
          (steady_lease x s spot Settling n has (active_is_joined x.setting (seen x) s active) (λ r same. late_on_wake x r wake) (λ j its. absurd (none_some j its))) (p.here x h);
      parts = p.parts;
      frees = λ x s has joined well free quiet h.
          p.steady x (carry_delta s (next_free (delta_of_session x.setting s) x.reading (delta_known x.setting (seen x) s)) x) (steady_free x s has joined) (p.here x h);
    } where
      carried : (x : Step) (text : List ℕ) (c : Command) (d : Decision) → x.input ≡ Wake → x.effects.calls ≡ [] → x.setting.read text ≡ Ok c → decided x.setting (seen x) x.reading c ≡ d → H x
          → J (carry_decision (next_job x.setting (seen x)) c d (with_input (Line text) x))
      carried x text c d wake bare says is h = by d is where
        other : (z : Decision) → decided x.setting (seen x) x.reading c ≡ z → ((n : ℕ) (a : LockspaceArg) → z ≡ Joins n a → ⊥) → J (carry_decision (next_job x.setting (seen x)) c z (with_input (Line text) x))
        other z its none =
            p.steady (with_input (Line text) x) (carry_decision (next_job x.setting (seen x)) c z (with_input (Line text) x)) (steady_carried x text c z (p.whole x h) wake bare says its none) (p.inputs x (Line text) wake bare refl h)

        no : (z : Decision) → IsBegun z ⊎ ((n : ℕ) (a : LockspaceArg) → z ≡ Joins n a → ⊥)
        no z = begun z (λ n a k. subst (λ q. IsBegun q) (sym k) tt) where
          begun : (q : Decision) → ((n : ℕ) (a : LockspaceArg) → q ≡ Joins n a → IsBegun q) → IsBegun q ⊎ ((n : ℕ) (a : LockspaceArg) → q ≡ Joins n a → ⊥)
          begun (Joins n a) f = inl tt
          begun (Replies r) f = inr f
          begun (Leaves s) f = inr f
          begun (ReadsArea s r) f = inr f
          begun (Shares s lver) f = inr f
          begun (GivesUp s g) f = inr f
          begun (TakesOver s g) f = inr f
          begun (ConvertsTo s r mode) f = inr f
          begun (Requests s r) f = inr f
          begun (SetsValue s spot v) f = inr f
          begun (GetsValue s spot) f = inr f

        begins : (z : Decision) → IsBegun z → DecisionFits x.setting (seen x) c z → J (carry_decision (next_job x.setting (seen x)) c z (with_input (Line text) x))
        begins (Joins n a) k f = p.begins x text c n a wake bare says f h
        begins (Replies r) k f = absurd k
        begins (Leaves s) k f = absurd k
        begins (ReadsArea s r) k f = absurd k
        begins (Shares s lver) k f = absurd k
        begins (GivesUp s g) k f = absurd k
        begins (TakesOver s g) k f = absurd k
        begins (ConvertsTo s r mode) k f = absurd k
        begins (Requests s r) k f = absurd k
        begins (SetsValue s spot v) k f = absurd k
        begins (GetsValue s spot) k f = absurd k

        by : (z : Decision) → decided x.setting (seen x) x.reading c ≡ z → J (carry_decision (next_job x.setting (seen x)) c z (with_input (Line text) x))
        by z its = either (no z) where
          either : IsBegun z ⊎ ((n : ℕ) (a : LockspaceArg) → z ≡ Joins n a → ⊥) → J (carry_decision (next_job x.setting (seen x)) c z (with_input (Line text) x))
          either (inl k) = begins z k (subst (λ q. DecisionFits x.setting (seen x) c q) its (decisions_fit x.setting (seen x) x.reading c))
          either (inr none) = other z its none
