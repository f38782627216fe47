-- What is known of connections is kept by each act, and holds once a step has begun.
use Rattle.sl_due_facts.proofs.Acts.AddedAtEnd.{any_last}
use Rattle.sl_due_facts.proofs.Acts.InputsKeep.{has_heard}
use Rattle.sl_due_facts.proofs.Acts.LoopsKeep.{for_each_keeps, when_keeps}
use Rattle.sl_due_facts.specs.Acts.Acts.{Has, Hears, lone_job, next_of_settling}
use Rattle.sl_due_facts.specs.Acts.TraceSoFar.{entry_of}
use Rattle.sl_area.specs.AreaLayout.{request_offset}
use Rattle.sl_due.specs.DueAnswers.{set_reply}
use Rattle.sl_due.specs.CarriedDelta.{carry_delta, end_leaving, move_connection, survey, write_own_sector}
use Rattle.sl_due.specs.DueRecovery.{begin_recoveries, begin_recovery, begins_now, signal_and_refuse}
use Rattle.sl_due.specs.DueTimeOuts.{remove_connection}
use Rattle.sl_due.specs.DueInputs.{end_holdings, leave_holdings, refuse_jobs_of, started_reply}
use Rattle.sl_due.specs.CarriedLease.{carry_lease, next_of_lease}
use Rattle.sl_due.specs.DueRequests.{after_value_read, bits_due, value_reply}
use Rattle.sl_due.specs.Steps.{Step, add_move, add_reply, begin_step, seen, when, with_input}
use Rattle.sl_due_facts.proofs.Jobs.CallsStay.{IsLate, is_special, late}
use Rattle.sl_due_facts.proofs.Jobs.EffectsAreAllowed.{Allows, ended, lease, left, requested, said, sent, signalled, stopped}
use Rattle.sl_due_facts.proofs.Jobs.JobFactsBegin.{both_wake, sessions_then}
use Rattle.sl_due_facts.proofs.Jobs.JobFactsGrow.{Both, input_sees}
use Rattle.sl_due_facts.proofs.Jobs.JobsAreAllowed.{MayCall, MayMove, MayReply, MayStart, Meanwhile, allows, late_on_survey, late_on_wake, late_unless_told}
use Rattle.sl_due_facts.proofs.Jobs.NearlyPlainActs.{AnyStart}
use Rattle.sl_due_facts.proofs.Jobs.RepliesComeAfter.{IsLateLease, lease_late, on_bool, on_option, set_late, value_late}
use Rattle.sl_due_facts.proofs.Jobs.SessionsArePresent.{joined_present, present_is, session_has}
use Rattle.sl_due_facts.proofs.Jobs.SessionsStand.{joined_then, leaving_joined, recovery_joined}
use Rattle.sl_run.specs.LawfulConnections.{is_covered}
use Rattle.sl_trace.specs.Jobs.{is_job_of_process, job_of_start}
use Rattle.sl_trace.specs.LeaseDecisions.{lease_place}
use Rattle.sl_trace.specs.Leases.{holdings_on, known, lver_written, spot_of_call}
use Rattle.sl_trace.specs.declared.lease.LeaseNext.TheVariants.{AnswerJob}
use Rattle.sl_trace.specs.declared.lease.LeaseNext.{LeaseNext}
use Rattle.sl_due_facts.proofs.AddedEffects.JoinedCallsKeepOrder.{joined_is_covered}
use Rattle.sl_words.proofs.Lists.{find_fails, find_inside, got_inside, kept_inside}
use Rattle.sl_words.proofs.Options.{not_some, some_of, some_there}
use Rattle.sl_sector.specs.Bitmaps.{no_bits}
use Rattle.sl_sector.specs.declared.sector.DeltaRec.{DeltaRec}
use Rattle.sl_sector.specs.declared.sector.DeltaState.TheVariants.{Free, Live}
use Rattle.sl_sector.specs.declared.sector.Rec.TheVariants.{DeltaIs}
use Rattle.sl_due_facts.proofs.Connections.AllowedMore.{more_lease, more_request}
use Rattle.sl_due_facts.proofs.Connections.ConnectionEffects.{IsOtherJob, alters_call, alters_move, alters_nothing, move_named, move_same, renews_own, reply_connections}
use Rattle.sl_due_facts.proofs.Connections.ConnectionInputs.{hears_connections, input_connections, last_woken}
use Rattle.sl_due_facts.proofs.Connections.ConnectionLines.{active_is_joined, carried_connections, job_during, line_connections}
use Rattle.sl_due_facts.proofs.Connections.ConnectionWalk.{During, NoMove, PlainCall, PlainReply, alone_of, connections_allow, during_itself, joined_call}
use Rattle.sl_due_facts.proofs.Connections.ConnectionsChange.{IsAlone, altered, same_connections}
use Rattle.sl_due_facts.proofs.Connections.ConnectionsNamed.{renew_own, renew_some}
use Rattle.sl_due_facts.proofs.Connections.HeardCalls.{renewed_heard}
use Rattle.sl_due_facts.proofs.Connections.JoiningConnections.{ended_connections, refusal_connections, removal_here}
use Rattle.sl_due_facts.proofs.Connections.JoiningDecisions.{heard_decides, heard_working, woken_decides}
use Rattle.sl_due_facts.proofs.Connections.JoiningSteps.{joining_connections}
use Rattle.sl_due_facts.proofs.Connections.OtherJobs.{other_heard, other_of_process, other_of_session, other_starter}
use Rattle.sl_due_facts.proofs.Connections.SessionParts.{covered_of, present_joined, unjoined_not}
use Rattle.sl_due_facts.specs.Connections.ConnectionLaws.{ConnectionFactsAreKept, ConnectionFactsBegin, HasConnectionFacts}
use Rattle.sl_due_facts.proofs.Sessions.NameFactsAreKept.{joined_on_wake, names_wake, refused_on_wake, removed_on_wake}
use Rattle.sl_due_facts.proofs.Sessions.NamesAreAllowed.{NameCall, NameReply, heard_joined, heard_mine, is_joining, joined_unrefused, lease_named, request_named}
use Rattle.sl_due_facts.proofs.Sessions.NamesGrow.{input_names}
use Rattle.sl_due_facts.specs.Sessions.SessionLaws.{HasNameFacts}
use Rattle.sl_trace.specs.DeltaDecisions.{DeltaLease, delta_known, delta_of_session, delta_record, is_renewal_due, next_after_free, next_after_renewal, next_free, next_in_joining, next_on_wake, next_renewal, own_offset}
use Rattle.sl_trace.specs.Sessions.{calls_of, free_write, generation_of, holdings_of, is_free_purpose, is_join_call, is_joined, is_renewal, joined_after, last_renewal, leaving_job, present_sessions, recovery_of, refused_after, removed_after, session_numbered, sessions}
use Rattle.sl_trace.specs.declared.delta.DeltaKnown.{DeltaKnown}
use Rattle.sl_trace.specs.declared.delta.DeltaNext.TheVariants.{MoveConnection, Nothing, WriteFree, WriteRenewal}
use Rattle.sl_trace.specs.declared.delta.DeltaNext.{DeltaNext}
use Rattle.sl_trace.specs.declared.session.Begun.{Begun}
use Rattle.sl_trace.specs.declared.session.Session.{Session}
use Rattle.sl_due_facts.specs.Facts.HeardCall.{IsOpen, heard_by}
use Rattle.sl_due_facts.specs.Facts.SessionFacts.{ConnectionFacts}
use Rattle.sl_due_facts.specs.Facts.AllFacts.{Whole}
use Rattle.sl_time.specs.Times.{fail}
use Rattle.sl_trace.specs.WatchdogConnections.{connections, is_registered, unregisters}
use Rattle.sl_trace.specs.Traces.{Setting, Submitted, Trace, holdings, is_running, is_shared, job_of, running_jobs, same_place, work_job}
use Rattle.sl_trace.specs.declared.effects.Grant.{Grant}
use Rattle.sl_trace.specs.declared.effects.JoinStep.TheVariants.{FirstRead}
use Rattle.sl_trace.specs.declared.effects.Move.TheVariants.{Renew, Unregister}
use Rattle.sl_trace.specs.declared.effects.Op.TheVariants.{ReadSectors, WriteRecord}
use Rattle.sl_trace.specs.declared.effects.Purpose.TheVariants.{Joining, Lease, Leaving, Renewal, RequestRead, RequestWrite, SeeRequest, Survey, ValueRead, ValueWrite}
use Rattle.sl_trace.specs.declared.effects.Purpose.{Purpose}
use Rattle.sl_trace.specs.declared.effects.Signal.TheVariants.{Kill, Term}
use Rattle.sl_trace.specs.declared.effects.Spot.{Spot}
use Rattle.sl_trace.specs.declared.effects.Work.TheVariants.{Settling}
use Rattle.sl_trace.specs.declared.effects.Work.{Work}
use Rattle.sl_trace.specs.declared.input.Answer.TheVariants.{Failed, Read, Written}
use Rattle.sl_trace.specs.declared.input.Answer.{Answer}
use Rattle.sl_trace.specs.declared.input.Input.TheVariants.{Exit, Number, Spawned, Wake}
use Rattle.sl_trace.specs.declared.reply.Reply.TheVariants.{BadCommand as Misread, Done, IoFault, IoTimeout, NoProcess, Recovering, SpawnFault}
use Rattle.sl_trace.specs.declared.reply.Reply.{Reply}
use Rattle.sl_run_law.proofs.Sessions.SessionNames.{same_name}
use Rattle.sl_run_law.proofs.Sessions.MarksStay.{joined_more}
use Rattle.sl_words.proofs.CaseLaws.{false_is_true, none_some, not_both, one_value}
use Rattle.sl_words.specs.Words.{choose}
use Rattle.std.proofs.Common.{ap, ap₂, inl, inr, refl, subst, sym, ◌∙◌}
use Rattle.std.proofs.lemmas.Bool.{eqb-true}
use Rattle.std.specs.List.{list_any}
use Rattle.std.specs.Prelude.{Bool, Contains, List, None, Option, Some, [], false, filter, is_none, is_some, length, not, true, ℕ, ◌&&◌, ◌++◌, ◌+◌, ◌==◌, ◌∷◌, ◌≡◌}
use Rattle.sl_words.proofs.Numbers.{equal_is_most}
use Rattle.sl_due_facts.proofs.Jobs.AnsweredCallsFit.{at, both_of}

-- ---- what a delta lease decides of a joined session

pub alone_joined : (x : Step) (s : Session) → HasNameFacts x → Has x s → is_joined (seen x) s ≡ true → IsAlone x.setting (seen x) s
alone_joined x s h has joined = alone_of x s h (got_inside (sessions x.setting (seen x)) s.number s has) (joined_present (seen x) s joined)

-- Of a heard session that is joined.
pub heard_is_joined : (x : Step) (s : Session) (m : Submitted) (answer : Answer) (p : Purpose) → Whole x → Hears x s m answer → m.call.purpose ≡ p → is_joining p ≡ false → is_joined (seen x) s ≡ true
heard_is_joined x s m answer p h hears is other = present_joined (seen (with_input Wake x)) s (heard_joined x s m answer p h hears is other) hears.present

-- The connection moves on with a renewal that counts.
moved_connections : (x : Step) (s : Session) (renewed : ℕ) → Has x s → is_joined (seen x) s ≡ true → IsAlone x.setting (seen x) s → last_renewal x.setting (seen x) s ≡ renewed → HasConnectionFacts x
    → HasConnectionFacts (survey s (move_connection s renewed x))
moved_connections x s renewed has joined alone last h =
    altered x.setting (seen x) (seen u) (heard_by x.input) s mine
    (alters_call (seen x) (heard_by x.input) s y s.path Survey s.offset (ReadSectors x.setting.layout.hosts) has refl (joined_unrefused (seen x) s (joined_then (seen x) s joined))
    (alters_move (seen x) (heard_by x.input) s x (Renew s.lockspace (renewed + fail x.setting.timing)) (renews_own s.lockspace (renewed + fail x.setting.timing)) (alters_nothing x.setting (seen x) (heard_by x.input) s)))
    alone
    (record {
      covers = λ is. ap (λ o. is_some o) (move_named x (Renew s.lockspace (renewed + fail x.setting.timing)) s.lockspace)
          ∙ (renew_some (connections x.setting (seen x)) s.lockspace (renewed + fail x.setting.timing) s.lockspace ∙ h.covers s mine (joined_is_covered (seen x) s joined));
      needed = λ is. inl (joined_is_covered (seen u) s joined_now);
      joined = λ c is its.
          equal_is_most c.expiry (last_renewal x.setting (seen x) s + fail x.setting.timing)
          (renew_own (connections x.setting (seen x)) s.lockspace (renewed + fail x.setting.timing) c (sym (move_named x (Renew s.lockspace (renewed + fail x.setting.timing)) s.lockspace) ∙ its)
          ∙ ap (λ n. n + fail x.setting.timing) (sym last));
      joining = λ c is none its. absurd (unjoined_not (seen u) s none joined_now);
    }) h
  where
    mine : Contains (sessions x.setting (seen x)) s
    mine = got_inside (sessions x.setting (seen x)) s.number s has

    y : Step
    y = move_connection s renewed x

    u : Step
    u = survey s (move_connection s renewed x)

    joined_now : is_joined (seen (survey s (move_connection s renewed x))) s ≡ true
    joined_now = ap₂ (λ a b. is_some a && is_none b) refl (move_same x (Renew s.lockspace (renewed + fail x.setting.timing)) s refl).removed ∙ joined

renewed_connections : (x : Step) (s : Session) (m : Submitted) (answer : Answer) → Hears x s m answer → m.call.purpose ≡ Renewal → Whole x
    → HasConnectionFacts (carry_delta s (next_after_renewal (is_some (recovery_of x.setting (seen x) s)) m.reading answer) x)
unfolding carry_delta
renewed_connections x s m Failed hears is h = h.facts.connections
renewed_connections x s m (Read bytes) hears is h = h.facts.connections
renewed_connections x s m Written hears is h = by (is_some (recovery_of x.setting (seen x) s)) refl where
  has : Has x s
  has = has_heard x s m Written hears

  joined : is_joined (seen x) s ≡ true
  joined = heard_is_joined x s m Written Renewal h hears is refl

  by : (b : Bool) → is_some (recovery_of x.setting (seen x) s) ≡ b → HasConnectionFacts (carry_delta s (elim b as (λ z. DeltaNext) [ true ↦ Nothing | false ↦ MoveConnection m.reading ]) x)
  by true recovers_one = h.facts.connections
  by false well =
      moved_connections x s m.reading has joined (alone_joined x s h.facts.names has joined)
      (renewed_heard x s m hears (ap (λ p. is_renewal p) is) (not_some (recovery_of x.setting (seen x) s) well)) h.facts.connections

write_connections : (x : Step) (s : Session) (p : Purpose) (d : DeltaRec) → Has x s → is_joined (seen x) s ≡ true → is_join_call FirstRead p ≡ false → Whole x → HasConnectionFacts (write_own_sector s p d x)
write_connections x s p d has joined no_look h =
    joined_call (heard_by x.input) x s s.path p (own_offset x.setting s) (WriteRecord (DeltaIs d)) has joined no_look (alone_joined x s h.facts.names has joined) h.facts.connections

renewal_connections : (x : Step) (s : Session) (bits : List ℕ) → Has x s → is_joined (seen x) s ≡ true → Whole x
    → HasConnectionFacts (carry_delta s (next_renewal (delta_of_session x.setting s) x.reading (delta_known x.setting (seen x) s) bits) x)
unfolding next_renewal carry_delta
renewal_connections x s bits has joined h =
    let l : DeltaLease = delta_of_session x.setting s in
    let k : DeltaKnown = delta_known x.setting (seen x) s in
    let d : DeltaRec = delta_record l Live k.generation (k.seq + 1) x.reading bits in
    on_bool (λ n. HasConnectionFacts (carry_delta s n x)) (is_renewal_due l x.reading k) Nothing (WriteRenewal d) h.facts.connections (write_connections x s Renewal d has joined refl h)

free_connections : (x : Step) (s : Session) → Has x s → is_joined (seen x) s ≡ true → Whole x
    → HasConnectionFacts (carry_delta s (next_free (delta_of_session x.setting s) x.reading (delta_known x.setting (seen x) s)) x)
unfolding carry_delta
free_connections x s has joined h =
    let l : DeltaLease = delta_of_session x.setting s in
    let k : DeltaKnown = delta_known x.setting (seen x) s in
    let d : DeltaRec = delta_record l Free k.generation (k.seq + 1) x.reading no_bits in
    on_option (λ n. HasConnectionFacts (carry_delta s n x)) k.leaving Nothing (λ j. elim k.freed [ true ↦ Nothing | false ↦ WriteFree j d ]) h.facts.connections
    (λ j. on_bool (λ n. HasConnectionFacts (carry_delta s n x)) k.freed (WriteFree j d) Nothing (write_connections x s (Leaving j) d has joined refl h) h.facts.connections)

-- ---- a session ends

-- A session that was joined before the entry, and whose connection is removed, is covered no more.
pub removed_uncovered : (x : Step) (s : Session) → is_some (joined_after x.past s) ≡ true → is_covered (seen (add_move (Unregister s.lockspace) x)) s ≡ false
removed_uncovered x s was =
    by (joined_after (seen x) s) (removed_after (seen (add_move (Unregister s.lockspace) x)) s) (refused_after (seen x) s) (calls_of (seen x) s) now (joined_unrefused (seen x) s now) (gone (removed_after x.past s)) where
      now : is_some (joined_after (seen x) s) ≡ true
      now = let k = some_there (joined_after x.past s) was in ap (λ o. is_some o) (joined_more (entry_of x) x.past s k.0 k.1)

      gone : (o : Option ℕ)
          → is_some (elim o as (λ z. Option ℕ) [ Some k ↦ Some k | None ↦ choose (is_some (joined_after x.past s) && list_any (unregisters s.lockspace) (x.effects.moves ++ Unregister s.lockspace ∷ [])) (length x.past + 1) ]) ≡ true
      gone (Some k) = refl
      gone None =
          ap₂ (λ a b. is_some (choose (a && b) (length x.past + 1))) was (any_last (unregisters s.lockspace) x.effects.moves (Unregister s.lockspace) (same_name s.lockspace))

      by : (joined removed refused : Option ℕ) (ms : List Submitted) → is_some joined ≡ true → refused ≡ None → is_some removed ≡ true → covered_of joined removed refused ms ≡ false
      by (Some k) (Some i) None ms some_one none removed = refl
      by (Some k) None refused ms some_one none removed = absurd (false_is_true removed)
      by (Some k) (Some i) (Some j) ms some_one none removed = absurd (none_some j (sym none))
      by None removed refused ms some_one none gone_one = absurd (false_is_true some_one)

end_connections : (x : Step) (s : Session) → Has x s → is_joined (seen x) s ≡ true → is_some (joined_after x.past s) ≡ true → Whole x → HasConnectionFacts (remove_connection s.lockspace x)
end_connections x s has joined was h =
    removal_here x s (got_inside (sessions x.setting (seen x)) s.number s has) (alone_joined x s h.facts.names has joined) (removed_uncovered x s was) h.facts.connections

ends_leaving : (x : Step) (s : Session) (j : ℕ) (r : Reply) → Has x s → is_joined (seen x) s ≡ true → is_some (joined_after x.past s) ≡ true → IsLate x r → IsOtherJob x j → Whole x → HasConnectionFacts (end_leaving s j r x)
ends_leaving x s j r has joined was after other h = by (is_running (seen x) j) (is_registered x.setting (seen x) s.lockspace) (end_connections x s has joined was h) where
  by : (b c : Bool) → HasConnectionFacts (when c (add_move (Unregister s.lockspace)) x) → HasConnectionFacts (when b (add_reply j r) (when c (add_move (Unregister s.lockspace)) x))
  by false c k = k
  by true true k = reply_connections (heard_by x.input) (add_move (Unregister s.lockspace) x) j r after other k
  by true false k = reply_connections (heard_by x.input) x j r after other k

freed_connections : (x : Step) (s : Session) (j : ℕ) (m : Submitted) (answer : Answer) → Hears x s m answer → m.call.purpose ≡ Leaving j → Whole x → HasConnectionFacts (carry_delta s (next_after_free j m.call.number answer) x)
unfolding carry_delta
freed_connections x s j m answer hears is h = by answer where
  has : Has x s
  has = has_heard x s m answer hears

  mine : Contains (sessions x.setting (seen x)) s
  mine = got_inside (sessions x.setting (seen x)) s.number s has

  joined : is_joined (seen x) s ≡ true
  joined = heard_is_joined x s m answer (Leaving j) h hears is refl

  other : IsOtherJob x j
  other = other_heard x s m answer j (Leaving j) h hears is refl refl

  freed : (o : Option Submitted) → free_write (calls_of (seen x) s) ≡ o → is_some (joined_after x.past s) ≡ true
  freed (Some f) found =
      let k = some_of (leaving_job x.setting (seen x) s) (h.facts.delta.frees s f mine found).0 in leaving_joined x.setting (entry_of x) x.past s k.0 k.1
  freed None none =
      absurd (not_both (is_free_purpose m.call.purpose) (ap (λ p. is_free_purpose p) is) (find_fails (λ (k : Submitted). is_free_purpose k.call.purpose) (calls_of (seen x) s) m none (heard_mine x s m answer hears)))

  was : is_some (joined_after x.past s) ≡ true
  was = freed (free_write (calls_of (seen x) s)) refl

  by : (a : Answer) → HasConnectionFacts (carry_delta s (next_after_free j m.call.number a) x)
  by Written = ends_leaving x s j Done has joined was (late x Done refl) other h
  by Failed = ends_leaving x s j (IoFault m.call.number) has joined was (late x (IoFault m.call.number) refl) other h
  by (Read bytes) = h.facts.connections

-- ---- the walk of other acts

during : (x : Step) → Whole x → During x x
during x h = during_itself x h.facts.connections

lease_connections : (x : Step) (s : Session) (spot : Spot) (work : Work) (n : LeaseNext) → Has x s → is_joined (seen x) s ≡ true → ((r : Reply) → n ≡ AnswerJob r → IsLate x r) → ((j : ℕ) → work_job work ≡ Some j → IsOtherJob x j) → Whole x
    → HasConnectionFacts (carry_lease s spot work n x)
lease_connections x s spot work n has joined after other h =
    lease (During x) HasConnectionFacts (PlainReply x) (PlainCall x) AnyStart NoMove (connections_allow x h.facts.names) x s spot work n
    (more_lease (NameReply x) (PlainReply x) (NameCall x) (PlainCall x) x s spot work n (λ j r its late_one. (late_one, other j its)) (λ path p o op other k. (k.0, joined, other))
    (lease_named x x s spot work n has (joined_then (seen x) s joined) after)) (during x h)

stop_connections : (x : Step) (s : Session) → Has x s → is_joined (seen x) s ≡ true → ((r : Reply) → IsLate x r) → Whole x → HasConnectionFacts (signal_and_refuse s None x)
stop_connections x s has joined after h =
    (stopped (During x) HasConnectionFacts (PlainReply x) (PlainCall x) AnyStart NoMove (connections_allow x h.facts.names) tt x s None
    (λ z k j there. (after (Recovering (last_renewal z.setting (seen z) s)), other_of_session x s j h.facts.jobs (alone_joined x s h.facts.names has joined) joined (job_during x z s j k there))) (during x h)).part

exit_connections : (x : Step) (n : ℕ) → x.input ≡ Wake → x.effects.calls ≡ [] → Whole x → HasConnectionFacts (refuse_jobs_of n (leave_holdings n (with_input (Exit n) x)))
exit_connections x n wake bare h =
    (for_each_keeps (During w) (filter (is_job_of_process (seen y) n) (running_jobs y.setting (seen y))) (λ j. add_reply j.number (NoProcess n)) y
    (λ j there z k.
    let its = kept_inside (is_job_of_process (seen y) n) (running_jobs y.setting (seen y)) j there in
    allow.replies z j.number (NoProcess n) (late_unless_told w (NoProcess n) refl, λ q inside. other_of_process y n j both.0.1 its.0 its.1 q (subst (λ ss. Contains ss q) (sym stays.all) inside)) k) stays).part
  where
    w : Step
    w = with_input (Exit n) x

    y : Step
    y = leave_holdings n (with_input (Exit n) x)

    allow : Allows (During w) HasConnectionFacts (PlainReply w) (PlainCall w) AnyStart NoMove
    allow = connections_allow w (input_names x (Exit n) wake bare h.facts.names)

    stays : During w y
    stays = left (During w) HasConnectionFacts (PlainReply w) (PlainCall w) AnyStart NoMove allow w n (during_itself w (input_connections x (Exit n) wake bare refl h.facts.connections))

    both : Meanwhile w y
    both = left (Meanwhile w) Both (MayReply w) (MayCall w) (MayStart w) MayMove (allows w) w n (at w (input_sees x (Exit n) wake bare refl (both_of x h)))

replied_connections : (x : Step) (j : ℕ) (r : Reply) → is_special r ≡ false → IsOtherJob x j → Whole x → HasConnectionFacts (add_reply j r x)
replied_connections x j r after other h = reply_connections (heard_by x.input) x j r (late x r after) other h.facts.connections

-- Who holds is joined.
pub holder_is_joined : (x : Step) (s : Session) (spot : Spot) (g : Grant) → Whole x → Has x s → Contains (holdings_on (seen x) s spot) g → is_joined (seen x) s ≡ true
holder_is_joined x s spot g h has there =
    let under = kept_inside (λ (z : Grant). same_place z.path z.offset spot.path spot.base) (holdings_of (seen x) s) g there in
    let held = kept_inside (λ (z : Grant). z.session == s.number) (holdings (seen x)) g under.0 in
    let its = h.facts.holdings.owned g held.0 in
    let one : its.0 ≡ s = one_value its.0 s (session_numbered x.setting (seen x) s.number) (subst (λ n. session_numbered x.setting (seen x) n ≡ Some its.0) (eqb-true g.session s.number held.1) its.1) has in
    subst (λ (z : Session). is_joined (seen x) z ≡ true) one its.2

pub lone_other_job : (p : Purpose) (j : ℕ) → lone_job p ≡ Some j → (job_of p ≡ Some j) × (is_joining p ≡ false)
lone_other_job (RequestRead i) j is = (is, refl)
lone_other_job (RequestWrite i owner) j is = (is, refl)
lone_other_job (ValueWrite i) j is = (is, refl)
lone_other_job (ValueRead i) j is = (is, refl)
lone_other_job (Joining i step) j is = absurd (none_some j is)
lone_other_job Renewal j is = absurd (none_some j is)
lone_other_job Survey j is = absurd (none_some j is)
lone_other_job (Leaving i) j is = absurd (none_some j is)
lone_other_job (Lease work step) j is = absurd (none_some j is)
lone_other_job SeeRequest j is = absurd (none_some j is)

pub connection_facts_are_kept : ConnectionFactsAreKept
unfolding after_value_read
connection_facts_are_kept =
    record {
      kills = λ x s has due h. (signalled (During x) HasConnectionFacts (PlainReply x) (PlainCall x) AnyStart NoMove (connections_allow x h.facts.names) tt x Kill s (during x h)).part;
      times_out = λ x j m wake bare runs waits late_one h.
          refusal_connections x j (IoTimeout m.call.number m.reading x.reading) runs (late_on_wake x (IoTimeout m.call.number m.reading x.reading) wake) refl h.facts.names h.orderly h.facts.connections;
      hears = λ x number answer wake bare expected h. hears_connections x number answer h wake bare expected;
      counts = λ x text wake bare h. input_connections x (Number text) wake bare refl h.facts.connections;
      exits = λ x n wake bare one h. exit_connections x n wake bare h;
      exits_as_none = λ x n wake bare none h. input_connections x (Exit n) wake bare refl h.facts.connections;
      starts = λ x n ok wake bare expected h. input_connections x (Spawned n ok) wake bare refl h.facts.connections;
      fails_to_start = λ x n input h.
          (said (During x) HasConnectionFacts (PlainReply x) (PlainCall x) AnyStart NoMove (connections_allow x h.facts.names) (end_holdings n x) (job_of_start (seen x) n) SpawnFault
          (λ j is. (late x SpawnFault refl, other_starter x n j h.facts.jobs is))
          (ended (During x) HasConnectionFacts (PlainReply x) (PlainCall x) AnyStart NoMove (connections_allow x h.facts.names) x n (during x h))).part;
      signals_instead = λ x n o input stood h. ((connections_allow x h.facts.names).signals x o Term (during x h)).part;
      says_started = λ x n j input is runs h. replied_connections x j (started_reply (seen x) n) refl (other_starter x n j h.facts.jobs is) h;
      misreads = λ x text column wake bare says h. line_connections x text (Misread column) wake bare h.facts.connections;
      answers = λ x text c r wake bare says is h. line_connections x text r wake bare h.facts.connections;
      carries = λ x text c d wake bare says is more h. carried_connections x text c d h wake bare says is;
      joins_on = λ x s j step m answer hears is runs h.
          joining_connections x s j (next_in_joining (delta_of_session x.setting s) (generation_of (seen x) s) (calls_of (seen x) s) x.reading m step answer)
          (heard_working x s j step m answer h hears is runs) (heard_decides x s j step m answer h hears is runs) h.facts.connections;
      ends_joining = λ x s j step m answer hears is stops h. ended_connections x s m answer hears h.facts.connections;
      renewed = λ x s m answer hears is h. renewed_connections x s m answer hears is h;
      freed = λ x s j m answer hears is h. freed_connections x s j m answer hears is h;
      shown = λ x s m bytes hears is joined begins h.
          stop_connections x s (has_heard x s m (Read bytes) hears) joined (λ r. late_on_survey x s m (Read bytes) r h.facts.calls hears (ap (λ p. job_of p) is)) h;
      sees = λ x s number bytes spot g has input held h.
          let found = find_inside (λ (z : Grant). not (is_shared z.mode)) (holdings_on (seen x) s spot) g held in
          let joined : is_joined (seen x) s ≡ true = holder_is_joined x s spot g h has found.0 in
          joined_call (heard_by x.input) x s g.path SeeRequest (request_offset x.setting.layout g.offset) (ReadSectors 1) has joined refl (alone_joined x s h.facts.names has joined) h.facts.connections;
      leads_on = λ x s work step m answer aim hears is on aims h.
          let n : LeaseNext = next_of_lease x.setting (seen x) s (spot_of_call x.setting.layout m) aim m step answer in
          lease_connections x s (spot_of_call x.setting.layout m) work n (has_heard x s m answer hears) (heard_is_joined x s m answer (Lease work step) h hears is refl)
          (λ r same. late x r (subst (λ k. IsLateLease k) same (lease_late (lease_place x.setting s) (known x.setting (seen x) s (spot_of_call x.setting.layout m)) aim m.call.number (lver_written m) step answer)))
          (λ j its. other_heard x s m answer j (Lease work step) h hears is its refl) h;
      fails = λ x s m j hears lone runs h.
          let both = lone_other_job m.call.purpose j lone in replied_connections x j (IoFault m.call.number) refl (other_heard x s m Failed j m.call.purpose h hears refl both.0 both.1) h;
      has_asked = λ x s m j owner hears is runs h. replied_connections x j Done refl (other_heard x s m Written j (RequestWrite j owner) h hears is refl refl) h;
      has_set = λ x s m j hears is runs h. replied_connections x j (set_reply m) (set_late m) (other_heard x s m Written j (ValueWrite j) h hears is refl refl) h;
      asks = λ x s m j bytes c hears is runs reads_one h.
          let has : Has x s = has_heard x s m (Read bytes) hears in
          let joined : is_joined (seen x) s ≡ true = heard_is_joined x s m (Read bytes) (RequestRead j) h hears is refl in
          requested (During x) HasConnectionFacts (PlainReply x) (PlainCall x) AnyStart NoMove (connections_allow x h.facts.names) x s j bytes c
          (more_request (NameReply x) (PlainReply x) (NameCall x) (PlainCall x) x s j bytes c (λ r late_one. (late_one, other_heard x s m (Read bytes) j (RequestRead j) h hears is refl refl)) (λ path p o op other k. (k.0, joined, other))
          (request_named x s j bytes c has (joined_then (seen x) s joined))) (during x h);
      tells = λ x s m j bytes hears is runs h. replied_connections x j (value_reply x.setting.layout bytes) (value_late x.setting.layout bytes) (other_heard x s m (Read bytes) j (ValueRead j) h hears is refl refl) h;
      warns = λ x s m bytes g signal hears is held own says h. (sent (During x) HasConnectionFacts (PlainReply x) (PlainCall x) AnyStart NoMove (connections_allow x h.facts.names) tt x g.process signal (during x h)).part;
      joins_in_time = λ x s j has wake is runs h.
          joining_connections x s j (next_on_wake (delta_of_session x.setting s) x.reading (calls_of (seen x) s))
          (record { has = has; its = is; runs = runs; names = h.facts.names; orderly = h.orderly }) (woken_decides x s j h has wake is runs) h.facts.connections;
      renews = λ x s has wake joined h. renewal_connections x s (bits_due x.setting (calls_of (seen x) s) x.reading) has joined h;
      settles = λ x s spot has wake active whole none h.
          let n : LeaseNext = next_of_settling x.setting (seen x) s spot in
          lease_connections x s spot Settling n has (active_is_joined x.setting (seen x) s active) (λ r same. late_on_wake x r wake) (λ j its. absurd (none_some j its)) h;
      parts = λ x s has joined recovers_one free quiet h.
          let b = some_there (recovery_of x.setting (seen x) s) recovers_one in end_connections x s has joined (recovery_joined x.setting (entry_of x) x.past s b.0 b.1) h;
      frees = λ x s has joined well free quiet h. free_connections x s has joined h;
    }

-- ---- once a step has begun

begins_connected : (st : Setting) (past : Trace) (now : ℕ) → ConnectionFacts st past None → HasConnectionFacts (begin_step st past now)
begins_connected st past now h =
    same_connections st past (seen (begin_step st past now)) None
    (record {
      all = sessions_then st past now;
      each = λ z there. record { joined = joined_on_wake past now z; removed = removed_on_wake past now z; refused = refused_on_wake past now z; calls = refl };
      named = λ n. refl;
      renewed = λ z. last_woken (begin_step st past now) z refl;
      registered = λ n. refl;
      opens = opens;
    }) h
  where
    opens : (m : Submitted) → IsOpen (seen (begin_step st past now)) None m → IsOpen past None m
    opens m (inl none) = inl none
    opens m (inr both) = absurd (none_some m.call.number both.0)

pub connection_facts_begin : ConnectionFactsBegin
unfolding begin_recoveries begin_recovery
connection_facts_begin st past e follows w =
    (for_each_keeps (During x) (present_sessions st (seen x)) begin_recovery x
    (λ s there y k. when_keeps (During x) (begins_now (seen y) (recovery_of y.setting (seen y) s)) (signal_and_refuse s None) y
    (λ begins f.
    stopped (During x) HasConnectionFacts (PlainReply x) (PlainCall x) AnyStart NoMove (connections_allow x names) tt y s None
    (λ z g j inside. (late_on_wake x (Recovering (last_renewal z.setting (seen z) s)) refl, other_of_session x s j facts.1 (alone_joined x s names (has s there) (joined s there y f begins)) (joined s there y f begins) (job_during x z s j g inside))) f) k)
    (during_itself x (begins_connected st past e.reading w.facts.connections))).part
  where
    x : Step
    x = begin_step st past e.reading

    names : HasNameFacts (begin_step st past e.reading)
    names = names_wake st past e.reading w.facts.names

    facts : Both (begin_step st past e.reading)
    facts = both_wake st past e.reading w.facts.calls w.facts.jobs

    has : (s : Session) → Contains (present_sessions st (seen (begin_step st past e.reading))) s → Has (begin_step st past e.reading) s
    has s there = session_has st (seen (begin_step st past e.reading)) s (present_is st (seen (begin_step st past e.reading)) s there).0

    joined : (s : Session) → Contains (present_sessions st (seen (begin_step st past e.reading))) s → (y : Step) → During (begin_step st past e.reading) y → begins_now (seen y) (recovery_of y.setting (seen y) s) ≡ true
        → is_joined (seen (begin_step st past e.reading)) s ≡ true
    joined s there y k begins = by (recovery_of y.setting (seen y) s) refl begins where
      by : (o : Option Begun) → recovery_of y.setting (seen y) s ≡ o → begins_now (seen y) o ≡ true → is_joined (seen (begin_step st past e.reading)) s ≡ true
      by None none now = absurd (false_is_true now)
      by (Some b) is now =
          let was : is_some (joined_after past s) ≡ true = subst (λ es. is_some (joined_after es s) ≡ true) k.before (recovery_joined y.setting (entry_of y) y.past s b is) in
          present_joined (seen x) s (ap (λ o. is_some o) (joined_on_wake past e.reading s) ∙ was) (present_is st (seen x) s there).1
