-- Each session that has joined did so by the answer ok of its first renewal: of the entry so far.
use Rattle.sl_due_facts.proofs.Acts.AddedAtEnd.{contains_at, contains_last}
use Rattle.sl_due_facts.proofs.Acts.InputsKeep.{has_heard}
use Rattle.sl_due_facts.proofs.Acts.LoopsKeep.{when_keeps, with_some_keeps}
use Rattle.sl_due_facts.specs.Acts.Acts.{Acts, Has, Hears}
use Rattle.sl_due_facts.specs.Acts.TraceSoFar.{entry_of}
use Rattle.sl_area.specs.AreaLayout.{delta_offset}
use Rattle.sl_due.specs.DueCommands.{carry_decision}
use Rattle.sl_due.specs.CarriedDelta.{carry_delta, end_leaving, for_joining, move_connection, read_own_sector, register, survey, write_own_sector}
use Rattle.sl_due.specs.DueRecovery.{begin_recoveries}
use Rattle.sl_due.specs.DueTimeOuts.{refuse, remove_connection, remove_of_refused}
use Rattle.sl_due.specs.Steps.{Step, add_call_of, add_move, add_reply, begin_step, seen, when, with_input, with_some}
use Rattle.sl_due.specs.declared.decision.Decision.TheVariants.{Joins}
use Rattle.sl_due_facts.proofs.Jobs.CallsHaveFacts.{find_mapped, more_is_other, sessions_told}
use Rattle.sl_due_facts.proofs.Jobs.CallsStay.{IsLate, calls_stay, late, late_join}
use Rattle.sl_due_facts.proofs.Jobs.DecisionsFit.{DecisionFits}
use Rattle.sl_due_facts.proofs.Jobs.JobFactsAreKept.{begun_sessions}
use Rattle.sl_due_facts.proofs.Jobs.JobFactsBegin.{sessions_then}
use Rattle.sl_due_facts.proofs.Jobs.JobsAreAllowed.{heard_answered, late_on_wake}
use Rattle.sl_due_facts.proofs.Jobs.JobsAreNumbered.{next_is_new}
use Rattle.sl_due_facts.proofs.Jobs.RepliesComeAfter.{on_bool}
use Rattle.sl_due_facts.proofs.Jobs.SessionsHaveJobs.{one_session}
use Rattle.sl_due_facts.specs.Jobs.JobLaws.{BeginsWith}
use Rattle.sl_run.specs.Lawful.{Orderly}
use Rattle.sl_run.specs.LawfulDelta.{LawfulJoin}
use Rattle.sl_due_facts.proofs.AddedEffects.CallsGrow.{mine_more, others_stay, same_sessions}
use Rattle.sl_due_facts.proofs.AddedEffects.EffectsAreTold.{effects_are_told}
use Rattle.sl_due_facts.proofs.AddedEffects.JoinedCallsKeepOrder.{one_number}
use Rattle.sl_words.proofs.Lists.{in_map}
use Rattle.sl_words.proofs.Numbers.{number_itself}
use Rattle.sl_words.proofs.Options.{some_of, some_there}
use Rattle.sl_sector.specs.declared.sector.Rec.TheVariants.{DeltaIs}
use Rattle.sl_due_facts.proofs.Connections.ConnectionEffects.{reply_same}
use Rattle.sl_due_facts.proofs.Connections.HeardCalls.{newest_heard}
use Rattle.sl_due_facts.proofs.Connections.JoiningConnections.{Working, working_inside, working_unjoined}
use Rattle.sl_due_facts.proofs.Connections.JoiningDecisions.{heard_decides, heard_working, woken_decides}
use Rattle.sl_due_facts.proofs.Connections.JoiningSteps.{JoinsConnection, special_join}
use Rattle.sl_due_facts.proofs.Connections.SteadyActs.{Steady, all_acts}
use Rattle.sl_due_facts.proofs.Connections.StepsBeginSteady.{begins_steady}
use Rattle.sl_due_facts.proofs.Sessions.DeltaConditions.{heard_at}
use Rattle.sl_due_facts.proofs.Sessions.DeltaGrow.{reply_joins_none}
use Rattle.sl_due_facts.proofs.Sessions.JoinedNumbers.{JoinsNot, joins_or_not, wake_not}
use Rattle.sl_due_facts.proofs.Sessions.NameEffects.{joined_of, reply_joins_more}
use Rattle.sl_due_facts.proofs.Sessions.NameFactsAreKept.{joined_on_wake}
use Rattle.sl_due_facts.proofs.Sessions.NameFactsConclude.{heard_answer}
use Rattle.sl_due_facts.proofs.Sessions.NamesAtEnd.{running_unjoined}
use Rattle.sl_due_facts.proofs.Sessions.NamesGrow.{calls_of_told}
use Rattle.sl_trace.specs.DeltaDecisions.{delta_of_session, next_after_free, next_after_renewal, next_in_joining, next_on_wake, own_offset}
use Rattle.sl_trace.specs.Sessions.{calls_of, generation_of, given_session, has_open_write, is_call_of, is_join_call, is_join_done, join_call, joined_after, joining_session, recovery_of, refused_after, same_join_step, session_of_job, sessions}
use Rattle.sl_trace.specs.declared.delta.DeltaNext.TheVariants.{Disconnect, EndLeaving, Join, MoveConnection, Nothing, ReadOwn, RefuseJoin, RegisterAndRead, WriteClaim, WriteFirst, WriteFree, WriteRenewal}
use Rattle.sl_trace.specs.declared.delta.DeltaNext.{DeltaNext}
use Rattle.sl_trace.specs.declared.session.Session.{Session}
use Rattle.sl_due_facts.specs.Facts.AllFacts.{Whole}
use Rattle.sl_time.specs.Times.{fail}
use Rattle.sl_trace.specs.WatchdogConnections.{is_registered}
use Rattle.sl_trace.specs.Traces.{Answered, Replied, Setting, Submitted, Trace, answer_of, answered_in, is_running, job_numbered, mark, new_call, next_call, next_job, reply_to}
use Rattle.sl_trace.specs.declared.command.Command.{Command}
use Rattle.sl_trace.specs.declared.command.LockspaceArg.{LockspaceArg}
use Rattle.sl_trace.specs.declared.effects.Call.{Call}
use Rattle.sl_trace.specs.declared.effects.Entry.{Entry}
use Rattle.sl_trace.specs.declared.effects.JoinStep.TheVariants.{ClaimWrite, DecidingRead, FirstRead, FirstRenewal, VerifyRead, WatchRead}
use Rattle.sl_trace.specs.declared.effects.JoinStep.{JoinStep}
use Rattle.sl_trace.specs.declared.effects.Move.TheVariants.{Register, Renew, Unregister}
use Rattle.sl_trace.specs.declared.effects.Move.{Move}
use Rattle.sl_trace.specs.declared.effects.Op.TheVariants.{ReadSectors, WriteRecord}
use Rattle.sl_trace.specs.declared.effects.Op.{Op}
use Rattle.sl_trace.specs.declared.effects.Purpose.TheVariants.{Joining, Survey}
use Rattle.sl_trace.specs.declared.effects.Purpose.{Purpose}
use Rattle.sl_trace.specs.declared.input.Answer.TheVariants.{Failed, Read, Written}
use Rattle.sl_trace.specs.declared.input.Answer.{Answer}
use Rattle.sl_trace.specs.declared.input.Input.TheVariants.{Answer as Told, Exit, Line, Number, Spawned, Wake}
use Rattle.sl_trace.specs.declared.input.Input.{Input}
use Rattle.sl_trace.specs.declared.reply.Reply.TheVariants.{Done, Generation, IoFault, IoTimeout}
use Rattle.sl_trace.specs.declared.reply.Reply.{Reply}
use Rattle.sl_run_law.proofs.Leases.NumberLaws.{number_is_place}
use Rattle.sl_run_law.proofs.Sessions.CallsAreMade.{same_answered}
use Rattle.sl_words.proofs.CaseLaws.{false_is_true, none_some, not_both, some_value}
use Rattle.sl_words.specs.Words.{choose}
use Rattle.std.proofs.Common.{ap, inl, inr, refl, subst, sym, ◌∙◌}
use Rattle.std.proofs.lemmas.Option.{slice_get_within}
use Rattle.std.specs.List.{enumerate_from}
use Rattle.std.specs.Option.{option_or}
use Rattle.std.specs.Prelude.{Bool, Contains, List, None, Ok, Option, Some, [], cond, false, filter, is_some, length, not, option_and_then, option_map, true, ℕ, ◌&&◌, ◌++◌, ◌+◌, ◌<◌, ◌==◌, ◌∷◌, ◌≡◌, ◌⊎◌}

-- What is said of all sessions that a job began.
abbrev pub JoinedSo : Step → Type 0
JoinedSo x = (s : Session) → Contains (sessions x.setting (seen x)) s → (j k : ℕ) → s.job ≡ Some j → joined_after (seen x) s ≡ Some k → LawfulJoin (seen x) s k

-- ---- as they were

joins_same : (t u : Trace) (s : Session) (k : ℕ) → join_call (calls_of u s) FirstRenewal ≡ join_call (calls_of t s) FirstRenewal → LawfulJoin t s k → LawfulJoin u s k
joins_same t u s k same l = record { renewal = l.renewal; answer = l.answer; first = same ∙ l.first; done = l.done }

-- Sessions that stay, join nothing, and call for no first renewal.
joins_kept : (x y : Step) → ((s : Session) → Contains (sessions y.setting (seen y)) s → Contains (sessions x.setting (seen x)) s) → ((s : Session) (k : ℕ) → Contains (sessions x.setting (seen x)) s → joined_after (seen y) s ≡ Some k → joined_after (seen x) s ≡ Some k)
    → ((s : Session) (k : ℕ) → Contains (sessions x.setting (seen x)) s → joined_after (seen x) s ≡ Some k → join_call (calls_of (seen y) s) FirstRenewal ≡ join_call (calls_of (seen x) s) FirstRenewal) → JoinedSo x → JoinedSo y
joins_kept x y all joined calls h s there j k its is =
    let old = all s there in
    let was = joined s k old is in joins_same (seen x) (seen y) s k (calls s k old was) (h s old j k its was)

joins_steady : (x y : Step) → Steady x y → JoinedSo x → JoinedSo y
joins_steady x y h = joins_kept x y (λ s there. subst (λ ss. Contains ss s) h.all there) (λ s k there is. sym (h.joined s there) ∙ is) (λ s k there is. h.renewals s there)

joins_moved : (x : Step) (m : Move) → JoinedSo x → JoinedSo (add_move m x)
joins_moved x m h s there j k its is = joins_same (seen x) (seen (add_move m x)) s k refl (h s there j k its is)

-- ---- a reply that joins nobody

not_joined_by : (x : Step) (j : ℕ) (r : Reply) (s : Session) (k : ℕ) → is_join_done r ≡ false → joined_after (seen (add_reply j r x)) s ≡ Some k → joined_after (seen x) s ≡ Some k
not_joined_by x j r s k other is =
    let was = some_there (joined_after (seen x) s) (reply_joins_none x j r s (inr other) (ap (λ o. is_some o) is)) in
    was.1 ∙ (sym (reply_joins_more x j r s was.0 was.1) ∙ is)

joins_replied : (x : Step) (j : ℕ) (r : Reply) → IsLate x r → is_join_done r ≡ false → JoinedSo x → JoinedSo (add_reply j r x)
joins_replied x j r after other =
    joins_kept x (add_reply j r x) (λ s there. there) (λ s k there is. not_joined_by x j r s k other is)
    (λ s k there is. ap (λ ms. join_call (filter (is_call_of s) ms) FirstRenewal) (calls_stay x j r after))

joins_refused : (x : Step) (j : ℕ) (r : Reply) → IsLate x r → is_join_done r ≡ false → JoinedSo x → JoinedSo (refuse j r x)
unfolding refuse
joins_refused x j r after other h =
    with_some_keeps JoinedSo (session_of_job x.setting (seen x) j) remove_of_refused (add_reply j r x)
    (λ z is k. joins_removed_of z (add_reply j r x) k) (joins_replied x j r after other h) where
      joins_removed_of : (z : Session) (y : Step) → JoinedSo y → JoinedSo (remove_of_refused z y)
      joins_removed_of z y k =
          when_keeps JoinedSo (is_some (refused_after (seen y) z) && not (has_open_write (seen y) z)) (remove_connection z.lockspace) y
          (λ go f. when_keeps JoinedSo (is_registered y.setting (seen y) z.lockspace) (add_move (Unregister z.lockspace)) y (λ there g. joins_moved y (Unregister z.lockspace) g) f) k

joins_removed : (x : Step) (name : List ℕ) → JoinedSo x → JoinedSo (remove_connection name x)
joins_removed x name h = when_keeps JoinedSo (is_registered x.setting (seen x) name) (add_move (Unregister name)) x (λ there g. joins_moved x (Unregister name) g) h

-- ---- a call

-- Of a session that has not joined, or of one that has, which is no first renewal.
joins_called : (x : Step) (s : Session) (path : List ℕ) (p : Purpose) (o : ℕ) (op : Op) → Has x s → is_join_call FirstRead p ≡ false → (joined_after (seen x) s ≡ None) ⊎ (is_join_call FirstRenewal p ≡ false) → JoinedSo x → JoinedSo (add_call_of s.number path p o op x)
joins_called x s path p o op has no_look which =
    joins_kept x (add_call_of s.number path p o op x) (λ z there. subst (λ ss. Contains ss z) (same_sessions x.setting (entry_of x) x.past made no_look) there) (λ z k there is. is)
    (λ z k there is. by z k there is (s.number == z.number) refl which)
  where
    made : Call
    made = record { number = next_call x.setting (seen x); session = s.number; purpose = p; path = path; offset = o; op = op }

    by : (z : Session) (k : ℕ) → Contains (sessions x.setting (seen x)) z → joined_after (seen x) z ≡ Some k → (b : Bool) → (s.number == z.number) ≡ b → (joined_after (seen x) s ≡ None) ⊎ (is_join_call FirstRenewal p ≡ false)
        → join_call (calls_of (seen (add_call_of s.number path p o op x)) z) FirstRenewal ≡ join_call (calls_of (seen x) z) FirstRenewal
    by z k there is false away either = ap (λ ms. join_call ms FirstRenewal) (others_stay (entry_of x) x.past made z away)
    by z k there is true mine (inl none) =
        absurd (none_some k (sym none ∙ subst (λ q. joined_after (seen x) q ≡ Some k) (one_number x.setting (seen x) s.number s z has there mine) is))
    by z k there is true mine (inr other) =
        ap (λ ms. join_call ms FirstRenewal) (mine_more (entry_of x) x.past made z mine) ∙ ap (λ b. cond b (Some (new_call (length x.past) x.reading made)) (join_call (calls_of (seen x) z) FirstRenewal)) other

-- ---- the input

joins_seen : (x : Step) (i : Input) → x.input ≡ Wake → x.effects.calls ≡ [] → JoinedSo x → JoinedSo (with_input i x)
joins_seen x i wake bare h s there j k its is = by (h s (subst (λ ss. Contains ss s) (sessions_told x i bare) there) j k its is) i (calls_of_told x i s wake bare) where
  by : LawfulJoin (seen x) s k → (q : Input) → calls_of (seen (with_input i x)) s ≡ mark x.past (entry_of (with_input i x)) q (calls_of (seen x) s) → LawfulJoin (seen (with_input i x)) s k
  by l (Told n a) are =
      let e : Entry = entry_of (with_input i x) in
      record {
        renewal = answered_in x.past e n a l.renewal;
        answer = l.answer;
        first = ap (λ ms. join_call ms FirstRenewal) are
            ∙ (find_mapped (λ (m : Submitted). is_join_call FirstRenewal m.call.purpose) (answered_in x.past e n a) (calls_of (seen x) s) (λ m. ap (λ (c : Call). is_join_call FirstRenewal c.purpose) (same_answered x.past e n a m).call)
            ∙ ap (λ o. option_map (answered_in x.past e n a) o) l.first);
        done = (kept_answer e n a l.renewal l.answer l.done.0, l.done.1, l.done.2);
      }
    where
      kept_answer : (e : Entry) (n : ℕ) (a : Answer) (m : Submitted) (c : Answered) → m.answer ≡ Some c → (answered_in x.past e n a m).answer ≡ Some c
      kept_answer e n a m c answered = either (m.call.number == n) m.answer answered where
        either : (b : Bool) (o : Option Answered) → o ≡ Some c → (elim b as (λ z. Submitted) [ false ↦ record m { answer = o } | true ↦ record m { answer = option_or o (Some (answer_of x.past e a m.call)) } ]).answer ≡ Some c
        either false o it = it
        either true (Some d) it = it
        either true None it = absurd (none_some c it)
  by l (Line text) are = joins_same (seen x) (seen (with_input i x)) s k (ap (λ ms. join_call ms FirstRenewal) are) l
  by l (Number text) are = joins_same (seen x) (seen (with_input i x)) s k (ap (λ ms. join_call ms FirstRenewal) are) l
  by l Wake are = joins_same (seen x) (seen (with_input i x)) s k (ap (λ ms. join_call ms FirstRenewal) are) l
  by l (Exit p) are = joins_same (seen x) (seen (with_input i x)) s k (ap (λ ms. join_call ms FirstRenewal) are) l
  by l (Spawned p ok) are = joins_same (seen x) (seen (with_input i x)) s k (ap (λ ms. join_call ms FirstRenewal) are) l

-- ---- a session begins

joins_begun : (x : Step) (text : List ℕ) (c : Command) (n : ℕ) (a : LockspaceArg) → x.input ≡ Wake → x.effects.calls ≡ [] → x.setting.read text ≡ Ok c → DecisionFits x.setting (seen x) c (Joins n a) → Whole x → JoinedSo x
    → JoinedSo (carry_decision (next_job x.setting (seen x)) c (Joins n a) (with_input (Line text) x))
unfolding carry_decision
joins_begun x text c n a wake bare says f h g s there j k its is = by (which s there) where
  w : Step
  w = with_input (Line text) x

  new : Session
  new = joining_session n (next_job x.setting (seen x)) a

  made : Call
  made = record { number = next_call x.setting (seen (with_input (Line text) x)); session = n; purpose = Joining (next_job x.setting (seen x)) FirstRead; path = a.path; offset = delta_offset x.setting.layout a.offset a.id; op = ReadSectors 1 }

  y : Step
  y = add_call_of n a.path (Joining (next_job x.setting (seen x)) FirstRead) (delta_offset x.setting.layout a.offset a.id) (ReadSectors 1) (with_input (Line text) x)

  grown : sessions x.setting (seen y) ≡ sessions x.setting (seen w) ++ new ∷ []
  grown = begun_sessions x text n a made wake bare (says ∙ ap (λ z. Ok z) f.0) f.1 refl

  which : (z : Session) → Contains (sessions x.setting (seen y)) z → Contains (sessions x.setting (seen w)) z ⊎ (new ≡ z)
  which z inside = contains_last (sessions x.setting (seen w)) new z (subst (λ ss. Contains ss z) grown inside)

  last : n ≡ length (sessions x.setting (seen w))
  last = f.1 ∙ ap (λ ss. length ss) (sym (sessions_told x (Line text) bare))

  old_other : (z : Session) → Contains (sessions x.setting (seen w)) z → (n == z.number) ≡ false
  old_other z inside =
      let at = contains_at (sessions x.setting (seen w)) z inside in
      let place : z.number ≡ at.0 = number_is_place x.setting (seen w) at.0 z at.1 in
      let low : at.0 < length (sessions x.setting (seen w)) = slice_get_within (sessions x.setting (seen w)) at.0 z at.1 in
      more_is_other z.number n (subst (λ q. q < n) (sym place) (subst (λ q. at.0 < q) (sym last) low))

  runs : is_running (seen w) (next_job x.setting (seen x)) ≡ true
  runs = to (is_running (seen x) (next_job x.setting (seen x))) refl where
    to : (b : Bool) → is_running (seen x) (next_job x.setting (seen x)) ≡ b → b ≡ true
    to true q = refl
    to false q =
        let i = some_of (job_numbered x.setting (seen x) (next_job x.setting (seen x))) (h.facts.jobs.replied (next_job x.setting (seen x)) q) in absurd (none_some i.0 (sym (next_is_new x.setting (seen x)) ∙ i.1))

  by : Contains (sessions x.setting (seen w)) s ⊎ (new ≡ s) → LawfulJoin (seen y) s k
  by (inl old) = joins_same (seen w) (seen y) s k (ap (λ ms. join_call ms FirstRenewal) (others_stay (entry_of w) x.past made s (old_other s old))) (joins_seen x (Line text) wake bare g s old j k its is)
  by (inr one) = absurd (none_some k (sym (running_unjoined (seen w) new (next_job x.setting (seen x)) refl runs) ∙ subst (λ z. joined_after (seen y) z ≡ Some k) (sym one) is))

-- ---- a joining goes on

for_own_joins : (x : Step) (s : Session) (j : ℕ) (f : ℕ → Step → Step) → s.job ≡ Some j → JoinedSo (f j x) → JoinedSo (for_joining s f x)
for_own_joins x s j f its h = subst (λ o. JoinedSo (with_some o f x)) (sym its) h

-- It joins by the answer of the first renewal, its newest call.
joins_now : (x : Step) (s : Session) (j generation renewed : ℕ) → Working x s j → LawfulJoin (seen x) s (length x.past + 1) → JoinedSo x → JoinedSo (survey s (add_reply j (Generation generation) (move_connection s renewed x)))
joins_now x s j generation renewed w l h = joins_called z s s.path Survey s.offset (ReadSectors x.setting.layout.hosts) w.has refl (inr refl) told where
  y : Step
  y = move_connection s renewed x

  z : Step
  z = add_reply j (Generation generation) (move_connection s renewed x)

  mine : Contains (sessions x.setting (seen x)) s
  mine = working_inside x s j w

  calls : (q : Session) → calls_of (seen (add_reply j (Generation generation) (move_connection s renewed x))) q ≡ calls_of (seen x) q
  calls q = ap (λ ms. filter (is_call_of q) ms) (calls_stay (move_connection s renewed x) j (Generation generation) (late_join (move_connection s renewed x) generation))

  told_now : reply_to (seen (add_reply j (Generation generation) (move_connection s renewed x))) j ≡ Some (record { at = length x.past; reply = Generation generation })
  told_now = effects_are_told.replies (record { job = j; reply = Generation generation }) (entry_of y) x.past w.runs

  told : JoinedSo (add_reply j (Generation generation) (move_connection s renewed x))
  told q there i k its is = either (s.number == q.number) refl where
    either : (b : Bool) → (s.number == q.number) ≡ b → LawfulJoin (seen (add_reply j (Generation generation) (move_connection s renewed x))) q k
    either true same =
        let one : q ≡ s = one_number x.setting (seen x) s.number s q w.has there same in
        let now : joined_after (seen z) s ≡ Some (length x.past + 1) =
        joined_of (seen z) s j w.its ∙ ap (λ o. option_and_then (λ (b : Replied). choose (is_join_done b.reply) (b.at + 1)) o) told_now
        in
        let at : length x.past + 1 ≡ k = some_value (length x.past + 1) k (sym now ∙ subst (λ p. joined_after (seen z) p ≡ Some k) one is) in
        subst (λ p. LawfulJoin (seen z) p k) (sym one) (subst (λ n. LawfulJoin (seen z) s n) at (joins_same (seen x) (seen z) s (length x.past + 1) (ap (λ ms. join_call ms FirstRenewal) (calls s)) l))
    either false other =
        let spared : q.job ≡ Some j → ⊥ = λ also.
        not_both (s.number == q.number) (subst (λ p. (s.number == p.number) ≡ true) (sym (one_session x.setting (seen x) q s j there mine also w.its)) (number_itself s.number)) other
        in
        let before : joined_after (seen x) q ≡ Some k = sym (reply_same y j (Generation generation) q (late_join y generation) spared).joined ∙ is in
        joins_same (seen x) (seen z) q k (ap (λ ms. join_call ms FirstRenewal) (calls q)) (h q there i k its before)

joining_joins : (x : Step) (s : Session) (j : ℕ) (n : DeltaNext) → Working x s j → JoinsConnection x s n → ((generation renewed : ℕ) → n ≡ Join generation renewed → LawfulJoin (seen x) s (length x.past + 1)) → JoinedSo x → JoinedSo (carry_delta s n x)
unfolding carry_delta
joining_joins x s j Nothing w may joins h = h
joining_joins x s j (RefuseJoin r) w may joins h = for_own_joins x s j (λ i. refuse i r) w.its (joins_refused x j r (late x r may) (special_join r may) h)
joining_joins x s j (ReadOwn step) w may joins h =
    for_own_joins x s j (λ i. read_own_sector s (Joining i step)) w.its
    (subst (λ q. JoinedSo (read_own_sector s (Joining j q) x)) (sym may.0) (joins_called x s s.path (Joining j WatchRead) (own_offset x.setting s) (ReadSectors 1) w.has refl (inl (working_unjoined x s j w)) h))
joining_joins x s j (RegisterAndRead step) w may joins h =
    for_own_joins x s j (λ i y. read_own_sector s (Joining i step) (register s y)) w.its
    (joins_called (register s x) s s.path (Joining j step) (own_offset x.setting s) (ReadSectors 1) w.has may.0 (inl (working_unjoined x s j w)) (joins_moved x (Register s.lockspace (x.reading + fail x.setting.timing)) h))
joining_joins x s j (WriteClaim d) w may joins h =
    for_own_joins x s j (λ i. write_own_sector s (Joining i ClaimWrite) d) w.its (joins_called x s s.path (Joining j ClaimWrite) (own_offset x.setting s) (WriteRecord (DeltaIs d)) w.has refl (inl (working_unjoined x s j w)) h)
joining_joins x s j Disconnect w may joins h = joins_removed x s.lockspace h
joining_joins x s j (WriteFirst d) w may joins h =
    for_own_joins x s j (λ i. write_own_sector s (Joining i FirstRenewal) d) w.its (joins_called x s s.path (Joining j FirstRenewal) (own_offset x.setting s) (WriteRecord (DeltaIs d)) w.has refl (inl (working_unjoined x s j w)) h)
joining_joins x s j (Join generation renewed) w may joins h =
    for_own_joins x s j (λ i y. survey s (add_reply i (Generation generation) (move_connection s renewed y))) w.its (joins_now x s j generation renewed w (joins generation renewed refl) h)
joining_joins x s j (MoveConnection renewed) w may joins h = absurd may
joining_joins x s j (WriteRenewal d) w may joins h = absurd may
joining_joins x s j (WriteFree i d) w may joins h = absurd may
joining_joins x s j (EndLeaving i r) w may joins h = absurd may

-- The first renewal that was heard.
joined_by_it : (x : Step) (s : Session) (j : ℕ) (m : Submitted) → Whole x → Hears x s m Written → m.call.purpose ≡ Joining j FirstRenewal → is_running (seen x) j ≡ true → LawfulJoin (seen x) s (length x.past + 1)
joined_by_it x s j m h hears is runs = by m.answer refl where
  w : Working x s j
  w = heard_working x s j FirstRenewal m Written h hears is runs

  newest : (ms : List Submitted) × (calls_of (seen x) s ≡ m ∷ ms)
  newest = newest_heard x s m Written h hears (working_unjoined x s j w)

  by : (o : Option Answered) → m.answer ≡ o → LawfulJoin (seen x) s (length x.past + 1)
  by None none = absurd (heard_answered x s m Written hears none)
  by (Some a) it =
      record {
        renewal = m;
        answer = a;
        first = ap (λ ks. join_call ks FirstRenewal) newest.1 ∙ ap (λ b. cond b (Some m) (join_call newest.0 FirstRenewal)) (ap (λ p. is_join_call FirstRenewal p) is);
        done = (it, heard_answer x s m Written a h hears it, ap (λ n. n + 1) (heard_at x s m Written a h hears it));
      }

abbrev is_join_next : DeltaNext → Bool
is_join_next (Join generation renewed) = true
is_join_next n = false

joins_by_step : (x : Step) (s : Session) (j : ℕ) (step : JoinStep) (m : Submitted) (answer : Answer) → Whole x → Hears x s m answer → m.call.purpose ≡ Joining j step → is_running (seen x) j ≡ true → step ≡ FirstRenewal → (generation renewed : ℕ)
    → next_in_joining (delta_of_session x.setting s) (generation_of (seen x) s) (calls_of (seen x) s) x.reading m step answer ≡ Join generation renewed → LawfulJoin (seen x) s (length x.past + 1)
unfolding next_in_joining
joins_by_step x s j step m Written h hears is runs first generation renewed decides = joined_by_it x s j m h hears (is ∙ ap (λ q. Joining j q) first) runs
joins_by_step x s j step m Failed h hears is runs first generation renewed decides = absurd (false_is_true (ap (λ n. is_join_next n) decides))
joins_by_step x s j FirstRenewal m (Read bytes) h hears is runs first generation renewed decides = absurd (false_is_true (ap (λ n. is_join_next n) decides))
joins_by_step x s j FirstRead m (Read bytes) h hears is runs first generation renewed decides = absurd (false_is_true (ap (λ q. same_join_step FirstRenewal q) first))
joins_by_step x s j WatchRead m (Read bytes) h hears is runs first generation renewed decides = absurd (false_is_true (ap (λ q. same_join_step FirstRenewal q) first))
joins_by_step x s j DecidingRead m (Read bytes) h hears is runs first generation renewed decides = absurd (false_is_true (ap (λ q. same_join_step FirstRenewal q) first))
joins_by_step x s j ClaimWrite m (Read bytes) h hears is runs first generation renewed decides = absurd (false_is_true (ap (λ q. same_join_step FirstRenewal q) first))
joins_by_step x s j VerifyRead m (Read bytes) h hears is runs first generation renewed decides = absurd (false_is_true (ap (λ q. same_join_step FirstRenewal q) first))

joins_or_else : (x : Step) (s : Session) (j : ℕ) (step : JoinStep) (m : Submitted) (answer : Answer) → Whole x → Hears x s m answer → m.call.purpose ≡ Joining j step → is_running (seen x) j ≡ true → (generation renewed : ℕ)
    → next_in_joining (delta_of_session x.setting s) (generation_of (seen x) s) (calls_of (seen x) s) x.reading m step answer ≡ Join generation renewed → LawfulJoin (seen x) s (length x.past + 1)
joins_or_else x s j step m answer h hears is runs generation renewed decides =
    by (joins_or_not (delta_of_session x.setting s) (generation_of (seen x) s) (calls_of (seen x) s) x.reading m step answer) where
      by : JoinsNot (next_in_joining (delta_of_session x.setting s) (generation_of (seen x) s) (calls_of (seen x) s) x.reading m step answer) ⊎ (step ≡ FirstRenewal) → LawfulJoin (seen x) s (length x.past + 1)
      by (inl none) = absurd (subst (λ n. JoinsNot n) decides none)
      by (inr first) = joins_by_step x s j step m answer h hears is runs first generation renewed decides

woken_joins : (x : Step) (s : Session) (j : ℕ) → Has x s → x.input ≡ Wake → s.job ≡ Some j → is_running (seen x) j ≡ true → Whole x → JoinedSo x
    → JoinedSo (carry_delta s (next_on_wake (delta_of_session x.setting s) x.reading (calls_of (seen x) s)) x)
woken_joins x s j has wake its runs h g =
    joining_joins x s j (next_on_wake (delta_of_session x.setting s) x.reading (calls_of (seen x) s)) (record { has = has; its = its; runs = runs; names = h.facts.names; orderly = h.orderly })
    (woken_decides x s j h has wake its runs) (λ generation renewed decides. absurd (subst (λ n. JoinsNot n) decides (wake_not (delta_of_session x.setting s) x.reading (calls_of (seen x) s)))) g

-- ---- a joined session's connection

renewed_joins : (x : Step) (s : Session) (m : Submitted) (answer : Answer) → Hears x s m answer → JoinedSo x → JoinedSo (carry_delta s (next_after_renewal (is_some (recovery_of x.setting (seen x) s)) m.reading answer) x)
unfolding carry_delta
renewed_joins x s m Failed hears h = h
renewed_joins x s m (Read bytes) hears h = h
renewed_joins x s m Written hears h =
    on_bool (λ n. JoinedSo (carry_delta s n x)) (is_some (recovery_of x.setting (seen x) s)) (MoveConnection m.reading) Nothing
    (joins_called (move_connection s m.reading x) s s.path Survey s.offset (ReadSectors x.setting.layout.hosts) (has_heard x s m Written hears) refl (inr refl) (joins_moved x (Renew s.lockspace (m.reading + fail x.setting.timing)) h)) h

freed_joins : (x : Step) (s : Session) (j : ℕ) (m : Submitted) (answer : Answer) → Hears x s m answer → JoinedSo x → JoinedSo (carry_delta s (next_after_free j m.call.number answer) x)
unfolding carry_delta
freed_joins x s j m answer hears h = by answer where
  ends : (r : Reply) → IsLate x r → is_join_done r ≡ false → JoinedSo (end_leaving s j r x)
  ends r after other = to (is_running (seen x) j) (is_registered x.setting (seen x) s.lockspace) where
    to : (b c : Bool) → JoinedSo (when b (add_reply j r) (when c (add_move (Unregister s.lockspace)) x))
    to true true = joins_replied (add_move (Unregister s.lockspace) x) j r after other (joins_moved x (Unregister s.lockspace) h)
    to true false = joins_replied x j r after other h
    to false true = joins_moved x (Unregister s.lockspace) h
    to false false = h

  by : (a : Answer) → JoinedSo (carry_delta s (next_after_free j m.call.number a) x)
  by Written = ends Done (late x Done refl) refl
  by Failed = ends (IoFault m.call.number) (late x (IoFault m.call.number) refl) refl
  by (Read bytes) = h

ended_joins : (x : Step) (s : Session) → JoinedSo x → JoinedSo (remove_of_refused s x)
ended_joins x s h =
    when_keeps JoinedSo (is_some (refused_after (seen x) s) && not (has_open_write (seen x) s)) (remove_connection s.lockspace) x (λ go f. joins_removed x s.lockspace f) h

-- ---- all acts

pub joins_are_kept : Acts Whole JoinedSo
joins_are_kept =
    all_acts Whole JoinedSo
    (record {
      whole = λ x h. h;
      here = λ x h. h.orderly.delta.0.joins;
      steady = joins_steady;
      inputs = λ x i wake bare expected h. joins_seen x i wake bare h.orderly.delta.0.joins;
      times_out = λ x j m wake bare runs h. joins_refused x j (IoTimeout m.call.number m.reading x.reading) (late_on_wake x (IoTimeout m.call.number m.reading x.reading) wake) refl h.orderly.delta.0.joins;
      begins = λ x text c n a wake bare says f h. joins_begun x text c n a wake bare says f h h.orderly.delta.0.joins;
      joins_on = λ x s j step m answer hears is runs h.
          joining_joins x s j (next_in_joining (delta_of_session x.setting s) (generation_of (seen x) s) (calls_of (seen x) s) x.reading m step answer) (heard_working x s j step m answer h hears is runs)
          (heard_decides x s j step m answer h hears is runs) (λ generation renewed decides. joins_or_else x s j step m answer h hears is runs generation renewed decides) h.orderly.delta.0.joins;
      ends_joining = λ x s j step m answer hears is stops h. ended_joins x s h.orderly.delta.0.joins;
      renewed = λ x s m answer hears is h. renewed_joins x s m answer hears h.orderly.delta.0.joins;
      freed = λ x s j m answer hears is h. freed_joins x s j m answer hears h.orderly.delta.0.joins;
      joins_in_time = λ x s j has wake is runs h. woken_joins x s j has wake is runs h h.orderly.delta.0.joins;
      parts = λ x s has joined recovers_one free quiet h. joins_removed x s.lockspace h.orderly.delta.0.joins;
    })

-- ---- once a step has begun

joined_in_past : (st : Setting) (past : Trace) → Orderly st past → (s : Session) → Contains (sessions st past) s → (j k : ℕ) → s.job ≡ Some j → joined_after past s ≡ Some k → LawfulJoin past s k
joined_in_past st [] h s there j k its is =
    let given = in_map given_session (enumerate_from 0 st.given) s there in absurd (none_some j (ap (λ (q : Session). q.job) given.2 ∙ its))
joined_in_past st (e ∷ past) h s there j k its is = h.delta.0.joins s there j k its is

pub joins_begin : BeginsWith JoinedSo
joins_begin st past e follows w =
    let x : Step = begin_step st past e.reading in
    joins_steady x (begin_recoveries x) (begins_steady st past e.reading w)
    (λ s there j k its is.
    joins_same past (seen x) s k refl (joined_in_past st past w.lawful.orderly s (subst (λ ss. Contains ss s) (sessions_then st past e.reading) there) j k its (sym (joined_on_wake past e.reading s) ∙ is)))
