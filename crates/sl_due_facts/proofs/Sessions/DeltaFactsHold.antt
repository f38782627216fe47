-- All acts keep what is known of delta records.
use Rattle.sl_due_facts.proofs.Acts.AddedAtEnd.{contains_at, contains_last}
use Rattle.sl_due_facts.proofs.Acts.DecisionsAreTheirs.{Of}
use Rattle.sl_due_facts.proofs.Acts.InputsKeep.{has_heard}
use Rattle.sl_due_facts.proofs.Acts.LoopsKeep.{for_each_keeps, when_keeps}
use Rattle.sl_due_facts.proofs.Acts.PlainActs.{line_has}
use Rattle.sl_due_facts.specs.Acts.Acts.{Has, Hears, next_of_settling}
use Rattle.sl_due_facts.specs.Acts.TraceSoFar.{entry_of}
use Rattle.sl_area.specs.AreaLayout.{delta_offset, request_offset}
use Rattle.sl_due.specs.DueAnswers.{set_reply}
use Rattle.sl_due.specs.DueCommands.{carry_decision, decided, reply_at_once}
use Rattle.sl_due.specs.CarriedDelta.{carry_delta, see_request}
use Rattle.sl_due.specs.DueTimeOuts.{refuse, remove_connection, remove_of_refused}
use Rattle.sl_due.specs.DueRecovery.{send, signal_and_refuse, signal_holders}
use Rattle.sl_due.specs.DueInputs.{end_holdings, leave_holdings, refuse_jobs_of, started_reply, when_running}
use Rattle.sl_due.specs.CarriedLease.{carry_lease, next_of_lease}
use Rattle.sl_due.specs.DueRequests.{after_request_read, after_value_read, bits_due, owner_read, request_refusal, value_reply, write_request}
use Rattle.sl_due.specs.Steps.{Step, add_call_of, add_move, add_reply, add_signal, add_start, seen, with_input}
use Rattle.sl_due.specs.declared.decision.Decision.{Decision}
use Rattle.sl_due.specs.declared.decision.Decision.TheVariants.{ConvertsTo, GetsValue, GivesUp, Joins, Leaves, ReadsArea, Replies, Requests, SetsValue, Shares, TakesOver}
use Rattle.sl_due_facts.proofs.Jobs.AnsweredCallsFit.{arg_name, both_of, leaves_lockspace, left_by_command}
use Rattle.sl_due_facts.proofs.Jobs.CallsHaveFacts.{input_kept, more_is_other, sessions_told}
use Rattle.sl_due_facts.proofs.Jobs.CallsOfJobsFit.{joining_of}
use Rattle.sl_due_facts.proofs.Jobs.DecisionsFit.{DecisionFits, decisions_fit}
use Rattle.sl_due_facts.proofs.Jobs.EffectsAreAllowed.{Allows, DecisionAllowed, DeltaAllowed, decision, delta, ended, exited, lease, left, refusal, removal_of_refused, requested, said, sent, stopped}
use Rattle.sl_due_facts.proofs.Jobs.JobFactsAreKept.{begun_sessions}
use Rattle.sl_due_facts.proofs.Jobs.JobsAreAllowed.{late_on_survey, late_on_wake, late_unless_told}
use Rattle.sl_due_facts.proofs.Jobs.JobsAreNumbered.{next_is_new}
use Rattle.sl_due_facts.proofs.Jobs.LinesAreAllowed.{IsBegun}
use Rattle.sl_due_facts.proofs.Jobs.NearlyPlainActs.{AnyMove, AnyStart}
use Rattle.sl_due_facts.proofs.Jobs.QuietFactsAreKept.{IsLeft, left_or_not}
use Rattle.sl_due_facts.proofs.Jobs.RepliesComeAfter.{IsLateLease, joining_late, lease_late, set_late, settle_late, value_late, wake_late}
use Rattle.sl_due_facts.proofs.Jobs.SessionsArePresent.{joined_present, present_inside}
use Rattle.sl_due_facts.proofs.Jobs.SessionsStand.{joined_then, no_members}
use Rattle.sl_trace.specs.KillPrograms.{stopper_of}
use Rattle.sl_trace.specs.Jobs.{is_job_of_process, job_of_start}
use Rattle.sl_trace.specs.LeaseDecisions.{lease_place}
use Rattle.sl_trace.specs.Leases.{holdings_on, known, lver_written, spot_of_call}
use Rattle.sl_trace.specs.declared.lease.LeaseNext.{LeaseNext}
use Rattle.sl_due_facts.proofs.AddedEffects.CallsGrow.{mine_more, others_stay}
use Rattle.sl_words.proofs.Lists.{find_inside, got_inside, kept_inside}
use Rattle.sl_words.proofs.Numbers.{number_itself}
use Rattle.sl_words.proofs.Options.{some_of}
use Rattle.sl_due_facts.proofs.Sessions.DeltaActs.{DeltaDone, allows_done, delta_full, joining_delta, no_number, one_unfreed}
use Rattle.sl_due_facts.proofs.Sessions.DeltaConditions.{active_unfreed, freed_before, freed_delta, heard_unfreed, holder_unfreed, lease_delta, part_of, plain_call, plain_reply, renewal_delta, renewed_delta, request_delta}
use Rattle.sl_due_facts.proofs.Sessions.DeltaFactsAreKept.{allowed, begin_delta, frees_full, grants_none, grants_to, part, replied, seen_full, since_done, told_full, told_line, woken_line}
use Rattle.sl_due_facts.proofs.Sessions.DeltaGrow.{DeltaCall, DeltaPart, DeltaReply, DeltaSince}
use Rattle.sl_due_facts.proofs.Sessions.DeltaIsAllowed.{delta_at, since_move, since_signal, since_start}
use Rattle.sl_due_facts.proofs.Sessions.DeltaLines.{OwnNumber, answered_full, decision_delta, decision_held, lined_freed, lined_part, lined_unfreed}
use Rattle.sl_due_facts.proofs.Sessions.HoldingsOfSessions.{HeldBy, held_delta, held_end, held_exit, held_itself, held_lease, held_refusal, held_refused, held_removal, held_sent, held_signals, held_stop}
use Rattle.sl_due_facts.proofs.Sessions.JoinedNumbers.{HasNumbers, JoinsNot, joined_numbers, joins_or_not, wake_not}
use Rattle.sl_due_facts.proofs.Sessions.NamesAtEnd.{running_unjoined}
use Rattle.sl_due_facts.specs.Sessions.SessionLaws.{DeltaFactsAreKept, HasDeltaFacts}
use Rattle.sl_trace.specs.DeltaDecisions.{delta_known, delta_of_session, next_after_free, next_after_renewal, next_in_joining, next_on_wake, next_renewal}
use Rattle.sl_trace.specs.Sessions.{calls_of, free_write, generation_in, generation_of, holders_of, holdings_of, is_active, is_call_of, is_free_purpose, is_joined, is_session_arg, joined_after, joining_session, last_renewal, last_seq, leaving_job, present_sessions, recovery_of, seq_in, session_numbered, sessions}
use Rattle.sl_trace.specs.declared.delta.DeltaNext.{DeltaNext}
use Rattle.sl_trace.specs.declared.session.Session.{Session}
use Rattle.sl_due_facts.specs.Facts.SessionFacts.{DeltaFacts}
use Rattle.sl_due_facts.specs.Facts.AllFacts.{Whole}
use Rattle.sl_trace.specs.WatchdogConnections.{is_registered}
use Rattle.sl_trace.specs.Traces.{Answered, Job, Submitted, is_running, is_shared, job_numbered, job_of, line_in, new_call, next_call, next_child, next_job, running_jobs, submitted, unanswered}
use Rattle.sl_trace.specs.declared.command.Command.{Command}
use Rattle.sl_trace.specs.declared.command.Command.TheVariants.{AddLockspace, RemLockspace, Request}
use Rattle.sl_trace.specs.declared.command.LockspaceArg.{LockspaceArg}
use Rattle.sl_trace.specs.declared.effects.Call.{Call}
use Rattle.sl_trace.specs.declared.effects.Grant.{Grant}
use Rattle.sl_trace.specs.declared.effects.JoinStep.{JoinStep}
use Rattle.sl_trace.specs.declared.effects.JoinStep.TheVariants.{FirstRead, FirstRenewal}
use Rattle.sl_trace.specs.declared.effects.Move.TheVariants.{Unregister}
use Rattle.sl_trace.specs.declared.effects.Op.TheVariants.{ReadSectors}
use Rattle.sl_trace.specs.declared.effects.Purpose.TheVariants.{Joining, SeeRequest}
use Rattle.sl_trace.specs.declared.effects.Signal.{Signal}
use Rattle.sl_trace.specs.declared.effects.Signal.TheVariants.{Kill, Term}
use Rattle.sl_trace.specs.declared.effects.Spot.{Spot}
use Rattle.sl_trace.specs.declared.effects.Work.{Work}
use Rattle.sl_trace.specs.declared.effects.Work.TheVariants.{Settling}
use Rattle.sl_trace.specs.declared.input.Answer.{Answer}
use Rattle.sl_trace.specs.declared.input.Answer.TheVariants.{Read}
use Rattle.sl_trace.specs.declared.input.Input.TheVariants.{Answer as Told, Exit, Line, Number, Spawned, Wake}
use Rattle.sl_trace.specs.declared.reply.Reply.{Reply}
use Rattle.sl_trace.specs.declared.reply.Reply.TheVariants.{BadCommand as Misread, Done, IoFault, IoTimeout, NoProcess, Recovering, SpawnFault}
use Rattle.sl_run_law.proofs.Leases.NumberLaws.{number_is_place}
use Rattle.sl_words.proofs.CaseLaws.{false_is_true, none_some, some_value, true_is_false}
use Rattle.sl_words.specs.Bounds.{is_number}
use Rattle.std.proofs.Common.{ap, arith, inl, inr, refl, subst, sym, ◌∙◌}
use Rattle.std.proofs.lemmas.Bool.{eqb-true}
use Rattle.std.proofs.lemmas.Option.{slice_get_within}
use Rattle.std.proofs.lemmas.Slice.Eq.{bytes_eq-Decides}
use Rattle.std.specs.Prelude.{Bool, Contains, IsSome, IsTrue, List, None, Ok, Option, Some, [], bytes_eq, false, filter, is_some, length, not, true, ℕ, ◌++◌, ◌+◌, ◌<◌, ◌==◌, ◌∷◌, ◌≡◌, ◌≤◌, ◌⊎◌}

-- ---- a session begins

begun_delta : (x : Step) (text : List ℕ) (c : Command) (n : ℕ) (a : LockspaceArg) → Whole x → x.input ≡ Wake → x.effects.calls ≡ [] → x.setting.read text ≡ Ok c → c ≡ AddLockspace a → n ≡ length (sessions x.setting (seen x)) → DeltaFacts x.setting (seen (with_input (Line text) x))
    → HasDeltaFacts (carry_decision (next_job x.setting (seen x)) c (Joins n a) (with_input (Line text) x))
unfolding carry_decision
begun_delta x text c n a h wake bare says adds next f =
    record {
      frees = λ s m there is. frees s m is (which s there);
      before = λ s m k there is inside. before s m k is inside (which s there);
      numbers = λ s there joined. numbers s joined (which s there);
      left = λ s k there joined leaves_s none. left s k joined leaves_s none (which s there);
    } where
      w : Step
      w = with_input (Line text) x

      new : Session
      new = joining_session n (next_job x.setting (seen x)) a

      made : Call
      made = record { number = next_call x.setting (seen (with_input (Line text) x)); session = n; purpose = Joining (next_job x.setting (seen x)) FirstRead; path = a.path; offset = delta_offset x.setting.layout a.offset a.id; op = ReadSectors 1 }

      call : Submitted
      call = new_call (length x.past) x.reading made

      y : Step
      y = add_call_of n a.path (Joining (next_job x.setting (seen x)) FirstRead) (delta_offset x.setting.layout a.offset a.id) (ReadSectors 1) (with_input (Line text) x)

      grown : sessions x.setting (seen y) ≡ sessions x.setting (seen w) ++ new ∷ []
      grown = begun_sessions x text n a made wake bare (says ∙ ap (λ z. Ok z) adds) next refl

      which : (s : Session) → Contains (sessions x.setting (seen y)) s → Contains (sessions x.setting (seen w)) s ⊎ (new ≡ s)
      which s there = contains_last (sessions x.setting (seen w)) new s (subst (λ ss. Contains ss s) grown there)

      last : n ≡ length (sessions x.setting (seen w))
      last = next ∙ ap (λ ss. length ss) (sym (sessions_told x (Line text) bare))

      calls_old : (s : Session) → Contains (sessions x.setting (seen w)) s → calls_of (seen y) s ≡ calls_of (seen w) s
      calls_old s there =
          let at = contains_at (sessions x.setting (seen w)) s there in
          let place : s.number ≡ at.0 = number_is_place x.setting (seen w) at.0 s at.1 in
          let low : at.0 < length (sessions x.setting (seen w)) = slice_get_within (sessions x.setting (seen w)) at.0 s at.1 in
          others_stay (entry_of w) x.past made s (more_is_other s.number n (subst (λ k. k < n) (sym place) (subst (λ k. at.0 < k) (sym last) low)))

      none_before : calls_of (seen w) new ≡ []
      none_before = no_members (calls_of (seen w) new) (λ m there.
          let its = kept_inside (is_call_of new) (submitted (seen w)) m there in
          let owner = some_of (session_numbered x.setting (seen w) m.call.session) ((input_kept x (Line text) wake bare refl h.facts.calls).owned m its.0) in
          let low : m.call.session < length (sessions x.setting (seen w)) = slice_get_within (sessions x.setting (seen w)) m.call.session owner.0 owner.1 in
          let is : m.call.session ≡ n = eqb-true m.call.session n its.1 in omega (arith, low, is, last))

      unfreed : (s : Session) → new ≡ s → free_write (calls_of (seen y) s) ≡ None
      unfreed s same =
          ap (λ (q : Session). free_write (calls_of (seen y) q)) (sym same) ∙ (ap (λ ms. free_write ms) (mine_more (entry_of w) x.past made new (number_itself n)) ∙ ap (λ ms. free_write (call ∷ ms)) none_before)

      unjoined : (s : Session) → new ≡ s → is_joined (seen y) s ≡ true → ⊥
      unjoined s same joined = by (is_running (seen x) j) refl where
        j : ℕ
        j = next_job x.setting (seen x)

        by : (b : Bool) → is_running (seen x) j ≡ b → ⊥
        by false stops =
            let job = some_of (job_numbered x.setting (seen x) j) (h.facts.jobs.replied j stops) in none_some job.0 (sym (next_is_new x.setting (seen x)) ∙ job.1)
        by true runs =
            let none : joined_after (seen y) new ≡ None = running_unjoined (seen y) new j refl runs in
            false_is_true (sym (ap (λ o. is_some o) none) ∙ joined_then (seen y) new (subst (λ (q : Session). is_joined (seen y) q ≡ true) (sym same) joined))

      frees : (s : Session) (m : Submitted) → free_write (calls_of (seen y) s) ≡ Some m → Contains (sessions x.setting (seen w)) s ⊎ (new ≡ s)
          → IsSome (leaving_job x.setting (seen w) s) × (holdings_of (seen w) s ≡ []) × ((ms : List Submitted) × (calls_of (seen y) s ≡ m ∷ ms) × (unanswered ms ≡ []))
      frees s m is (inl there) = let q = f.frees s m there (sym (ap (λ ms. free_write ms) (calls_old s there)) ∙ is) in (q.0, q.1, (q.2.0, calls_old s there ∙ q.2.1, q.2.2))
      frees s m is (inr same) = absurd (none_some m (sym (unfreed s same) ∙ is))

      before : (s : Session) (m k : Submitted) → free_write (calls_of (seen y) s) ≡ Some m → Contains (calls_of (seen y) s) k → Contains (sessions x.setting (seen w)) s ⊎ (new ≡ s) → (k ≡ m) ⊎ ((b : Answered) × (k.answer ≡ Some b) × (b.at ≤ m.at))
      before s m k is inside (inl there) = f.before s m k there (sym (ap (λ ms. free_write ms) (calls_old s there)) ∙ is) (subst (λ ms. Contains ms k) (calls_old s there) inside)
      before s m k is inside (inr same) = absurd (none_some m (sym (unfreed s same) ∙ is))

      numbers : (s : Session) → is_joined (seen y) s ≡ true → Contains (sessions x.setting (seen w)) s ⊎ (new ≡ s) → HasNumbers (seen y) s
      numbers s joined (inl there) = subst (λ ms. (1 ≤ generation_in s ms) × IsTrue (is_number (generation_in s ms)) × IsTrue (is_number (seq_in s ms))) (sym (calls_old s there)) (f.numbers s there joined)
      numbers s joined (inr same) = absurd (unjoined s same joined)

      left : (s : Session) (k : Job) → is_joined (seen y) s ≡ true → leaving_job x.setting (seen w) s ≡ Some k → free_write (calls_of (seen y) s) ≡ None → Contains (sessions x.setting (seen w)) s ⊎ (new ≡ s) → IsTrue (is_number (last_seq (seen y) s + 1))
      left s k joined leaves_s none (inl there) = subst (λ ms. IsTrue (is_number (seq_in s ms + 1))) (sym (calls_old s there)) (f.left s k there joined leaves_s (sym (ap (λ ms. free_write ms) (calls_old s there)) ∙ none))
      left s k joined leaves_s none (inr same) = absurd (unjoined s same joined)

-- ---- a line that is carried out

abbrev begins_session : Decision → Bool
begins_session (Joins n a) = true
begins_session d = false

joins_apart_by : (d : Decision) (n : ℕ) (a : LockspaceArg) → begins_session d ≡ false → d ≡ Joins n a → ⊥
joins_apart_by d n a no_one is = true_is_false (sym (ap (λ z. begins_session z) is) ∙ no_one)

carried_delta : (x : Step) (text : List ℕ) (c : Command) (d : Decision) → Whole x → x.input ≡ Wake → x.effects.calls ≡ [] → x.setting.read text ≡ Ok c → decided x.setting (seen x) x.reading c ≡ d → reply_at_once d ≡ None
    → HasDeltaFacts (carry_decision (next_job x.setting (seen x)) c d (with_input (Line text) x))
carried_delta x text c d h wake bare says is none = by d fits has none (full d fits none) (decision_delta x text c d wake bare h has fits) where
  w : Step
  w = with_input (Line text) x

  j : ℕ
  j = next_job x.setting (seen x)

  fits : DecisionFits x.setting (seen x) c d
  fits = subst (λ z. DecisionFits x.setting (seen x) c z) is (decisions_fit x.setting (seen x) x.reading c)

  has : Of (Has (with_input (Line text) x)) d
  has = subst (λ z. Of (Has (with_input (Line text) x)) z) is (line_has x text c bare)

  -- the one leaving that a line may begin has a seq left
  leaves_one : (z : Decision) → IsLeft z → DecisionFits x.setting (seen x) c z → (s : Session) (a : LockspaceArg) → Contains (sessions x.setting (seen x)) s → is_joined (seen x) s ≡ true → c ≡ RemLockspace a → is_session_arg s a ≡ true
      → IsTrue (is_number (last_seq (seen x) s + 1))
  leaves_one (Leaves t) k f s a there joined removes names =
      let one : f.1.0 ≡ a = some_value f.1.0 a (ap (λ q. left_by_command q) (sym f.1.1 ∙ removes)) in
      let found = find_inside (λ (q : Session). bytes_eq q.lockspace f.1.0.name) (present_sessions x.setting (seen x)) t f.1.2 in
      let t_name : t.lockspace ≡ f.1.0.name = (bytes_eq-Decides t.lockspace f.1.0.name).0 found.1 in
      let s_name : a.name ≡ s.lockspace = arg_name s a names in
      let is_t : s ≡ t = h.facts.names.apart s t (present_inside x.setting (seen x) s there (joined_present (seen x) s joined)) found.0 (sym s_name ∙ (ap (λ (q : LockspaceArg). q.name) (sym one) ∙ sym t_name)) in
      subst (λ (q : Session). IsTrue (is_number (last_seq (seen x) q + 1))) (sym is_t) f.1.4
  leaves_one (Replies r) k f s a there joined removes names = absurd k
  leaves_one (Joins n b) k f s a there joined removes names = absurd k
  leaves_one (ReadsArea t r) k f s a there joined removes names = absurd k
  leaves_one (Shares t lver) k f s a there joined removes names = absurd k
  leaves_one (GivesUp t g) k f s a there joined removes names = absurd k
  leaves_one (TakesOver t g) k f s a there joined removes names = absurd k
  leaves_one (ConvertsTo t r mode) k f s a there joined removes names = absurd k
  leaves_one (Requests t r) k f s a there joined removes names = absurd k
  leaves_one (SetsValue t spot v) k f s a there joined removes names = absurd k
  leaves_one (GetsValue t spot) k f s a there joined removes names = absurd k

  full : (z : Decision) → DecisionFits x.setting (seen x) c z → reply_at_once z ≡ None → DeltaFacts x.setting (seen (with_input (Line text) x))
  full z f more =
      seen_full x (Line text) wake bare h (lined_part x text c wake bare says h (λ s a there joined removes names.
      either s a there joined removes names (left_or_not x.setting (seen x) c z more f)))
    where
      either : (s : Session) (a : LockspaceArg) → Contains (sessions x.setting (seen x)) s → is_joined (seen x) s ≡ true → c ≡ RemLockspace a → is_session_arg s a ≡ true → IsLeft z ⊎ (leaves_lockspace c ≡ false) → IsTrue (is_number (last_seq (seen x) s + 1))
      either s a there joined removes names (inl k) = leaves_one z k f s a there joined removes names
      either s a there joined removes names (inr other) = absurd (true_is_false (sym (ap (λ q. leaves_lockspace q) removes) ∙ other))

  walk : (z : Decision) → DeltaFacts x.setting (seen (with_input (Line text) x)) → DecisionAllowed (DeltaSince (with_input (Line text) x)) (DeltaReply (with_input (Line text) x)) (DeltaCall (with_input (Line text) x)) AnyStart (with_input (Line text) x) (next_job x.setting (seen x)) c z
      → ((n : ℕ) (a : LockspaceArg) → z ≡ Joins n a → ⊥) → DeltaDone (with_input (Line text) x) (carry_decision (next_job x.setting (seen x)) c z (with_input (Line text) x))
  walk z f may no_join =
      decision (DeltaSince w) (DeltaDone w) (DeltaReply w) (DeltaCall w) AnyStart AnyMove (allows_done w (lined_freed x text wake bare h)) w (next_job x.setting (seen x)) c z may (λ n a joins. absurd (no_join n a joins)) (delta_at w (part_of x.setting (seen w) f))

  -- of a decision that grants nothing, and of one that may grant to its session
  quiet_one : (z : Decision) → DeltaFacts x.setting (seen (with_input (Line text) x)) → DeltaDone (with_input (Line text) x) (carry_decision (next_job x.setting (seen x)) c z (with_input (Line text) x)) → OwnNumber (length (sessions x.setting (seen (with_input (Line text) x)))) z
      → HasDeltaFacts (carry_decision (next_job x.setting (seen x)) c z (with_input (Line text) x))
  quiet_one z f done own = delta_full w (carry_decision (next_job x.setting (seen x)) c z w) (length (sessions x.setting (seen w))) f done (decision_held w (next_job x.setting (seen x)) c z (length (sessions x.setting (seen w))) own) (λ s there same. no_number w s there same)

  own_one : (z : Decision) (s : Session) → DeltaFacts x.setting (seen (with_input (Line text) x)) → DeltaDone (with_input (Line text) x) (carry_decision (next_job x.setting (seen x)) c z (with_input (Line text) x)) → OwnNumber s.number z → Has (with_input (Line text) x) s
      → is_active x.setting (seen x) s ≡ true → HasDeltaFacts (carry_decision (next_job x.setting (seen x)) c z (with_input (Line text) x))
  own_one z s f done own its active =
      delta_full w (carry_decision (next_job x.setting (seen x)) c z w) s.number f done (decision_held w (next_job x.setting (seen x)) c z s.number own) (λ t there same. one_unfreed w s its (lined_unfreed x text s wake bare h its active) t there same)

  by : (z : Decision) → DecisionFits x.setting (seen x) c z → Of (Has (with_input (Line text) x)) z → reply_at_once z ≡ None → DeltaFacts x.setting (seen (with_input (Line text) x))
      → IsBegun z ⊎ DecisionAllowed (DeltaSince (with_input (Line text) x)) (DeltaReply (with_input (Line text) x)) (DeltaCall (with_input (Line text) x)) AnyStart (with_input (Line text) x) (next_job x.setting (seen x)) c z
      → HasDeltaFacts (carry_decision (next_job x.setting (seen x)) c z (with_input (Line text) x))
  by (Replies r) f q more g k = absurd (none_some r (sym more))
  by (Joins n a) f q more g k = begun_delta x text c n a h wake bare says f.0 f.1 g
  by (Leaves s) f q more g (inr may) = quiet_one (Leaves s) g (walk (Leaves s) g may (λ n a joins. joins_apart_by (Leaves s) n a refl joins)) tt
  by (ReadsArea s r) f q more g (inr may) = quiet_one (ReadsArea s r) g (walk (ReadsArea s r) g may (λ n a joins. joins_apart_by (ReadsArea s r) n a refl joins)) tt
  by (Shares s lver) f q more g (inr may) = own_one (Shares s lver) s g (walk (Shares s lver) g may (λ n a joins. joins_apart_by (Shares s lver) n a refl joins)) refl q f.0
  by (GivesUp s b) f q more g (inr may) = own_one (GivesUp s b) s g (walk (GivesUp s b) g may (λ n a joins. joins_apart_by (GivesUp s b) n a refl joins)) refl q f.0
  by (TakesOver s b) f q more g (inr may) = own_one (TakesOver s b) s g (walk (TakesOver s b) g may (λ n a joins. joins_apart_by (TakesOver s b) n a refl joins)) refl q f.0
  by (ConvertsTo s r mode) f q more g (inr may) = own_one (ConvertsTo s r mode) s g (walk (ConvertsTo s r mode) g may (λ n a joins. joins_apart_by (ConvertsTo s r mode) n a refl joins)) refl q f.0
  by (Requests s r) f q more g (inr may) = quiet_one (Requests s r) g (walk (Requests s r) g may (λ n a joins. joins_apart_by (Requests s r) n a refl joins)) tt
  by (SetsValue s spot v) f q more g (inr may) = quiet_one (SetsValue s spot v) g (walk (SetsValue s spot v) g may (λ n a joins. joins_apart_by (SetsValue s spot v) n a refl joins)) tt
  by (GetsValue s spot) f q more g (inr may) = quiet_one (GetsValue s spot) g (walk (GetsValue s spot) g may (λ n a joins. joins_apart_by (GetsValue s spot) n a refl joins)) tt
  by (Leaves s) f q more g (inl k) = absurd k
  by (ReadsArea s r) f q more g (inl k) = absurd k
  by (Shares s lver) f q more g (inl k) = absurd k
  by (GivesUp s b) f q more g (inl k) = absurd k
  by (TakesOver s b) f q more g (inl k) = absurd k
  by (ConvertsTo s r mode) f q more g (inl k) = absurd k
  by (Requests s r) f q more g (inl k) = absurd k
  by (SetsValue s spot v) f q more g (inl k) = absurd k
  by (GetsValue s spot) f q more g (inl k) = absurd k

-- ---- all acts

delta_none : (x : Step) (s : Session) (n : DeltaNext) → line_in x.input ≡ None → Whole x → DeltaAllowed (DeltaReply x) (DeltaCall x) AnyMove x s n → HasDeltaFacts (carry_delta s n x)
delta_none x s n none h may =
    grants_none x (carry_delta s n x) h (delta (DeltaSince x) (DeltaDone x) (DeltaReply x) (DeltaCall x) AnyStart AnyMove (allowed x none h) x s n may (begin_delta x h)) (held_delta x (length (sessions x.setting (seen x))) x s n (held_itself x (length (sessions x.setting (seen x)))))

lease_own : (x : Step) (s : Session) (spot : Spot) (work : Work) (n : LeaseNext) → line_in x.input ≡ None → Whole x → Has x s → free_write (calls_of (seen x) s) ≡ None → IsLateLease n → HasDeltaFacts (carry_lease s spot work n x)
lease_own x s spot work n none h has free after =
    grants_to x (carry_lease s spot work n x) s h has free
    (lease (DeltaSince x) (DeltaDone x) (DeltaReply x) (DeltaCall x) AnyStart AnyMove (allowed x none h) x s spot work n
    (lease_delta x x s spot work n has free (λ j r is. plain_reply x j r (subst (λ k. IsLateLease k) is after))) (begin_delta x h)) (held_lease x x s spot work n (held_itself x s.number))

since_none : (x y : Step) → Whole x → DeltaSince x y → HeldBy x (length (sessions x.setting (seen x))) y → HasDeltaFacts y
since_none x y h k owners = grants_none x y h (since_done x y k) owners

at_head : (x : Step) → HeldBy x (length (sessions x.setting (seen x))) x
at_head x = held_itself x (length (sessions x.setting (seen x)))

wakes_delta : (x : Step) (s : Session) (j : ℕ) → Whole x → Has x s → x.input ≡ Wake → s.job ≡ Some j → is_running (seen x) j ≡ true → HasDeltaFacts (carry_delta s (next_on_wake (delta_of_session x.setting s) x.reading (calls_of (seen x) s)) x)
wakes_delta x s j h has wake its runs =
    let n : DeltaNext = next_on_wake (delta_of_session x.setting s) x.reading (calls_of (seen x) s) in
    grants_none x (carry_delta s n x) h
    (joining_delta x s j (woken_line wake) h has its runs n (wake_late (delta_of_session x.setting s) x.reading (calls_of (seen x) s)) (inl (wake_not (delta_of_session x.setting s) x.reading (calls_of (seen x) s))))
    (held_delta x (length (sessions x.setting (seen x))) x s n (at_head x))

joins_delta : (x : Step) (s : Session) (j : ℕ) (step : JoinStep) (m : Submitted) (answer : Answer) → Hears x s m answer → m.call.purpose ≡ Joining j step → is_running (seen x) j ≡ true → Whole x
    → HasDeltaFacts (carry_delta s (next_in_joining (delta_of_session x.setting s) (generation_of (seen x) s) (calls_of (seen x) s) x.reading m step answer) x)
joins_delta x s j step m answer hears is runs h =
    let n : DeltaNext = next_in_joining (delta_of_session x.setting s) (generation_of (seen x) s) (calls_of (seen x) s) x.reading m step answer in
    grants_none x (carry_delta s n x) h
    (joining_delta x s j (told_line hears.heard) h has its runs n (joining_late (delta_of_session x.setting s) (generation_of (seen x) s) (calls_of (seen x) s) x.reading m step answer)
    (by (joins_or_not (delta_of_session x.setting s) (generation_of (seen x) s) (calls_of (seen x) s) x.reading m step answer)))
    (held_delta x (length (sessions x.setting (seen x))) x s n (at_head x))
  where
    there : Contains (submitted (seen x)) m
    there = (find_inside (λ (z : Submitted). z.call.number == hears.number) (submitted (seen x)) m hears.call).0

    has : Has x s
    has = has_heard x s m answer hears

    its : s.job ≡ Some j
    its = joining_of x s m j step (both_of x h) there hears.session is

    by : JoinsNot (next_in_joining (delta_of_session x.setting s) (generation_of (seen x) s) (calls_of (seen x) s) x.reading m step answer) ⊎ (step ≡ FirstRenewal)
        → JoinsNot (next_in_joining (delta_of_session x.setting s) (generation_of (seen x) s) (calls_of (seen x) s) x.reading m step answer) ⊎ HasNumbers (seen x) s
    by (inl never) = inl never
    by (inr first) =
        inr (joined_numbers x s m j (record {
          orderly = h.orderly;
          has = has;
          there = there;
          its = sym (number_is_place x.setting (seen x) m.call.session s hears.session);
          is = is ∙ ap (λ q. Joining j q) first;
          unjoined = running_unjoined (seen x) s j its runs;
        }))

exit_delta : (x : Step) (n : ℕ) → x.input ≡ Wake → x.effects.calls ≡ [] → Whole x → HasDeltaFacts (refuse_jobs_of n (leave_holdings n (with_input (Exit n) x)))
exit_delta x n wake bare h =
    let w : Step = with_input (Exit n) x in
    let f : DeltaFacts x.setting (seen w) = told_full x (Exit n) wake bare refl h in
    let p : DeltaPart x.setting (seen w) = part_of x.setting (seen w) f in
    let k : Allows (DeltaSince w) (DeltaDone w) (DeltaReply w) (DeltaCall w) AnyStart AnyMove = allows_done w (freed_before w refl p) in
    let l : DeltaSince w (leave_holdings n w) = left (DeltaSince w) (DeltaDone w) (DeltaReply w) (DeltaCall w) AnyStart AnyMove k w n (delta_at w p) in
    let e : DeltaSince w (refuse_jobs_of n (leave_holdings n w)) =
    exited (DeltaSince w) (DeltaDone w) (DeltaReply w) (DeltaCall w) AnyStart AnyMove k (leave_holdings n w) n (λ j there. (late_unless_told w (NoProcess n) refl, inl refl)) l
    in
    delta_full w (refuse_jobs_of n (leave_holdings n w)) (length (sessions x.setting (seen w))) f (since_done w (refuse_jobs_of n (leave_holdings n w)) e)
    (for_each_keeps (HeldBy w (length (sessions x.setting (seen w)))) (filter (is_job_of_process (seen (leave_holdings n w)) n) (running_jobs (leave_holdings n w).setting (seen (leave_holdings n w)))) (λ j. add_reply j.number (NoProcess n)) (leave_holdings n w) (λ j there z g. g)
    (held_exit w (length (sessions x.setting (seen w))) n)) (λ s there same. no_number w s there same)

spawn_delta : (x : Step) (n : ℕ) → x.input ≡ Spawned n false → Whole x → HasDeltaFacts (when_running (job_of_start (seen x) n) SpawnFault (end_holdings n x))
spawn_delta x n input h =
    let none : line_in x.input ≡ None = ap (λ i. line_in i) input in
    let y : Step = end_holdings n x in
    let k : DeltaSince x y = ended (DeltaSince x) (DeltaDone x) (DeltaReply x) (DeltaCall x) AnyStart AnyMove (allowed x none h) x n (begin_delta x h) in
    let e : DeltaSince x (when_running (job_of_start (seen x) n) SpawnFault y) = said (DeltaSince x) (DeltaDone x) (DeltaReply x) (DeltaCall x) AnyStart AnyMove (allowed x none h) y (job_of_start (seen x) n) SpawnFault (λ j is. plain_reply x j SpawnFault refl) k in
    since_none x (when_running (job_of_start (seen x) n) SpawnFault y) h e (by (job_of_start (seen x) n)) where
      by : (o : Option ℕ) → HeldBy x (length (sessions x.setting (seen x))) (when_running o SpawnFault (end_holdings n x))
      by None = held_end x (length (sessions x.setting (seen x))) n x (at_head x)
      by (Some j) = when_keeps (HeldBy x (length (sessions x.setting (seen x)))) (is_running (seen (end_holdings n x)) j) (add_reply j SpawnFault) (end_holdings n x) (λ runs g. g) (held_end x (length (sessions x.setting (seen x))) n x (at_head x))

requested_held : (x : Step) (s : Session) (j : ℕ) (bytes : List ℕ) (c : Command) (n : ℕ) → HeldBy x n (after_request_read s j bytes c x)
unfolding after_request_read
requested_held x s j bytes (Request r asked force) n = by (request_refusal x.setting.layout s.lockspace r asked force bytes) where
  by : (o : Option Reply) → HeldBy x n (elim o as (λ z. Step) [ Some why ↦ add_reply j why x | None ↦ write_request s j (owner_read x.setting.layout bytes) r asked force x ])
  by (Some why) = held_itself x n
  by None = held_itself x n
requested_held x s j bytes c n = held_itself x n

-- Signals and removals, whatever the input.
same_facts : (x y : Step) (n : ℕ) → DeltaFacts x.setting (seen x) → DeltaSince x y → HeldBy x n y → ((s : Session) → Contains (sessions x.setting (seen x)) s → s.number ≡ n → free_write (calls_of (seen x) s) ≡ None) → HasDeltaFacts y
same_facts x y n f k owners free = delta_full x y n f (since_done x y k) owners free

sent_since : (x y : Step) (q : ℕ) (signal : Signal) → DeltaSince x y → DeltaSince x (send q signal y)
sent_since x y q Kill k = since_signal x y q Kill k
sent_since x y q Term k = by (stopper_of y.setting (seen y) q) where
  by : (o : Option (List ℕ))
      → DeltaSince x (elim o as (λ z. Step) [ None ↦ add_signal q Term y | Some program ↦ add_start (record { process = next_child (seen y); program = program; job = None; stands_for = Some q }) y ])
  by None = since_signal x y q Term k
  by (Some program) = since_start x y (record { process = next_child (seen y); program = program; job = None; stands_for = Some q }) k

kills_since : (x y : Step) (signal : Signal) (s : Session) → DeltaSince x y → DeltaSince x (signal_holders signal s y)
kills_since x y signal s k = for_each_keeps (DeltaSince x) (holders_of (seen y) s) (λ q. send q signal) y (λ q there z g. sent_since x z q signal g) k

parts_delta : (x : Step) (name : List ℕ) → Whole x → HasDeltaFacts (remove_connection name x)
parts_delta x name h =
    since_none x (remove_connection name x) h (when_keeps (DeltaSince x) (is_registered x.setting (seen x) name) (add_move (Unregister name)) x (λ there k. since_move x x (Unregister name) k) (begin_delta x h))
    (held_removal x (length (sessions x.setting (seen x))) x name (at_head x))

kills_delta : (x : Step) (s : Session) → Whole x → HasDeltaFacts (signal_holders Kill s x)
kills_delta x s h = since_none x (signal_holders Kill s x) h (kills_since x x Kill s (begin_delta x h)) (held_signals x (length (sessions x.setting (seen x))) x Kill s (at_head x))

pub delta_facts_are_kept : DeltaFactsAreKept
unfolding after_value_read
delta_facts_are_kept =
    record {
      kills = λ x s has due h. kills_delta x s h;
      times_out = λ x j m wake bare runs waits late_one h.
          let r : Reply = IoTimeout m.call.number m.reading x.reading in
          since_none x (refuse j r x) h
          (refusal (DeltaSince x) (DeltaDone x) (DeltaReply x) (DeltaCall x) AnyStart AnyMove (allowed x (woken_line wake) h) x j r (late_on_wake x r wake, inl refl) (λ z is. tt) (begin_delta x h))
          (held_refusal x (length (sessions x.setting (seen x))) x j r (at_head x));
      hears = λ x number answer wake bare expected h. told_full x (Told number answer) wake bare refl h;
      counts = λ x text wake bare h. told_full x (Number text) wake bare refl h;
      exits = λ x n wake bare one h. exit_delta x n wake bare h;
      exits_as_none = λ x n wake bare none h. told_full x (Exit n) wake bare refl h;
      starts = λ x n ok wake bare expected h. told_full x (Spawned n ok) wake bare refl h;
      fails_to_start = λ x n input h. spawn_delta x n input h;
      signals_instead = λ x n o input stood h.
          let none : line_in x.input ≡ None = ap (λ i. line_in i) input in since_none x (add_signal o Term x) h ((allowed x none h).signals x o Term (begin_delta x h)) (at_head x);
      says_started = λ x n j input is runs h. replied x j (started_reply (seen x) n) (ap (λ i. line_in i) input) refl h;
      misreads = λ x text column wake bare says h. answered_full x text (Misread column) wake bare h;
      answers = λ x text c r wake bare says is h. answered_full x text r wake bare h;
      carries = λ x text c d wake bare says is more h. carried_delta x text c d h wake bare says is more;
      joins_on = λ x s j step m answer hears is runs h. joins_delta x s j step m answer hears is runs h;
      ends_joining = λ x s j step m answer hears is stops h.
          since_none x (remove_of_refused s x) h (removal_of_refused (DeltaSince x) (DeltaDone x) (DeltaReply x) (DeltaCall x) AnyStart AnyMove (allowed x (told_line hears.heard) h) x s tt (begin_delta x h))
          (held_refused x (length (sessions x.setting (seen x))) x s (at_head x));
      renewed = λ x s m answer hears is h.
          delta_none x s (next_after_renewal (is_some (recovery_of x.setting (seen x) s)) m.reading answer) (told_line hears.heard) h
          (renewed_delta x s (is_some (recovery_of x.setting (seen x) s)) m.reading answer (has_heard x s m answer hears) (heard_unfreed x s m answer h hears (ap (λ p. is_free_purpose p) is)));
      freed = λ x s j m answer hears is h. delta_none x s (next_after_free j m.call.number answer) (told_line hears.heard) h (freed_delta x s j m.call.number answer);
      shown = λ x s m bytes hears is joined begins h.
          since_none x (signal_and_refuse s None x) h
          (stopped (DeltaSince x) (DeltaDone x) (DeltaReply x) (DeltaCall x) AnyStart AnyMove (allowed x (told_line hears.heard) h) tt x s None
          (λ z k j there. (late_on_survey x s m (Read bytes) (Recovering (last_renewal z.setting (seen z) s)) h.facts.calls hears (ap (λ p. job_of p) is), inl refl)) (begin_delta x h))
          (held_stop x (length (sessions x.setting (seen x))) x s None (at_head x));
      sees = λ x s number bytes spot g has input held_one h.
          let found = find_inside (λ (z : Grant). not (is_shared z.mode)) (holdings_on (seen x) s spot) g held_one in
          grants_none x (see_request s g x) h
          ((allowed x (told_line input) h).calls x s g.path SeeRequest (request_offset x.setting.layout g.offset) (ReadSectors 1)
          (plain_call x s g.path SeeRequest (request_offset x.setting.layout g.offset) (ReadSectors 1) has (holder_unfreed x s spot g h has found.0) refl refl refl) (begin_delta x h)) (at_head x);
      leads_on = λ x s work step m answer aim hears is on aims h.
          lease_own x s (spot_of_call x.setting.layout m) work (next_of_lease x.setting (seen x) s (spot_of_call x.setting.layout m) aim m step answer) (told_line hears.heard) h (has_heard x s m answer hears)
          (heard_unfreed x s m answer h hears (ap (λ p. is_free_purpose p) is)) (lease_late (lease_place x.setting s) (known x.setting (seen x) s (spot_of_call x.setting.layout m)) aim m.call.number (lver_written m) step answer);
      fails = λ x s m j hears lone runs h. replied x j (IoFault m.call.number) (told_line hears.heard) refl h;
      has_asked = λ x s m j owner hears is runs h. replied x j Done (told_line hears.heard) refl h;
      has_set = λ x s m j hears is runs h. replied x j (set_reply m) (told_line hears.heard) (set_late m) h;
      asks = λ x s m j bytes c hears is runs reads_one h.
          grants_none x (after_request_read s j bytes c x) h
          (requested (DeltaSince x) (DeltaDone x) (DeltaReply x) (DeltaCall x) AnyStart AnyMove (allowed x (told_line hears.heard) h) x s j bytes c
          (request_delta x s j bytes c (has_heard x s m (Read bytes) hears) (heard_unfreed x s m (Read bytes) h hears (ap (λ p. is_free_purpose p) is))) (begin_delta x h))
          (requested_held x s j bytes c (length (sessions x.setting (seen x))));
      tells = λ x s m j bytes hears is runs h. replied x j (value_reply x.setting.layout bytes) (told_line hears.heard) (value_late x.setting.layout bytes) h;
      warns = λ x s m bytes g signal hears is held_one own says h.
          since_none x (send g.process signal x) h (sent (DeltaSince x) (DeltaDone x) (DeltaReply x) (DeltaCall x) AnyStart AnyMove (allowed x (told_line hears.heard) h) tt x g.process signal (begin_delta x h))
          (held_sent x (length (sessions x.setting (seen x))) x g.process signal (at_head x));
      joins_in_time = λ x s j has wake is runs h. wakes_delta x s j h has wake is runs;
      renews = λ x s has wake joined h.
          delta_none x s (next_renewal (delta_of_session x.setting s) x.reading (delta_known x.setting (seen x) s) (bits_due x.setting (calls_of (seen x) s) x.reading)) (woken_line wake) h
          (renewal_delta x s (bits_due x.setting (calls_of (seen x) s) x.reading) has (part x h));
      settles = λ x s spot has wake active whole none h.
          lease_own x s spot Settling (next_of_settling x.setting (seen x) s spot) (woken_line wake) h has
          (active_unfreed x.setting (seen x) s (part x h) (got_inside (sessions x.setting (seen x)) s.number s has) active) (settle_late x.setting (seen x) s spot);
      parts = λ x s has joined recovers_one free quiet h. parts_delta x s.lockspace h;
      frees = λ x s has joined well free quiet h. frees_full x s h has joined free quiet;
    }
