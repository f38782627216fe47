-- What the moves of an entry so far say is kept by each act, and holds once a step has begun.
use Rattle.sl_due_facts.proofs.Connections.StepsBeginSteady.{begins_steady}
use Rattle.sl_due_facts.proofs.Acts.AddedAtEnd.{contains_at}
use Rattle.sl_due_facts.proofs.Acts.InputsKeep.{has_heard}
use Rattle.sl_due_facts.specs.Acts.Acts.{Acts, Has, Hears}
use Rattle.sl_due_facts.specs.Acts.TraceSoFar.{SoFar, entry_of}
use Rattle.sl_area.specs.AreaLayout.{delta_offset}
use Rattle.sl_due.specs.DueCommands.{carry_decision}
use Rattle.sl_due.specs.CarriedDelta.{carry_delta, end_leaving, move_connection, survey}
use Rattle.sl_due.specs.DueRecovery.{begin_recoveries}
use Rattle.sl_due.specs.DueTimeOuts.{remove_connection, remove_of_refused}
use Rattle.sl_due.specs.Steps.{Step, add_call_of, add_move, add_reply, begin_step, seen, when, with_input}
use Rattle.sl_due.specs.declared.decision.Decision.TheVariants.{Joins}
use Rattle.sl_due_facts.proofs.Jobs.CallsHaveFacts.{more_is_other, sessions_bare, timely}
use Rattle.sl_due_facts.proofs.Jobs.CallsStay.{IsLate, late}
use Rattle.sl_due_facts.proofs.Jobs.JobsAreAllowed.{calls_heard, heard_answered, late_on_wake}
use Rattle.sl_due_facts.proofs.Jobs.RepliesComeAfter.{on_bool}
use Rattle.sl_due_facts.proofs.Jobs.SessionsArePresent.{joined_present}
use Rattle.sl_due_facts.proofs.Jobs.SessionsHaveJobs.{contains_either}
use Rattle.sl_due_facts.proofs.Jobs.SessionsStand.{joined_then, leaving_joined, recovery_joined}
use Rattle.sl_due_facts.specs.Jobs.JobLaws.{BeginsWith}
use Rattle.sl_run.specs.LawfulConnections.{is_covered}
use Rattle.sl_due_facts.proofs.AddedEffects.CallsGrow.{any_more, others_stay}
use Rattle.sl_due_facts.proofs.AddedEffects.JoinedCallsKeepOrder.{joined_is_covered}
use Rattle.sl_words.proofs.Lists.{any_found, contains_first, contains_map, contains_none, find_fails, find_inside, got_inside, head_is, in_map, kept_inside}
use Rattle.sl_words.proofs.Options.{none_is, some_of, some_there}
use Rattle.sl_due_facts.proofs.Connections.ConnectionEffects.{IsOtherJob, alters_call, alters_move, alters_nothing, move_same, removes_own, renews_own}
use Rattle.sl_due_facts.proofs.Connections.ConnectionFactsAreKept.{alone_joined, heard_is_joined}
use Rattle.sl_due_facts.proofs.Connections.ConnectionInputs.{claim_writes, claimed_or_same, other_marked, stage_by_ok}
use Rattle.sl_due_facts.proofs.Connections.HeardCalls.{calls_then, session_then}
use Rattle.sl_due_facts.proofs.Connections.JoiningConnections.{HeardWrite, Working, working_inside, working_unjoined, working_unrefused, writer_of}
use Rattle.sl_due_facts.proofs.Connections.JoiningDecisions.{heard_decides, heard_working, woken_decides}
use Rattle.sl_due_facts.proofs.Connections.JoiningSteps.{JoinsConnection, NoHeardWriter}
use Rattle.sl_due_facts.proofs.Connections.OtherJobs.{other_heard}
use Rattle.sl_due_facts.proofs.Connections.SessionParts.{at_work_is_present, covered_at_work}
use Rattle.sl_due_facts.proofs.Connections.SteadyActs.{all_acts, steady_allow, steady_itself}
use Rattle.sl_due_facts.proofs.Sessions.DeltaConditions.{heard_at}
use Rattle.sl_due_facts.proofs.Sessions.NameEffects.{move_present}
use Rattle.sl_due_facts.proofs.Sessions.NamesAreAllowed.{heard_mine, joined_unrefused}
use Rattle.sl_trace.specs.DeltaDecisions.{DeltaLease, join_step_of, next_by_time, delta_of_session, next_after_free, next_after_renewal, next_in_joining, next_on_wake}
use Rattle.sl_trace.specs.Sessions.{added_by, begun_in, calls_of, free_write, generation_of, has_open_write, is_call_of, is_covered_stage, is_free_purpose, is_join_call, is_joined, is_present, joined_after, joining_session, leaving_job, open_calls_of, recovery_of, refused_after, sessions, stage_in}
use Rattle.sl_trace.specs.declared.delta.DeltaNext.TheVariants.{MoveConnection, Nothing}
use Rattle.sl_trace.specs.declared.delta.DeltaNext.{DeltaNext}
use Rattle.sl_trace.specs.declared.session.Session.{Session}
use Rattle.sl_trace.specs.declared.stage.Stage.TheVariants.{Waiting}
use Rattle.sl_due_facts.specs.Facts.HeardCall.{heard_by}
use Rattle.sl_due_facts.specs.Facts.AllFacts.{Whole}
use Rattle.sl_time.specs.Times.{fail}
use Rattle.sl_trace.specs.WatchdogConnections.{is_registered, registers, unregisters}
use Rattle.sl_trace.specs.Traces.{Answered, Submitted, answered_in, is_answered_ok, is_running, is_write, mark, new_call, next_call, next_job, submitted}
use Rattle.sl_trace.specs.declared.command.Command.{Command}
use Rattle.sl_trace.specs.declared.command.LockspaceArg.{LockspaceArg}
use Rattle.sl_trace.specs.declared.effects.Call.{Call}
use Rattle.sl_trace.specs.declared.effects.JoinStep.TheVariants.{ClaimWrite, FirstRead}
use Rattle.sl_trace.specs.declared.effects.JoinStep.{JoinStep}
use Rattle.sl_trace.specs.declared.effects.Move.TheVariants.{Renew, Unregister}
use Rattle.sl_trace.specs.declared.effects.Op.TheVariants.{ReadSectors}
use Rattle.sl_trace.specs.declared.effects.Purpose.TheVariants.{Joining, Leaving, Renewal, Survey}
use Rattle.sl_trace.specs.declared.input.Answer.TheVariants.{Failed, Read, Written}
use Rattle.sl_trace.specs.declared.input.Answer.{Answer}
use Rattle.sl_trace.specs.declared.input.Input.TheVariants.{Line, Wake}
use Rattle.sl_trace.specs.declared.reply.Reply.TheVariants.{Done, IoFault, IoTimeout}
use Rattle.sl_trace.specs.declared.reply.Reply.{Reply}
use Rattle.sl_run_law.proofs.Leases.NumberLaws.{number_is_place}
use Rattle.sl_run_law.proofs.Sessions.JoiningsInTurn.{joined_before}
use Rattle.sl_run_law.proofs.Sessions.CallsAreMade.{SameCall, same_answered}
use Rattle.sl_run_law.proofs.Sessions.MarksStay.{refused_apart, refused_more}
use Rattle.sl_words.proofs.CaseLaws.{false_is_true, is_false, none_some, not_both}
use Rattle.std.proofs.Common.{ap, arith, inl, inr, refl, subst, sym, ◌∙◌}
use Rattle.std.proofs.lemmas.Bool.{eqb-true}
use Rattle.std.proofs.lemmas.Option.{slice_get_within}
use Rattle.std.proofs.lemmas.Slice.Eq.{bytes_eq-Decides}
use Rattle.std.specs.List.{list_any}
use Rattle.std.specs.Prelude.{Bool, Contains, List, None, Option, Some, [], bytes_eq, false, filter, fold, if◌then◌else◌, is_none, is_some, length, map, not, true, ℕ, ◌&&◌, ◌+◌, ◌<◌, ◌==◌, ◌∷◌, ◌≡◌, ◌≤◌, ◌⊎◌}
use Rattle.sl_due_facts.proofs.Connections.MovesAltered.{absent_closed, closed_same, closed_unjoined, moves_one, moves_seen, moves_steady, there_now}
use Rattle.sl_due_facts.proofs.Connections.JoiningMoves.{UncoveredBefore, any_split, closed_refused, closed_removed, joining_moves, refuse_moves, same_text}
use Rattle.sl_due_facts.specs.Connections.MovedSoFar.{IsClosed, MovedSoFar}

-- ---- a joining at work was there before

pub unrefused_before : (x : Step) (s : Session) (j : ℕ) → Working x s j → refused_after x.past s ≡ None
unrefused_before x s j w = by (refused_after x.past s) refl where
  by : (o : Option ℕ) → refused_after x.past s ≡ o → refused_after x.past s ≡ None
  by None is = is
  by (Some k) is = absurd (none_some k (sym (working_unrefused x s j w) ∙ refused_more (entry_of x) x.past s k is))

pub unjoined_before : (x : Step) (s : Session) (j : ℕ) → Working x s j → joined_after x.past s ≡ None
unjoined_before x s j w = joined_before (entry_of x) x.past s (joined_after x.past s) refl (working_unjoined x s j w)

heard_uncovered : (x : Step) (s : Session) (j : ℕ) (step : JoinStep) (m : Submitted) (answer : Answer) → Whole x → Hears x s m answer → m.call.purpose ≡ Joining j step → is_running (seen x) j ≡ true → UncoveredBefore x s
heard_uncovered x s j step m answer h hears is runs = (
  got_inside (sessions x.setting x.past) s.number s (session_then x s m answer hears),
  at_work_is_present x.past s (unjoined_before x s j w) (unrefused_before x s j w),
  λ uncovered quiet. is_false (is_covered x.past s) (λ covered. by (calls_of x.past s) refl (sym (covered_at_work x.past s (unjoined_before x s j w) (unrefused_before x s j w)) ∙ covered) uncovered quiet),
) where
  w : Working x s j
  w = heard_working x s j step m answer h hears is runs

  n : ℕ
  n = hears.number

  mark_one : Submitted → Submitted
  mark_one d = answered_in x.past (entry_of x) hears.number answer d

  same_call : (d : Submitted) → SameCall (answered_in x.past (entry_of x) hears.number answer d) d
  same_call d = same_answered x.past (entry_of x) hears.number answer d

  now : is_covered (seen x) s ≡ is_covered_stage (stage_in (map mark_one (calls_of x.past s)))
  now = covered_at_work (seen x) s (working_unjoined x s j w) (working_unrefused x s j w) ∙ ap (λ ms. is_covered_stage (stage_in ms)) (calls_then x s m answer hears)

  by : (ks : List Submitted) → calls_of x.past s ≡ ks → is_covered_stage (stage_in (calls_of x.past s)) ≡ true → is_covered (seen x) s ≡ false → NoHeardWriter x → ⊥
  by [] are stage uncovered quiet = false_is_true (sym (ap (λ ms. is_covered_stage (stage_in ms)) are) ∙ stage)
  by (d ∷ ds) are stage uncovered quiet = to (claimed_or_same d.call.purpose (is_answered_ok d) (is_answered_ok (mark_one d)) (sym (ap (λ ms. is_covered_stage (stage_in ms)) are) ∙ stage)) where
    mine : Contains (calls_of (seen x) s) (answered_in x.past (entry_of x) hears.number answer d)
    mine = subst (λ ms. Contains ms (mark_one d)) (sym (calls_then x s m answer hears)) (contains_map mark_one (calls_of x.past s) d (subst (λ ms. Contains ms d) (sym are) (contains_first d ds)))

    to : (is_covered_stage (stage_by_ok d.call.purpose (is_answered_ok (mark_one d))) ≡ true) ⊎ ((is_join_call ClaimWrite d.call.purpose ≡ true) × (is_answered_ok d ≡ false) × (is_answered_ok (mark_one d) ≡ true)) → ⊥
    to (inl covered) =
        not_both (is_covered (seen x) s)
        (now ∙ (ap (λ ms. is_covered_stage (stage_in (map mark_one ms))) are ∙ (ap (λ p. is_covered_stage (stage_by_ok p (is_answered_ok (mark_one d)))) (ap (λ (c : Call). c.purpose) (same_call d).call) ∙ covered))) uncovered
    to (inr claim) = number (d.call.number == n) refl where
      number : (b : Bool) → (d.call.number == n) ≡ b → ⊥
      number false other = not_both (is_answered_ok d) (ap (λ k. is_answered_ok k) (sym (other_marked x.past (entry_of x) n answer d other)) ∙ claim.2) claim.1
      number true its =
          quiet s (
            working_unjoined x s j w,
            (
              mark_one d,
              mine,
              claim_writes x s (mark_one d) h.orderly w.has (working_unjoined x s j w) mine (ap (λ (c : Call). is_join_call ClaimWrite c.purpose) (same_call d).call ∙ claim.0),
              ap (λ i. heard_by i) hears.heard ∙ ap (λ k. Some k) (sym (ap (λ (c : Call). c.number) (same_call d).call ∙ eqb-true d.call.number n its)),
            ),
          )

-- ---- on a wake a joining whose newest call is answered has made none in this entry

newest_by : (p : Submitted → Bool) (at reading : ℕ) (cs : List Call) (ms : List Submitted)
    → (filter p (fold (λ ks c. new_call at reading c ∷ ks) ms cs) ≡ filter p ms) ⊎ ((c : Call) × (rest : List Submitted) × (filter p (fold (λ ks c. new_call at reading c ∷ ks) ms cs) ≡ new_call at reading c ∷ rest))
newest_by p at reading [] ms = inl refl
newest_by p at reading (c ∷ cs) ms = by (newest_by p at reading cs (new_call at reading c ∷ ms)) (p (new_call at reading c)) refl where
  by : (filter p (fold (λ ks d. new_call at reading d ∷ ks) (new_call at reading c ∷ ms) cs) ≡ filter p (new_call at reading c ∷ ms))
      ⊎ ((d : Call) × (rest : List Submitted) × (filter p (fold (λ ks e. new_call at reading e ∷ ks) (new_call at reading c ∷ ms) cs) ≡ new_call at reading d ∷ rest))
      → (b : Bool) → p (new_call at reading c) ≡ b
      → (filter p (fold (λ ks d. new_call at reading d ∷ ks) (new_call at reading c ∷ ms) cs) ≡ filter p ms)
      ⊎ ((d : Call) × (rest : List Submitted) × (filter p (fold (λ ks e. new_call at reading e ∷ ks) (new_call at reading c ∷ ms) cs) ≡ new_call at reading d ∷ rest))
  by (inr more) b is = inr more
  by (inl same) true is = inr (c, filter p ms, same ∙ ap (λ q. if q then new_call at reading c ∷ filter p ms else filter p ms) is)
  by (inl same) false is = inl (same ∙ ap (λ q. if q then new_call at reading c ∷ filter p ms else filter p ms) is)

pub answered_before : (x : Step) (s : Session) (m : Submitted) (ms : List Submitted) (a : Answered) → x.input ≡ Wake → calls_of (seen x) s ≡ m ∷ ms → m.answer ≡ Some a → calls_of (seen x) s ≡ calls_of x.past s
answered_before x s m ms a wake are is = by (newest_by (is_call_of s) (length x.past) x.reading x.effects.calls (mark x.past (entry_of x) x.input (submitted x.past))) where
  by : (calls_of (seen x) s ≡ filter (is_call_of s) (mark x.past (entry_of x) x.input (submitted x.past))) ⊎ ((c : Call) × (rest : List Submitted) × (calls_of (seen x) s ≡ new_call (length x.past) x.reading c ∷ rest)) → calls_of (seen x) s ≡ calls_of x.past s
  by (inl same) = same ∙ ap (λ i. filter (is_call_of s) (mark x.past (entry_of x) i (submitted x.past))) wake
  by (inr new) =
      let first : new_call (length x.past) x.reading new.0 ≡ m = head_is (new_call (length x.past) x.reading new.0) m new.1 ms (sym new.2 ∙ are) in absurd (none_some a (ap (λ (k : Submitted). k.answer) first ∙ is))

pub woken_inside : (x : Step) (s : Session) → x.input ≡ Wake → Contains (sessions x.setting (seen x)) s → Contains (sessions x.setting x.past) s
woken_inside x s wake there = by (contains_either (sessions x.setting x.past) (begun_in x.setting x.past (length (sessions x.setting x.past)) (entry_of x)) s there) where
  none : (b : Bool) → (elim b as (λ z. List Session) [ false ↦ [] | true ↦ elim (added_by x.setting x.input) as (λ z. List Session) [ None ↦ [] | Some a ↦ joining_session (length (sessions x.setting x.past)) (next_job x.setting x.past) a ∷ [] ] ]) ≡ []
  none false = refl
  none true = ap (λ i. elim (added_by x.setting i) as (λ z. List Session) [ None ↦ [] | Some a ↦ joining_session (length (sessions x.setting x.past)) (next_job x.setting x.past) a ∷ [] ]) wake

  by : Contains (sessions x.setting x.past) s ⊎ Contains (begun_in x.setting x.past (length (sessions x.setting x.past)) (entry_of x)) s → Contains (sessions x.setting x.past) s
  by (inl old) = old
  by (inr new) = absurd (contains_none s (subst (λ ss. Contains ss s) (none (list_any (λ (c : Call). is_join_call FirstRead c.purpose) x.effects.calls)) new))

woken_moves : (x : Step) (s : Session) (j : ℕ) → Has x s → x.input ≡ Wake → s.job ≡ Some j → is_running (seen x) j ≡ true → Whole x → MovedSoFar x
    → MovedSoFar (carry_delta s (next_on_wake (delta_of_session x.setting s) x.reading (calls_of (seen x) s)) x)
unfolding next_on_wake carry_delta
woken_moves x s j has wake its runs h m = by (calls_of (seen x) s) refl where
  w : Working x s j
  w = record { has = has; its = its; runs = runs; names = h.facts.names; orderly = h.orderly }

  l : DeltaLease
  l = delta_of_session x.setting s

  past : calls_of (seen x) s ≡ calls_of x.past s → UncoveredBefore x s
  past same = (
    woken_inside x s wake (working_inside x s j w),
    at_work_is_present x.past s (unjoined_before x s j w) (unrefused_before x s j w),
    λ uncovered quiet. covered_at_work x.past s (unjoined_before x s j w) (unrefused_before x s j w)
        ∙ (ap (λ ms. is_covered_stage (stage_in ms)) (sym same) ∙ (sym (covered_at_work (seen x) s (working_unjoined x s j w) (working_unrefused x s j w)) ∙ uncovered)),
  )

  decided_so : JoinsConnection x s (next_on_wake (delta_of_session x.setting s) x.reading (calls_of (seen x) s))
  decided_so = woken_decides x s j h has wake its runs

  by : (ks : List Submitted) → calls_of (seen x) s ≡ ks → MovedSoFar (carry_delta s (next_on_wake (delta_of_session x.setting s) x.reading (calls_of (seen x) s)) x)
  by [] are = subst (λ qs. MovedSoFar (carry_delta s (next_on_wake (delta_of_session x.setting s) x.reading qs) x)) (sym are) m
  by (k ∷ ks) are = answered k.answer refl where
    answered : (o : Option Answered) → k.answer ≡ o → MovedSoFar (carry_delta s (next_on_wake (delta_of_session x.setting s) x.reading (calls_of (seen x) s)) x)
    answered None is =
        subst (λ qs. MovedSoFar (carry_delta s (next_on_wake (delta_of_session x.setting s) x.reading qs) x)) (sym are)
        (subst (λ (o : Option Answered). MovedSoFar (carry_delta s (elim o as (λ z. DeltaNext) [
          | None ↦ Nothing
          | Some a ↦ elim (join_step_of k.call.purpose) as (λ z. DeltaNext) [ None ↦ Nothing | Some step ↦ next_by_time (delta_of_session x.setting s) x.reading k.reading a.reading step ]
        ]) x)) (sym is) m)
    answered (Some a) is =
        joining_moves x s j (next_on_wake (delta_of_session x.setting s) x.reading (calls_of (seen x) s)) w decided_so (past (answered_before x s k ks a wake are is)) h m

-- ---- where nobody of the name is present any more

moves_away : (x : Step) (name : List ℕ) → SoFar x → ((s : Session) → Contains (sessions x.setting (seen x)) s → bytes_eq name s.lockspace ≡ true → is_present (seen x) s ≡ false) → MovedSoFar x → MovedSoFar (add_move (Unregister name) x)
moves_away x name orderly away m =
    record {
      before = m.before;
      opened = λ s there is. m.opened s there (sym (any_more (registers s.lockspace) x.effects.moves (Unregister name) refl) ∙ is);
      closed = λ s there present is. closed s there present (bytes_eq name s.lockspace) refl (any_split (unregisters s.lockspace) x.effects.moves (Unregister name) is);
    } where
      gone : (s : Session) → Contains (sessions x.setting x.past) s → bytes_eq name s.lockspace ≡ true → IsClosed (add_move (Unregister name) x) s
      gone s there same =
          let now = there_now x s there in
          record {
            unwritten = (absent_closed x s orderly now (away s now same)).unwritten;
            gone = inl (is_false (is_present (seen (add_move (Unregister name) x)) s) (λ present. not_both (is_present (seen x) s) (move_present x (Unregister name) s present) (away s now same)));
          }

      closed : (s : Session) → Contains (sessions x.setting x.past) s → is_present x.past s ≡ true → (b : Bool) → bytes_eq name s.lockspace ≡ b → (list_any (unregisters s.lockspace) x.effects.moves ≡ true) ⊎ (bytes_eq name s.lockspace ≡ true) → IsClosed (add_move (Unregister name) x) s
      closed s there present true same either = gone s there same
      closed s there present false other (inl is) = closed_same x (add_move (Unregister name) x) s refl (move_same x (Unregister name) s other) (m.closed s there present is)
      closed s there present false other (inr same) = gone s there same

ended_moves : (x : Step) (s : Session) (m : Submitted) (answer : Answer) → Hears x s m answer → Whole x → MovedSoFar x → MovedSoFar (remove_of_refused s x)
ended_moves x s m answer hears h moved = by (is_some (refused_after (seen x) s)) (has_open_write (seen x) s) refl refl where
  mine : Contains (sessions x.setting (seen x)) s
  mine = got_inside (sessions x.setting (seen x)) s.number s (has_heard x s m answer hears)

  by : (b c : Bool) → is_some (refused_after (seen x) s) ≡ b → has_open_write (seen x) s ≡ c → MovedSoFar (when (b && not c) (remove_connection s.lockspace) x)
  by false c is writes = moved
  by true true is writes = moved
  by true false is writes = either (is_registered x.setting (seen x) s.lockspace) where
    k : (k : ℕ) × (refused_after (seen x) s ≡ Some k)
    k = some_there (refused_after (seen x) s) is

    unjoined : joined_after (seen x) s ≡ None
    unjoined = refused_apart (seen x) s k.0 k.1

    w : (w : Submitted) × HeardWrite x s w
    w = writer_of x s m answer hears unjoined is

    away : (z : Session) → Contains (sessions x.setting (seen x)) z → bytes_eq s.lockspace z.lockspace ≡ true → is_present (seen x) z ≡ false
    away z there same =
        is_false (is_present (seen x) z) (λ present.
        let one : z ≡ s = h.facts.connections.writers s z w.0 mine unjoined w.1.inside w.1.writes w.1.opens there present (sym ((bytes_eq-Decides s.lockspace z.lockspace).0 same)) in
        absent (closed_refused x s unjoined is writes).gone (subst (λ q. is_present (seen x) q ≡ true) one present))
      where
        absent : (is_present (seen x) s ≡ false) ⊎ ((joined_after (seen x) s ≡ None) × (refused_after (seen x) s ≡ None) × (stage_in (calls_of (seen x) s) ≡ Waiting) × (x.input ≡ Wake → ⊥)) → is_present (seen x) s ≡ true → ⊥
        absent (inl gone) present = not_both (is_present (seen x) s) present gone
        absent (inr waits) present = none_some k.0 (sym waits.1 ∙ k.1)

    either : (b : Bool) → MovedSoFar (when b (add_move (Unregister s.lockspace)) x)
    either true = moves_away x s.lockspace h.orderly away moved
    either false = moved

-- ---- a joined session moves its connection on, or ends

renewed_moves : (x : Step) (s : Session) (m : Submitted) (answer : Answer) → Hears x s m answer → m.call.purpose ≡ Renewal → Whole x → MovedSoFar x
    → MovedSoFar (carry_delta s (next_after_renewal (is_some (recovery_of x.setting (seen x) s)) m.reading answer) x)
unfolding carry_delta
renewed_moves x s m Failed hears is h moved = moved
renewed_moves x s m (Read bytes) hears is h moved = moved
renewed_moves x s m Written hears is h moved =
    on_bool (λ n. MovedSoFar (carry_delta s n x)) (is_some (recovery_of x.setting (seen x) s)) (MoveConnection m.reading) Nothing
    (moves_one x (survey s (move_connection s m.reading x)) s h.orderly
    (record {
      setting = refl;
      before = refl;
      input = refl;
      alters = alters_call (seen x) (heard_by x.input) s (move_connection s m.reading x) s.path Survey s.offset (ReadSectors x.setting.layout.hosts) has refl (joined_unrefused (seen x) s (joined_then (seen x) s joined))
          (alters_move (seen x) (heard_by x.input) s x (Renew s.lockspace (m.reading + fail x.setting.timing)) (renews_own s.lockspace (m.reading + fail x.setting.timing)) (alters_nothing x.setting (seen x) (heard_by x.input) s));
      present = joined_present (seen x) s joined;
      alone = alone_joined x s h.facts.names has joined;
      closes = λ n away k. sym (any_more (unregisters n) x.effects.moves (Renew s.lockspace (m.reading + fail x.setting.timing)) refl) ∙ k;
      opens = λ n k. inl (sym (any_more (registers n) x.effects.moves (Renew s.lockspace (m.reading + fail x.setting.timing)) refl) ∙ k);
      own = inr ((λ c. not_both (is_joined (seen x) s) joined (closed_unjoined x s c)), λ k. sym (any_more (unregisters s.lockspace) x.effects.moves (Renew s.lockspace (m.reading + fail x.setting.timing)) refl) ∙ k);
    }) moved) moved
  where
    has : Has x s
    has = has_heard x s m Written hears

    joined : is_joined (seen x) s ≡ true
    joined = heard_is_joined x s m Written Renewal h hears is refl

-- The connection of a joined session with no write open, that was joined before, is removed where it stands; it stands.
end_moves : (x : Step) (s : Session) → Has x s → is_joined (seen x) s ≡ true → is_some (joined_after x.past s) ≡ true → has_open_write (seen x) s ≡ false → Whole x → MovedSoFar x → (b : Bool) → is_registered x.setting (seen x) s.lockspace ≡ b
    → MovedSoFar (when b (add_move (Unregister s.lockspace)) x)
end_moves x s has joined was quiet h moved false is =
    absurd (not_both (is_registered x.setting (seen x) s.lockspace) (h.facts.connections.covers s (got_inside (sessions x.setting (seen x)) s.number s has) (joined_is_covered (seen x) s joined)) is)
end_moves x s has joined was quiet h moved true is =
    moves_one x (add_move (Unregister s.lockspace) x) s h.orderly
    (record {
      setting = refl;
      before = refl;
      input = refl;
      alters = alters_move (seen x) (heard_by x.input) s x (Unregister s.lockspace) (removes_own s.lockspace) (alters_nothing x.setting (seen x) (heard_by x.input) s);
      present = joined_present (seen x) s joined;
      alone = alone_joined x s h.facts.names has joined;
      closes = λ n away k. closes n away (any_split (unregisters n) x.effects.moves (Unregister s.lockspace) k);
      opens = λ n k. inl (sym (any_more (registers n) x.effects.moves (Unregister s.lockspace) refl) ∙ k);
      own = inl (closed_removed x s was quiet);
    }) moved
  where
    closes : (n : List ℕ) → bytes_eq n s.lockspace ≡ false → (list_any (unregisters n) x.effects.moves ≡ true) ⊎ (bytes_eq s.lockspace n ≡ true) → list_any (unregisters n) x.effects.moves ≡ true
    closes n other (inl k) = k
    closes n other (inr same) = absurd (not_both (bytes_eq n s.lockspace) (same_text s.lockspace n same) other)

freed_moves : (x : Step) (s : Session) (j : ℕ) (m : Submitted) (answer : Answer) → Hears x s m answer → m.call.purpose ≡ Leaving j → Whole x → MovedSoFar x → MovedSoFar (carry_delta s (next_after_free j m.call.number answer) x)
unfolding carry_delta
freed_moves x s j m answer hears is h moved = by answer where
  has : Has x s
  has = has_heard x s m answer hears

  mine : Contains (sessions x.setting (seen x)) s
  mine = got_inside (sessions x.setting (seen x)) s.number s has

  joined : is_joined (seen x) s ≡ true
  joined = heard_is_joined x s m answer (Leaving j) h hears is refl

  other : IsOtherJob x j
  other = other_heard x s m answer j (Leaving j) h hears is refl refl

  inside : Contains (calls_of (seen x) s) m
  inside = heard_mine x s m answer hears

  -- the free that was heard is its only call that may be open
  found : (f : Submitted) × (free_write (calls_of (seen x) s) ≡ Some f)
  found = by (free_write (calls_of (seen x) s)) refl where
    by : (o : Option Submitted) → free_write (calls_of (seen x) s) ≡ o → (f : Submitted) × (free_write (calls_of (seen x) s) ≡ Some f)
    by (Some f) it = (f, it)
    by None none = absurd (not_both (is_free_purpose m.call.purpose) (ap (λ p. is_free_purpose p) is) (find_fails (λ (k : Submitted). is_free_purpose k.call.purpose) (calls_of (seen x) s) m none inside))

  was : is_some (joined_after x.past s) ≡ true
  was = let k = some_of (leaving_job x.setting (seen x) s) (h.facts.delta.frees s found.0 mine found.1).0 in leaving_joined x.setting (entry_of x) x.past s k.0 k.1

  quiet : has_open_write (seen x) s ≡ false
  quiet = is_false (has_open_write (seen x) s) (λ writes. open_one (any_found (λ (k : Submitted). is_write k.call.op) (open_calls_of (seen x) s) writes)) where
    f : Submitted
    f = found.0

    free_answered : found.0.answer ≡ None → ⊥
    free_answered none = either (h.facts.delta.before s found.0 m mine found.1 inside) where
      either : (m ≡ found.0) ⊎ ((a : Answered) × (m.answer ≡ Some a) × (a.at ≤ found.0.at)) → ⊥
      either (inl one) = heard_answered x s m answer hears (ap (λ (k : Submitted). k.answer) one ∙ none)
      either (inr answered) =
          let now : answered.0.at ≡ length x.past = heard_at x s m answer answered.0 h hears answered.1 in
          let there = kept_inside (is_call_of s) (submitted (seen x)) f (find_inside (λ (k : Submitted). is_free_purpose k.call.purpose) (calls_of (seen x) s) f found.1).0 in
          let old = in_map (answered_in x.past (entry_of x) hears.number answer) (submitted x.past) f (subst (λ ms. Contains ms f) (calls_heard x hears.number answer hears.heard hears.bare) there.0) in
          let at : f.at ≡ old.0.at = ap (λ (z : Submitted). z.at) (sym old.2) ∙ (same_answered x.past (entry_of x) hears.number answer old.0).at in
          let low : old.0.at < length x.past = (timely x.past old.0 old.1).0 in
          let most : answered.0.at ≤ f.at = answered.2 in omega (arith, now, at, low, most)

    open_one : (k : Submitted) × Contains (open_calls_of (seen x) s) k × (is_write k.call.op ≡ true) → ⊥
    open_one k = to (h.facts.delta.before s found.0 k.0 mine found.1 left.0) where
      left : Contains (calls_of (seen x) s) k.0 × (is_none k.0.answer ≡ true)
      left = kept_inside (λ (q : Submitted). is_none q.answer) (calls_of (seen x) s) k.0 k.1

      to : (k.0 ≡ found.0) ⊎ ((a : Answered) × (k.0.answer ≡ Some a) × (a.at ≤ found.0.at)) → ⊥
      to (inl one) = free_answered (ap (λ (q : Submitted). q.answer) (sym one) ∙ none_is k.0.answer left.1)
      to (inr answered) = none_some answered.0 (sym (none_is k.0.answer left.1) ∙ answered.1)

  ends : (r : Reply) → IsLate x r → MovedSoFar (end_leaving s j r x)
  ends r after = to (is_running (seen x) j) (is_registered x.setting (seen x) s.lockspace) (end_moves x s has joined was quiet h moved (is_registered x.setting (seen x) s.lockspace) refl) where
    to : (b c : Bool) → MovedSoFar (when c (add_move (Unregister s.lockspace)) x) → MovedSoFar (when b (add_reply j r) (when c (add_move (Unregister s.lockspace)) x))
    to false c k = k
    to true true k = moves_steady (add_move (Unregister s.lockspace) x) (add_reply j r (add_move (Unregister s.lockspace) x)) ((steady_allow (add_move (Unregister s.lockspace) x)).replies (add_move (Unregister s.lockspace) x) j r (after, other) (steady_itself (add_move (Unregister s.lockspace) x))) k
    to true false k = moves_steady x (add_reply j r x) ((steady_allow x).replies x j r (after, other) (steady_itself x)) k

  by : (a : Answer) → MovedSoFar (carry_delta s (next_after_free j m.call.number a) x)
  by Written = ends Done (late x Done refl)
  by Failed = ends (IoFault m.call.number) (late x (IoFault m.call.number) refl)
  by (Read bytes) = moved

-- ---- a session begins

begun_moves : (x : Step) (text : List ℕ) (c : Command) (n : ℕ) (a : LockspaceArg) → x.input ≡ Wake → x.effects.calls ≡ [] → n ≡ length (sessions x.setting (seen x)) → MovedSoFar x
    → MovedSoFar (carry_decision (next_job x.setting (seen x)) c (Joins n a) (with_input (Line text) x))
unfolding carry_decision
begun_moves x text c n a wake bare next moved =
    record { before = m.before; opened = m.opened; closed = λ s there present is. closed_same w y s refl (record { joined = refl; removed = refl; refused = refl; calls = others_stay (entry_of w) x.past made s (old_other s there) }) (m.closed s there present is) } where
      w : Step
      w = with_input (Line text) x

      m : MovedSoFar (with_input (Line text) x)
      m = moves_seen x (Line text) wake bare moved

      made : Call
      made = record { number = next_call x.setting (seen (with_input (Line text) x)); session = n; purpose = Joining (next_job x.setting (seen x)) FirstRead; path = a.path; offset = delta_offset x.setting.layout a.offset a.id; op = ReadSectors 1 }

      y : Step
      y = add_call_of n a.path (Joining (next_job x.setting (seen x)) FirstRead) (delta_offset x.setting.layout a.offset a.id) (ReadSectors 1) (with_input (Line text) x)

      last : n ≡ length (sessions x.setting x.past)
      last = next ∙ ap (λ ss. length ss) (sessions_bare x bare)

      old_other : (s : Session) → Contains (sessions x.setting x.past) s → (n == s.number) ≡ false
      old_other s there =
          let at = contains_at (sessions x.setting x.past) s there in
          let place : s.number ≡ at.0 = number_is_place x.setting x.past at.0 s at.1 in
          let low : at.0 < length (sessions x.setting x.past) = slice_get_within (sessions x.setting x.past) at.0 s at.1 in
          more_is_other s.number n (subst (λ k. k < n) (sym place) (subst (λ k. at.0 < k) (sym last) low))

-- ---- all acts

abbrev pub KnowsMoves : Step → Type 0
KnowsMoves x = Whole x × MovedSoFar x

pub moves_are_kept : Acts KnowsMoves MovedSoFar
moves_are_kept =
    all_acts KnowsMoves MovedSoFar
    (record {
      whole = λ x h. h.0;
      here = λ x h. h.1;
      steady = moves_steady;
      inputs = λ x i wake bare expected h. moves_seen x i wake bare h.1;
      times_out = λ x j m wake bare runs h. refuse_moves x j (IoTimeout m.call.number m.reading x.reading) runs (late_on_wake x (IoTimeout m.call.number m.reading x.reading) wake) refl h.0 h.1;
      begins = λ x text c n a wake bare says f h. begun_moves x text c n a wake bare f.1 h.1;
      joins_on = λ x s j step m answer hears is runs h.
          joining_moves x s j (next_in_joining (delta_of_session x.setting s) (generation_of (seen x) s) (calls_of (seen x) s) x.reading m step answer) (heard_working x s j step m answer h.0 hears is runs)
          (heard_decides x s j step m answer h.0 hears is runs) (heard_uncovered x s j step m answer h.0 hears is runs) h.0 h.1;
      ends_joining = λ x s j step m answer hears is stops h. ended_moves x s m answer hears h.0 h.1;
      renewed = λ x s m answer hears is h. renewed_moves x s m answer hears is h.0 h.1;
      freed = λ x s j m answer hears is h. freed_moves x s j m answer hears is h.0 h.1;
      joins_in_time = λ x s j has wake is runs h. woken_moves x s j has wake is runs h.0 h.1;
      parts = λ x s has joined recovers_one free quiet h.
          let b = some_there (recovery_of x.setting (seen x) s) recovers_one in
          end_moves x s has joined (recovery_joined x.setting (entry_of x) x.past s b.0 b.1) quiet h.0 h.1 (is_registered x.setting (seen x) s.lockspace) refl;
    })

-- ---- once a step has begun

pub moves_begin : BeginsWith MovedSoFar
moves_begin st past e follows w =
    moves_steady (begin_step st past e.reading) (begin_recoveries (begin_step st past e.reading)) (begins_steady st past e.reading w)
    (record {
      before = w.facts.names;
      opened = λ s there is. absurd (false_is_true is);
      closed = λ s there present is. absurd (false_is_true is);
    })
