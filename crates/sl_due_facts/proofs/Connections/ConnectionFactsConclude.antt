-- At the end of an answer's entry no connection waits for what the answer makes due.
use Rattle.sl_due_facts.proofs.Acts.InputsKeep.{has_heard}
use Rattle.sl_due_facts.proofs.Acts.LoopsKeep.{when_keeps}
use Rattle.sl_due_facts.specs.Acts.Acts.{Has, Hears, IsIdle}
use Rattle.sl_due_facts.specs.Acts.TraceSoFar.{entry_of}
use Rattle.sl_area.specs.AreaLayout.{request_offset}
use Rattle.sl_due.specs.DueAnswers.{set_reply}
use Rattle.sl_due.specs.CarriedDelta.{carry_delta, move_connection, survey}
use Rattle.sl_due.specs.DueTimeOuts.{refuse, remove_connection, remove_of_refused}
use Rattle.sl_due.specs.DueRecovery.{send, signal_and_refuse}
use Rattle.sl_due.specs.CarriedLease.{carry_lease, next_of_lease}
use Rattle.sl_due.specs.DueRequests.{after_request_read, after_value_read, value_reply}
use Rattle.sl_due.specs.Steps.{Step, add_move, add_reply, add_signal, seen, when, with_input, with_some}
use Rattle.sl_due_facts.proofs.Jobs.CallsOfJobsFit.{joining_of}
use Rattle.sl_due_facts.proofs.Jobs.CallsStay.{IsLate, calls_stay, is_special, late}
use Rattle.sl_due_facts.proofs.Jobs.EffectsAreAllowed.{Allows, delta, lease, removal_of_refused, requested, sent, stopped}
use Rattle.sl_due_facts.proofs.Jobs.JobsAreAllowed.{heard_answered, late_on_survey}
use Rattle.sl_due_facts.proofs.Jobs.NearlyPlainActs.{AnyMove, AnyStart}
use Rattle.sl_due_facts.proofs.Jobs.RepliesComeAfter.{IsLateDelta, IsLateLease, joining_late, lease_late, on_bool, on_option, set_late, value_late}
use Rattle.sl_due_facts.proofs.Jobs.SessionsArePresent.{session_has}
use Rattle.sl_due_facts.proofs.Jobs.SessionsHaveJobs.{one_session}
use Rattle.sl_due_facts.proofs.Jobs.SessionsStand.{recovery_joined}
use Rattle.sl_due_facts.specs.Jobs.JobLaws.{HasCallFacts}
use Rattle.sl_run.specs.LawfulConnections.{is_covered}
use Rattle.sl_trace.specs.LeaseDecisions.{lease_place}
use Rattle.sl_trace.specs.Leases.{holdings_on, known, lver_written, spot_of_call}
use Rattle.sl_trace.specs.declared.lease.LeaseNext.{LeaseNext}
use Rattle.sl_words.proofs.Lists.{any_found, any_of, contains_map, contains_more, find_fails, find_inside, got_inside, kept, kept_inside}
use Rattle.sl_words.proofs.Numbers.{number_itself}
use Rattle.sl_words.proofs.Options.{some_of, some_there}
use Rattle.sl_sector.specs.Bitmaps.{no_bits}
use Rattle.sl_sector.specs.declared.sector.DeltaRec.{DeltaRec}
use Rattle.sl_sector.specs.declared.sector.DeltaState.TheVariants.{Free}
use Rattle.sl_sector.specs.declared.sector.Rec.TheVariants.{DeltaIs}
use Rattle.sl_due_facts.proofs.Connections.ConnectionEffects.{alters_move, alters_nothing, removed_away, removes_own}
use Rattle.sl_due_facts.proofs.Connections.ConnectionFactsAreKept.{alone_joined, connection_facts_are_kept, holder_is_joined, lone_other_job, removed_uncovered}
use Rattle.sl_due_facts.proofs.Connections.ConnectionWalk.{joined_call}
use Rattle.sl_due_facts.proofs.Connections.ConnectionsChange.{altered_away}
use Rattle.sl_due_facts.proofs.Connections.HeardCalls.{heard_before, newest_heard, session_then}
use Rattle.sl_due_facts.proofs.Connections.JoiningConnections.{Working, refused_by_reply, working_inside, working_turn, working_unjoined}
use Rattle.sl_due_facts.proofs.Connections.JoiningDecisions.{heard_working}
use Rattle.sl_due_facts.specs.Connections.ConnectionLaws.{ConnectionFactsConclude, HasConnectionFacts, HasConnectionsPlainly}
use Rattle.sl_due_facts.proofs.Sessions.NameActs.{joined_by_reply}
use Rattle.sl_due_facts.proofs.Sessions.NameEffects.{joined_of, refused_of}
use Rattle.sl_due_facts.proofs.Sessions.NameFactsConclude.{fitting}
use Rattle.sl_due_facts.proofs.Sessions.NamesAreAllowed.{NameCall, NameReply, caller_joined, freed_named, heard_joined, heard_mine, is_joining, lease_named, renewed_named, request_named}
use Rattle.sl_due_facts.proofs.Sessions.NamesAtEnd.{Growing, below_of, growing_itself, grows, grows_joining}
use Rattle.sl_due_facts.specs.Sessions.SessionLaws.{HasNameFacts}
use Rattle.sl_trace.specs.Sessions.{calls_of, generation_of, has_open_write, is_call_of, is_join_call, is_join_done, is_joined, is_present, joined_after, last_renewal, open_calls_of, recovery_of, refused_after, removed_after, session_numbered, session_of_job, sessions}
use Rattle.sl_trace.specs.declared.delta.DeltaKnown.{DeltaKnown}
use Rattle.sl_trace.specs.declared.delta.DeltaNext.TheVariants.{Nothing, WriteFree}
use Rattle.sl_trace.specs.declared.delta.DeltaNext.{DeltaNext}
use Rattle.sl_trace.specs.declared.session.Session.{Session}
use Rattle.sl_due_facts.specs.Facts.HeardCall.{IsOpen, heard_by}
use Rattle.sl_due_facts.specs.Facts.SessionFacts.{IsHeardWriter}
use Rattle.sl_due_facts.specs.Facts.AllFacts.{Whole}
use Rattle.sl_trace.specs.WatchdogConnections.{is_registered}
use Rattle.sl_trace.specs.Traces.{Answered, Replied, Submitted, answered_in, call_numbered, is_answer_for, is_expected, is_running, is_shared, is_write, job_of, mark, new_call, next_call, outstanding, reply_to, submitted, unanswered}
use Rattle.sl_trace.specs.declared.effects.Call.{Call}
use Rattle.sl_trace.specs.declared.effects.Grant.{Grant}
use Rattle.sl_trace.specs.declared.effects.JoinStep.TheVariants.{ClaimWrite, DecidingRead, FirstRead, FirstRenewal, VerifyRead, WatchRead}
use Rattle.sl_trace.specs.declared.effects.JoinStep.{JoinStep}
use Rattle.sl_trace.specs.declared.effects.Move.TheVariants.{Unregister}
use Rattle.sl_trace.specs.declared.effects.Op.TheVariants.{ReadSectors, WriteRecord}
use Rattle.sl_trace.specs.declared.effects.Op.{Op}
use Rattle.sl_trace.specs.declared.effects.Purpose.TheVariants.{Joining, Lease, Leaving, Renewal, RequestRead, RequestWrite, SeeRequest, Survey, ValueRead, ValueWrite}
use Rattle.sl_trace.specs.declared.effects.Purpose.{Purpose}
use Rattle.sl_trace.specs.declared.effects.Signal.{Signal}
use Rattle.sl_trace.specs.declared.effects.Spot.{Spot}
use Rattle.sl_trace.specs.declared.input.Answer.TheVariants.{Failed, Read, Written}
use Rattle.sl_trace.specs.declared.input.Answer.{Answer}
use Rattle.sl_trace.specs.declared.input.Input.TheVariants.{Answer as Told, Wake}
use Rattle.sl_trace.specs.declared.reply.Reply.TheVariants.{Done, Generation, IoFault, Recovering}
use Rattle.sl_trace.specs.declared.reply.Reply.{Reply}
use Rattle.sl_run_law.proofs.Sessions.WritesAreCovered.{joinings_are_in_turn}
use Rattle.sl_run_law.proofs.Sessions.JoiningsInTurn.{done_unanswered}
use Rattle.sl_run_law.proofs.Sessions.CallsAreMade.{SameCall, same_answered}
use Rattle.sl_run_law.proofs.Sessions.MarksStay.{joined_more}
use Rattle.sl_run_law.specs.Sessions.SessionLaws.{all_done, fits, fits_as, is_in_turn}
use Rattle.sl_words.proofs.CaseLaws.{false_is_true, none_some, not_both, one_value, some_value, true_is_false}
use Rattle.sl_words.proofs.WordLaws.{and_true}
use Rattle.sl_words.specs.Words.{choose, some_is}
use Rattle.std.proofs.Common.{ap, ap₂, inl, inr, refl, subst, sym, ◌∙◌}
use Rattle.std.proofs.lemmas.Bool.{eqb-true}
use Rattle.std.specs.List.{list_any}
use Rattle.std.specs.Prelude.{Bool, Contains, IsTrue, List, None, Option, Some, [], false, filter, fold, if◌then◌else◌, is_none, is_some, length, not, option_and_then, true, ℕ, ◌&&◌, ◌+◌, ◌<◌, ◌==◌, ◌||◌, ◌∷◌, ◌≡◌, ◌⊎◌}
use Rattle.sl_trace.specs.DeltaDecisions.{delta_known, delta_of_session, delta_record, next_after_free, next_after_renewal, next_free, next_in_joining, own_offset}
use Rattle.sl_due_facts.proofs.Jobs.AnsweredCallsFit.{at, both_of}

-- ---- what an act leaves of calls and sessions

pub record Ahead (x y : Step) : Type 0 where
  pub setting : y.setting ≡ x.setting
  pub before : y.past ≡ x.past
  pub input : y.input ≡ x.input
  pub all : sessions y.setting (seen y) ≡ sessions x.setting (seen x)
  pub calls : (m : Submitted) → Contains (submitted (seen y)) m → m.call.number < next_call x.setting (seen x) → Contains (submitted (seen x)) m

ahead : (x y : Step) → Growing x y → Ahead x y
ahead x y h = record { setting = h.setting; before = h.before; input = h.input; all = h.sessions; calls = λ m there below. subst (λ ms. Contains ms m) h.calls there }

ahead_itself : (x : Step) → Ahead x x
ahead_itself x = ahead x x (growing_itself x)

goes_ahead : (x : Step) (C : Session → List ℕ → Purpose → ℕ → Op → Type 0) → ((s : Session) (path : List ℕ) (p : Purpose) (o : ℕ) (op : Op) → C s path p o op → is_join_call FirstRead p ≡ false)
    → Allows (Growing x) (Ahead x) (NameReply x) C AnyStart AnyMove
goes_ahead x C c =
    let g = grows x C c in
    record {
      ends = g.ends;
      signals = g.signals;
      moves = g.moves;
      grants = g.grants;
      starts = g.starts;
      replies = g.replies;
      calls = λ y s path p o op may h. let k = g.calls y s path p o op may h in record { setting = h.setting; before = h.before; input = h.input; all = k.sessions; calls = k.calls };
      rest = λ y h. ahead x y h;
    }

goes_named : (x : Step) → Allows (Growing x) (Ahead x) (NameReply x) (NameCall x) AnyStart AnyMove
goes_named x = goes_ahead x (NameCall x) (λ s path p o op may. may.2)

-- ---- plain where no writer was heard whose connection stands

plain_connections : (y : Step) → HasConnectionFacts y → ((z : Session) → Contains (sessions y.setting (seen y)) z → IsHeardWriter (seen y) (heard_by y.input) z → is_registered y.setting (seen y) z.lockspace ≡ true → ⊥) → HasConnectionsPlainly y
plain_connections y h well =
    record {
      covers = h.covers;
      needed = λ name is. needed name is (h.needed name is);
      joined = h.joined;
      joining = h.joining;
      writers = λ s z m there none inside writes opens also is same. h.writers s z m there none inside writes (opened m opens) also is same;
    } where
      opened : (m : Submitted) → IsOpen (seen y) None m → IsOpen (seen y) (heard_by y.input) m
      opened m (inl none) = inl none
      opened m (inr both) = absurd (none_some m.call.number both.0)

      needed : (name : List ℕ) → is_registered y.setting (seen y) name ≡ true
          → (z : Session) × Contains (sessions y.setting (seen y)) z × (z.lockspace ≡ name) × ((is_covered (seen y) z ≡ true) ⊎ IsHeardWriter (seen y) (heard_by y.input) z)
          → (z : Session) × Contains (sessions y.setting (seen y)) z × (z.lockspace ≡ name) × ((is_covered (seen y) z ≡ true) ⊎ IsHeardWriter (seen y) None z)
      needed name is n = (n.0, n.1, n.2, by n.3) where
        by : (is_covered (seen y) n.0 ≡ true) ⊎ IsHeardWriter (seen y) (heard_by y.input) n.0 → (is_covered (seen y) n.0 ≡ true) ⊎ IsHeardWriter (seen y) None n.0
        by (inl covered) = inl covered
        by (inr writer) = absurd (well n.0 n.1 writer (subst (λ q. is_registered y.setting (seen y) q ≡ true) (sym n.2) is))

-- The writer that was heard is the session of the heard call.
pub record HeardFor (x : Step) (s z : Session) (m w : Submitted) : Type 0 where
  pub call : w ≡ m
  pub session : z ≡ s

heard_for : (x y : Step) (n : ℕ) (answer : Answer) (s z : Session) (m : Submitted) → x.input ≡ Told n answer → call_numbered (seen x) n ≡ Some m → session_numbered x.setting (seen x) m.call.session ≡ Some s → HasCallFacts x → Ahead x y
    → Contains (sessions y.setting (seen y)) z → (w : IsHeardWriter (seen y) (heard_by y.input) z) → HeardFor x s z m w.1.0
heard_for x y n answer s z m told found session f g there w =
    let mine = kept_inside (is_call_of z) (submitted (seen y)) w.1.0 w.1.1 in
    let number : n ≡ w.1.0.call.number = some_value n w.1.0.call.number (ap (λ i. heard_by i) (sym (g.input ∙ told)) ∙ w.1.3) in
    let low : w.1.0.call.number < next_call x.setting (seen x) = subst (λ q. q < next_call x.setting (seen x)) number (below_of x n m f found) in
    let old : Contains (submitted (seen x)) w.1.0 = g.calls w.1.0 mine.0 low in
    let one : w.1.0 ≡ m = one_value w.1.0 m (call_numbered (seen x) n) (subst (λ q. call_numbered (seen x) q ≡ Some w.1.0) (sym number) (f.found w.1.0 old)) found in
    let its : z.number ≡ m.call.session = sym (eqb-true w.1.0.call.session z.number mine.1) ∙ ap (λ (q : Submitted). q.call.session) one in
    record {
      call = one;
      session = one_value z s (session_numbered x.setting (seen x) m.call.session)
          (subst (λ q. session_numbered x.setting (seen x) q ≡ Some z) its (session_has x.setting (seen x) z (subst (λ ss. Contains ss z) g.all there))) session;
    }

-- A heard call that is none of a joining: its session was joined before.
pub joined_then_by : (x : Step) (s : Session) (m : Submitted) (answer : Answer) → Whole x → Hears x s m answer → is_joining m.call.purpose ≡ false → is_some (joined_after x.past s) ≡ true
joined_then_by x s m answer h hears other =
    let d = heard_before x s m answer h hears in
    let same = (same_answered x.past (entry_of x) hears.number answer d.0).call in
    let mine : Contains (calls_of x.past s) d.0 = kept (is_call_of s) (submitted x.past) d.0
    (ap (λ (c : Call). c.session == s.number) (sym same) ∙ (ap (λ (k : Submitted). k.call.session == s.number) d.1.marked ∙ (kept_inside (is_call_of s) (submitted (seen x)) m (heard_mine x s m answer hears)).1)) d.1.inside
    in
    caller_joined x.setting x.past s d.0 h.before.orderly (session_then x s m answer hears) mine
    (λ j step is. true_is_false (ap (λ p. is_joining p) (sym is ∙ (ap (λ (c : Call). c.purpose) (sym same) ∙ ap (λ (k : Submitted). k.call.purpose) d.1.marked)) ∙ other))

joined_after_then : (x y : Step) (s : Session) → Ahead x y → is_some (joined_after x.past s) ≡ true → joined_after (seen y) s ≡ None → ⊥
joined_after_then x y s g was none =
    let k = some_there (joined_after y.past s) (subst (λ es. is_some (joined_after es s) ≡ true) (sym g.before) was) in
    none_some k.0 (sym none ∙ joined_more (entry_of y) y.past s k.0 k.1)

plain_other_call : (x y : Step) (s : Session) (m : Submitted) (answer : Answer) → Whole x → Hears x s m answer → is_joining m.call.purpose ≡ false → HasConnectionFacts y → Ahead x y → HasConnectionsPlainly y
plain_other_call x y s m answer h hears other part g =
    plain_connections y part (λ z there w stands.
    let for = heard_for x y hears.number answer s z m hears.heard hears.call hears.session h.facts.calls g there w in
    joined_after_then x y s g (joined_then_by x s m answer h hears other) (subst (λ q. joined_after (seen y) q ≡ None) for.session w.0))

-- ---- a joining's answer

-- Once the newest call of a joining is answered none of it is open.
none_open : (x : Step) (s : Session) (m : Submitted) (answer : Answer) → Whole x → Hears x s m answer → joined_after (seen x) s ≡ None → has_open_write (seen x) s ≡ false
none_open x s m answer h hears none =
    let newest = newest_heard x s m answer h hears none in
    let turn = subst (λ ks. is_in_turn ks ≡ true) newest.1 (joinings_are_in_turn x.setting (seen x) s h.orderly (has_heard x s m answer hears) none) in
    let both = and_true (fits m) (all_done newest.0) turn in
    ap (λ ms. list_any (λ (k : Submitted). is_write k.call.op) (unanswered ms)) newest.1 ∙ by (all_done newest.0) newest.0 both.1 where
      by : (b : Bool) (ms : List Submitted) → all_done ms ≡ true → list_any (λ (k : Submitted). is_write k.call.op) (unanswered (m ∷ ms)) ≡ false
      by b ms done = gone m.answer refl where
        gone : (o : Option Answered) → m.answer ≡ o → list_any (λ (k : Submitted). is_write k.call.op) (unanswered (m ∷ ms)) ≡ false
        gone None is = absurd (heard_answered x s m answer hears is)
        gone (Some a) is =
            ap (λ o. list_any (λ (k : Submitted). is_write k.call.op) (if is_none o then m ∷ unanswered ms else unanswered ms)) is ∙ ap (λ ks. list_any (λ (k : Submitted). is_write k.call.op) ks) (done_unanswered ms done)

-- A removed connection isn't registered.
removed_gone : (y : Step) (name : List ℕ) → is_registered (remove_connection name y).setting (seen (remove_connection name y)) name ≡ false
removed_gone y name = by (is_registered y.setting (seen y) name) refl where
  by : (b : Bool) → is_registered y.setting (seen y) name ≡ b → is_registered (when b (add_move (Unregister name)) y).setting (seen (when b (add_move (Unregister name)) y)) name ≡ false
  by true is = ap (λ o. is_some o) (removed_away y name)
  by false is = is

-- A refused joining with no write open has lost its connection.
refused_gone : (y : Step) (s : Session) → is_some (refused_after (seen y) s) ≡ true → has_open_write (seen y) s ≡ false → is_registered (remove_of_refused s y).setting (seen (remove_of_refused s y)) s.lockspace ≡ false
refused_gone y s refused quiet = by (is_some (refused_after (seen y) s)) (has_open_write (seen y) s) refused quiet where
  by : (b c : Bool) → b ≡ true → c ≡ false → is_registered (when (b && not c) (remove_connection s.lockspace) y).setting (seen (when (b && not c) (remove_connection s.lockspace) y)) s.lockspace ≡ false
  by true false is none = removed_gone y s.lockspace
  by true true is none = absurd (true_is_false none)
  by false c is none = absurd (false_is_true is)

refuse_gone : (x : Step) (s : Session) (j : ℕ) (r : Reply) → Working x s j → IsLate x r → is_join_done r ≡ false → has_open_write (seen x) s ≡ false → is_registered (refuse j r x).setting (seen (refuse j r x)) s.lockspace ≡ false
unfolding refuse
refuse_gone x s j r w after other quiet =
    subst (λ o. is_registered (with_some o remove_of_refused (add_reply j r x)).setting (seen (with_some o remove_of_refused (add_reply j r x))) s.lockspace ≡ false) (sym its)
    (refused_gone (add_reply j r x) s (refused_by_reply x s j r w.its w.runs other)
    (ap (λ ms. list_any (λ (m : Submitted). is_write m.call.op) (unanswered (filter (is_call_of s) ms))) (calls_stay x j r after) ∙ quiet))
  where
    mine : Contains (sessions x.setting (seen x)) s
    mine = working_inside x s j w

    its : session_of_job x.setting (seen x) j ≡ Some s
    its = by (session_of_job x.setting (seen x) j) refl where
      of : (o : Option ℕ) → some_is (λ i. i == j) o ≡ true → o ≡ Some j
      of None is = absurd (false_is_true is)
      of (Some i) is = ap (λ n. Some n) (eqb-true i j is)

      by : (o : Option Session) → session_of_job x.setting (seen x) j ≡ o → session_of_job x.setting (seen x) j ≡ Some s
      by None none =
          absurd (not_both (some_is (λ i. i == j) s.job) (ap (λ o. some_is (λ i. i == j) o) w.its ∙ number_itself j) (find_fails (λ (q : Session). some_is (λ i. i == j) q.job) (sessions x.setting (seen x)) s none mine))
      by (Some z) is =
          let found = find_inside (λ (q : Session). some_is (λ i. i == j) q.job) (sessions x.setting (seen x)) z is in
          is ∙ ap (λ q. Some q) (one_session x.setting (seen x) z s j found.0 mine (of z.job found.1) w.its)

-- What a joining's write makes due, as far as the connection goes: it is gone, or the session has joined.
write_done : (x : Step) (s : Session) (j : ℕ) (step : JoinStep) (m : Submitted) (answer : Answer) → Whole x → Hears x s m answer → m.call.purpose ≡ Joining j step → is_running (seen x) j ≡ true → is_write m.call.op ≡ true
    → (is_registered (carry_delta s (next_in_joining (delta_of_session x.setting s) (generation_of (seen x) s) (calls_of (seen x) s) x.reading m step answer) x).setting
    (seen (carry_delta s (next_in_joining (delta_of_session x.setting s) (generation_of (seen x) s) (calls_of (seen x) s) x.reading m step answer) x)) s.lockspace ≡ true)
    → joined_after (seen (carry_delta s (next_in_joining (delta_of_session x.setting s) (generation_of (seen x) s) (calls_of (seen x) s) x.reading m step answer) x)) s ≡ None → ⊥
unfolding next_in_joining carry_delta
write_done x s j step m answer h hears is runs writes = by step answer is (fitting x s m answer h hears) where
  w : Working x s j
  w = heard_working x s j step m answer h hears is runs

  newest : (ms : List Submitted) × (calls_of (seen x) s ≡ m ∷ ms)
  newest = newest_heard x s m answer h hears (working_unjoined x s j w)

  fits_it : fits_as m.call.purpose (is_write m.call.op) ≡ true
  fits_it = (and_true (fits m) (all_done newest.0) (subst (λ ks. is_in_turn ks ≡ true) newest.1 (working_turn x s j w))).0

  -- a read doesn't write
  no_read : (p : Purpose) → m.call.purpose ≡ p → fits_as p true ≡ false → ⊥
  no_read p its never = not_both (fits_as p true) (sym (ap₂ (λ q b. fits_as q b) its writes) ∙ fits_it) never

  written_not : (b : List ℕ) (o : Op) → is_write o ≡ true → is_answer_for x.setting (Read b) o ≡ true → ⊥
  written_not b (ReadSectors n) w f = false_is_true w
  written_not b (WriteRecord r) w f = false_is_true f

  by : (at : JoinStep) (a : Answer) → m.call.purpose ≡ Joining j at → is_answer_for x.setting a m.call.op ≡ true
      → is_registered (carry_delta s (next_in_joining (delta_of_session x.setting s) (generation_of (seen x) s) (calls_of (seen x) s) x.reading m at a) x).setting
      (seen (carry_delta s (next_in_joining (delta_of_session x.setting s) (generation_of (seen x) s) (calls_of (seen x) s) x.reading m at a) x)) s.lockspace ≡ true
      → joined_after (seen (carry_delta s (next_in_joining (delta_of_session x.setting s) (generation_of (seen x) s) (calls_of (seen x) s) x.reading m at a) x)) s ≡ None → ⊥
  by at Failed its f stands none =
      not_both (is_registered (refuse j (IoFault m.call.number) x).setting (seen (refuse j (IoFault m.call.number) x)) s.lockspace)
      (subst (λ o. is_registered (with_some o (λ i. refuse i (IoFault m.call.number)) x).setting (seen (with_some o (λ i. refuse i (IoFault m.call.number)) x)) s.lockspace ≡ true) w.its stands)
      (refuse_gone x s j (IoFault m.call.number) w (late x (IoFault m.call.number) refl) refl (none_open x s m answer h hears (working_unjoined x s j w)))
  by at (Read b) its f stands none = written_not b m.call.op writes f
  by ClaimWrite Written its f stands none = not_both (is_registered (remove_connection s.lockspace x).setting (seen (remove_connection s.lockspace x)) s.lockspace) stands (removed_gone x s.lockspace)
  by FirstRenewal Written its f stands none =
      not_both (is_some (joined_after (seen (add_reply j (Generation (generation_of (seen x) s)) (move_connection s m.reading x))) s)) (joined_by_reply (move_connection s m.reading x) s j (generation_of (seen x) s) w.its w.runs)
      (ap (λ o. is_some o) (subst (λ o. joined_after (seen (with_some o (λ i y. survey s (add_reply i (Generation (generation_of (seen x) s)) (move_connection s m.reading y))) x)) s ≡ None) w.its none))
  by FirstRead Written its f stands none = no_read (Joining j FirstRead) its refl
  by WatchRead Written its f stands none = no_read (Joining j WatchRead) its refl
  by DecidingRead Written its f stands none = no_read (Joining j DecidingRead) its refl
  by VerifyRead Written its f stands none = no_read (Joining j VerifyRead) its refl

ahead_joining : (x : Step) (s : Session) (n : DeltaNext) → IsLateDelta n → Ahead x (carry_delta s n x)
ahead_joining x s n k =
    delta (Growing x) (Ahead x) (NameReply x) (λ z path p o op. is_join_call FirstRead p ≡ false) AnyStart AnyMove (goes_ahead x (λ z path p o op. is_join_call FirstRead p ≡ false) (λ z path p o op may. may)) x s n
    (grows_joining x s n (λ r after. late x r after) k) (growing_itself x)

joins_plainly : (x : Step) (s : Session) (j : ℕ) (step : JoinStep) (m : Submitted) (answer : Answer) → Hears x s m answer → m.call.purpose ≡ Joining j step → is_running (seen x) j ≡ true → Whole x
    → HasConnectionsPlainly (carry_delta s (next_in_joining (delta_of_session x.setting s) (generation_of (seen x) s) (calls_of (seen x) s) x.reading m step answer) x)
joins_plainly x s j step m answer hears is runs h =
    let n : DeltaNext = next_in_joining (delta_of_session x.setting s) (generation_of (seen x) s) (calls_of (seen x) s) x.reading m step answer in
    let y : Step = carry_delta s n x in
    plain_connections y (connection_facts_are_kept.joins_on x s j step m answer hears is runs h) (λ z there w stands.
    let for = heard_for x y hears.number answer s z m hears.heard hears.call hears.session h.facts.calls (ahead_joining x s n (joining_late (delta_of_session x.setting s) (generation_of (seen x) s) (calls_of (seen x) s) x.reading m step answer)) there w in
    write_done x s j step m answer h hears is runs (subst (λ (k : Submitted). is_write k.call.op ≡ true) for.call w.1.2) (subst (λ (q : Session). is_registered y.setting (seen y) q.lockspace ≡ true) for.session stands)
    (subst (λ q. joined_after (seen y) q ≡ None) for.session w.0))

-- Of a joining that was refused.
ended_plainly : (x : Step) (s : Session) (j : ℕ) (step : JoinStep) (m : Submitted) (answer : Answer) → Hears x s m answer → m.call.purpose ≡ Joining j step → is_running (seen x) j ≡ false → Whole x → HasConnectionsPlainly (remove_of_refused s x)
ended_plainly x s j step m answer hears is stops h =
    plain_connections y (connection_facts_are_kept.ends_joining x s j step m answer hears is stops h) (λ z there w stands.
    let for = heard_for x y hears.number answer s z m hears.heard hears.call hears.session h.facts.calls walked there w in
    never (joined_after (seen x) s) refl (subst (λ (q : Session). is_registered y.setting (seen y) q.lockspace ≡ true) for.session stands) (subst (λ q. joined_after (seen y) q ≡ None) for.session w.0))
  where
    y : Step
    y = remove_of_refused s x

    walked : Ahead x (remove_of_refused s x)
    walked = ahead x (remove_of_refused s x) (removal_of_refused (Growing x) (Ahead x) (NameReply x) (NameCall x) AnyStart AnyMove (goes_named x) x s tt (growing_itself x))

    its : s.job ≡ Some j
    its = joining_of x s m j step (both_of x h) (find_inside (λ (z : Submitted). z.call.number == hears.number) (submitted (seen x)) m hears.call).0 hears.session is

    joined_still : (k : ℕ) → joined_after (seen x) s ≡ Some k → is_some (joined_after (seen (remove_of_refused s x)) s) ≡ true
    joined_still k joined =
        when_keeps (λ z. is_some (joined_after (seen z) s) ≡ true) (is_some (refused_after (seen x) s) && not (has_open_write (seen x) s)) (remove_connection s.lockspace) x
        (λ go f. when_keeps (λ z. is_some (joined_after (seen z) s) ≡ true) (is_registered x.setting (seen x) s.lockspace) (add_move (Unregister s.lockspace)) x (λ there g. g) f) (ap (λ o. is_some o) joined)

    refused : (o : Option Replied) → reply_to (seen x) j ≡ o → joined_after (seen x) s ≡ None → is_some (refused_after (seen x) s) ≡ true
    refused None told none = absurd (not_both (is_running (seen x) j) (ap (λ o. is_none o) told) stops)
    refused (Some r) told none = by (is_join_done r.reply) refl where
      by : (b : Bool) → is_join_done r.reply ≡ b → is_some (refused_after (seen x) s) ≡ true
      by true joins =
          absurd (none_some (r.at + 1) (sym none ∙ (joined_of (seen x) s j its ∙ (ap (λ o. option_and_then (λ (q : Replied). choose (is_join_done q.reply) (q.at + 1)) o) told ∙ ap (λ b. choose b (r.at + 1)) joins))))
      by false refuses =
          ap (λ o. is_some o) (refused_of (seen x) s j its ∙ (ap (λ o. option_and_then (λ (q : Replied). choose (not (is_join_done q.reply)) (q.at + 1)) o) told ∙ ap (λ b. choose (not b) (r.at + 1)) refuses))

    never : (o : Option ℕ) → joined_after (seen x) s ≡ o → is_registered (remove_of_refused s x).setting (seen (remove_of_refused s x)) s.lockspace ≡ true → joined_after (seen (remove_of_refused s x)) s ≡ None → ⊥
    never (Some k) joined stands none = not_both (is_some (joined_after (seen (remove_of_refused s x)) s)) (joined_still k joined) (ap (λ o. is_some o) none)
    never None unjoined stands none =
        not_both (is_registered (remove_of_refused s x).setting (seen (remove_of_refused s x)) s.lockspace) stands
        (refused_gone x s (refused (reply_to (seen x) j) refl unjoined) (none_open x s m answer h hears unjoined))

-- ---- where nothing is done

idle_plainly : (x : Step) (s : Session) (m : Submitted) (answer : Answer) → Hears x s m answer → (p : Purpose) → m.call.purpose ≡ p → IsIdle x s m answer p → Whole x → HasConnectionsPlainly x
idle_plainly x s m answer hears (Joining j step) is idle h = absurd idle
idle_plainly x s m answer hears Renewal is idle h = absurd idle
idle_plainly x s m answer hears (Leaving j) is idle h = absurd idle
idle_plainly x s m answer hears Survey is idle h = plain_other_call x x s m answer h hears (ap (λ p. is_joining p) is) h.facts.connections (ahead_itself x)
idle_plainly x s m answer hears (Lease work step) is idle h = plain_other_call x x s m answer h hears (ap (λ p. is_joining p) is) h.facts.connections (ahead_itself x)
idle_plainly x s m answer hears (RequestRead j) is idle h = plain_other_call x x s m answer h hears (ap (λ p. is_joining p) is) h.facts.connections (ahead_itself x)
idle_plainly x s m answer hears (RequestWrite j owner) is idle h = plain_other_call x x s m answer h hears (ap (λ p. is_joining p) is) h.facts.connections (ahead_itself x)
idle_plainly x s m answer hears SeeRequest is idle h = plain_other_call x x s m answer h hears (ap (λ p. is_joining p) is) h.facts.connections (ahead_itself x)
idle_plainly x s m answer hears (ValueWrite j) is idle h = plain_other_call x x s m answer h hears (ap (λ p. is_joining p) is) h.facts.connections (ahead_itself x)
idle_plainly x s m answer hears (ValueRead j) is idle h = plain_other_call x x s m answer h hears (ap (λ p. is_joining p) is) h.facts.connections (ahead_itself x)

replied_plainly : (x : Step) (s : Session) (m : Submitted) (answer : Answer) (j : ℕ) (r : Reply) → Whole x → Hears x s m answer → is_joining m.call.purpose ≡ false → is_special r ≡ false → HasConnectionFacts (add_reply j r x)
    → HasConnectionsPlainly (add_reply j r x)
replied_plainly x s m answer j r h hears other after part =
    plain_other_call x (add_reply j r x) s m answer h hears other part (ahead x (add_reply j r x) ((goes_named x).replies x j r (late x r after) (growing_itself x)))

behind : (at reading : ℕ) (cs : List Call) (ms : List Submitted) (m : Submitted) → Contains ms m → Contains (fold (λ ks c. new_call at reading c ∷ ks) ms cs) m
behind at reading [] ms m there = there
behind at reading (c ∷ cs) ms m there = behind at reading cs (new_call at reading c ∷ ms) m (contains_more (new_call at reading c) ms m there)

-- A writer that was heard, of a session that isn't joined, was present before.
writer_present : (x : Step) (n : ℕ) (answer : Answer) (m : Submitted) (s : Session) → x.input ≡ Told n answer → call_numbered (seen x) n ≡ Some m → Whole x → Contains (calls_of (seen x) s) m → is_write m.call.op ≡ true
    → joined_after (seen x) s ≡ None → is_present (seen (with_input Wake x)) s ≡ true
writer_present x n answer m s told found h mine writes none = by (joined_after (seen x) s) (removed_after (seen x) s) (refused_after (seen x) s) none where
  expected : IsTrue (is_expected x.setting x.past (Told n answer))
  expected = subst (λ i. IsTrue (is_expected x.setting x.past i)) told h.orderly.is_trace.0.expected

  open_one : (d : Submitted) × Contains (outstanding x.past) d × ((d.call.number == n && is_answer_for x.setting answer d.call.op) ≡ true)
  open_one = any_found (λ (d : Submitted). d.call.number == n && is_answer_for x.setting answer d.call.op) (outstanding x.past) expected

  d : Submitted
  d = open_one.0

  k : Submitted
  k = answered_in x.past (entry_of x) n answer open_one.0

  inside : Contains (submitted x.past) open_one.0 × (is_none open_one.0.answer ≡ true)
  inside = kept_inside (λ (z : Submitted). is_none z.answer) (submitted x.past) open_one.0 open_one.1

  same : SameCall (answered_in x.past (entry_of x) n answer open_one.0) open_one.0
  same = same_answered x.past (entry_of x) n answer open_one.0

  number : (answered_in x.past (entry_of x) n answer open_one.0).call.number ≡ n
  number = ap (λ (c : Call). c.number) same.call ∙ eqb-true d.call.number n (and_true (d.call.number == n) (is_answer_for x.setting answer d.call.op) open_one.2).0

  there : Contains (submitted (seen x)) (answered_in x.past (entry_of x) n answer open_one.0)
  there = behind (length x.past) x.reading x.effects.calls (mark x.past (entry_of x) x.input (submitted x.past)) k
      (subst (λ i. Contains (mark x.past (entry_of x) i (submitted x.past)) k) (sym told) (contains_map (answered_in x.past (entry_of x) n answer) (submitted x.past) d inside.0))

  one : answered_in x.past (entry_of x) n answer open_one.0 ≡ m
  one = one_value k m (call_numbered (seen x) n) (subst (λ q. call_numbered (seen x) q ≡ Some k) number (h.facts.calls.found k there)) found

  call : open_one.0.call ≡ m.call
  call = sym same.call ∙ ap (λ (q : Submitted). q.call) one

  waits : has_open_write (seen (with_input Wake x)) s ≡ true
  waits =
      any_of (λ (q : Submitted). is_write q.call.op) (open_calls_of (seen (with_input Wake x)) s) d (ap (λ (c : Call). is_write c.op) call ∙ writes)
      (kept (λ (q : Submitted). is_none q.answer) (calls_of (seen (with_input Wake x)) s) d inside.1
      (kept (is_call_of s) (submitted (seen (with_input Wake x))) d (ap (λ (c : Call). c.session == s.number) call ∙ (kept_inside (is_call_of s) (submitted (seen x)) m mine).1)
      (behind (length x.past) x.reading x.effects.calls (submitted x.past) d inside.0)))

  by : (joined removed refused : Option ℕ) → joined ≡ None → (is_none (elim joined as (λ z. Option ℕ) [ Some i ↦ removed | None ↦ refused ]) || is_none joined && has_open_write (seen (with_input Wake x)) s) ≡ true
  by None removed None unjoined = refl
  by None removed (Some i) unjoined = waits
  by (Some i) removed refused unjoined = absurd (none_some i (sym unjoined))

late_plainly : (x : Step) (n : ℕ) (answer : Answer) (m : Submitted) (s : Session) → x.input ≡ Told n answer → call_numbered (seen x) n ≡ Some m → session_numbered x.setting (seen x) m.call.session ≡ Some s
    → is_present (seen (with_input Wake x)) s ≡ false → Whole x → HasConnectionsPlainly x
late_plainly x n answer m s told found session gone h =
    plain_connections x h.facts.connections (λ z there w stands.
    let for = heard_for x x n answer s z m told found session h.facts.calls (ahead_itself x) there w in
    let mine : Contains (calls_of (seen x) s) m = subst (λ q. Contains (calls_of (seen x) q) m) for.session (subst (λ q. Contains (calls_of (seen x) z) q) for.call w.1.1) in
    not_both (is_present (seen (with_input Wake x)) s)
    (writer_present x n answer m s told found h mine (subst (λ (q : Submitted). is_write q.call.op ≡ true) for.call w.1.2) (subst (λ q. joined_after (seen x) q ≡ None) for.session w.0)) gone)

none_plainly : (x : Step) (n : ℕ) (answer : Answer) → x.input ≡ Told n answer → call_numbered (seen x) n ≡ None → Whole x → HasConnectionsPlainly x
none_plainly x n answer told none h =
    plain_connections x h.facts.connections (λ z there w stands.
    let mine = kept_inside (is_call_of z) (submitted (seen x)) w.1.0 w.1.1 in
    let number : n ≡ w.1.0.call.number = some_value n w.1.0.call.number (ap (λ i. heard_by i) (sym told) ∙ w.1.3) in
    none_some w.1.0 (sym none ∙ subst (λ q. call_numbered (seen x) q ≡ Some w.1.0) (sym number) (h.facts.calls.found w.1.0 mine.0)))

-- ---- what may still come in the entry

-- A signal leaves them as they are.
pub signal_plainly : (x : Step) (p : ℕ) (signal : Signal) → HasConnectionsPlainly x → HasConnectionsPlainly (add_signal p signal x)
signal_plainly x p signal h = record { covers = h.covers; needed = h.needed; joined = h.joined; joining = h.joining; writers = h.writers }

parts_plainly : (x : Step) (s : Session) → Has x s → is_joined (seen x) s ≡ true → is_some (joined_after x.past s) ≡ true → HasNameFacts x → HasConnectionsPlainly x → HasConnectionsPlainly (remove_connection s.lockspace x)
parts_plainly x s has joined was names h = by (is_registered x.setting (seen x) s.lockspace) where
  by : (b : Bool) → HasConnectionsPlainly (when b (add_move (Unregister s.lockspace)) x)
  by true =
      altered_away x.setting (seen x) (seen (add_move (Unregister s.lockspace) x)) None s (got_inside (sessions x.setting (seen x)) s.number s has)
      (alters_move (seen x) None s x (Unregister s.lockspace) (removes_own s.lockspace) (alters_nothing x.setting (seen x) None s)) (alone_joined x s names has joined) (removed_away x s.lockspace) (removed_uncovered x s was) h
  by false = h

frees_plainly : (x : Step) (s : Session) → Has x s → is_joined (seen x) s ≡ true → HasNameFacts x → HasConnectionsPlainly x
    → HasConnectionsPlainly (carry_delta s (next_free (delta_of_session x.setting s) x.reading (delta_known x.setting (seen x) s)) x)
unfolding carry_delta
frees_plainly x s has joined names h =
    on_option (λ n. HasConnectionsPlainly (carry_delta s n x)) k.leaving Nothing (λ j. elim k.freed [ true ↦ Nothing | false ↦ WriteFree j d ]) h
    (λ j. on_bool (λ n. HasConnectionsPlainly (carry_delta s n x)) k.freed (WriteFree j d) Nothing
    (joined_call None x s s.path (Leaving j) (own_offset x.setting s) (WriteRecord (DeltaIs d)) has joined refl (alone_joined x s names has joined) h) h)
  where
    k : DeltaKnown
    k = delta_known x.setting (seen x) s

    d : DeltaRec
    d = delta_record (delta_of_session x.setting s) Free (delta_known x.setting (seen x) s).generation ((delta_known x.setting (seen x) s).seq + 1) x.reading no_bits

-- ---- all acts of an answer

pub connection_facts_conclude : ConnectionFactsConclude
unfolding after_value_read
connection_facts_conclude =
    record {
      finds_none = λ x n answer told none h. none_plainly x n answer told none h;
      finds_nobody = λ x n answer m told found nobody h.
          let there = (find_inside (λ (z : Submitted). z.call.number == n) (submitted (seen x)) m found).0 in
          let s = some_of (session_numbered x.setting (seen x) m.call.session) (h.facts.calls.owned m there) in absurd (none_some s.0 (sym nobody ∙ s.1));
      comes_late = λ x n answer m s told found session gone h. late_plainly x n answer m s told found session gone h;
      idles = λ x s m answer hears idle h. idle_plainly x s m answer hears m.call.purpose refl idle h;
      joins_on = λ x s j step m answer hears is runs h. joins_plainly x s j step m answer hears is runs h;
      ends_joining = λ x s j step m answer hears is stops h. ended_plainly x s j step m answer hears is stops h;
      renewed = λ x s m answer hears is h.
          let n : DeltaNext = next_after_renewal (is_some (recovery_of x.setting (seen x) s)) m.reading answer in
          plain_other_call x (carry_delta s n x) s m answer h hears (ap (λ p. is_joining p) is) (connection_facts_are_kept.renewed x s m answer hears is h)
          (delta (Growing x) (Ahead x) (NameReply x) (NameCall x) AnyStart AnyMove (goes_named x) x s n
          (renewed_named x s (is_some (recovery_of x.setting (seen x) s)) m.reading answer (has_heard x s m answer hears) (heard_joined x s m answer Renewal h hears is refl)) (growing_itself x));
      freed = λ x s j m answer hears is h.
          let n : DeltaNext = next_after_free j m.call.number answer in
          plain_other_call x (carry_delta s n x) s m answer h hears (ap (λ p. is_joining p) is) (connection_facts_are_kept.freed x s j m answer hears is h)
          (delta (Growing x) (Ahead x) (NameReply x) (NameCall x) AnyStart AnyMove (goes_named x) x s n (freed_named x s j m.call.number answer) (growing_itself x));
      shown = λ x s m bytes hears is joined begins h.
          plain_other_call x (signal_and_refuse s None x) s m (Read bytes) h hears (ap (λ p. is_joining p) is) (connection_facts_are_kept.shown x s m bytes hears is joined begins h)
          (ahead x (signal_and_refuse s None x)
          (stopped (Growing x) (Ahead x) (NameReply x) (NameCall x) AnyStart AnyMove (goes_named x) tt x s None
          (λ z k j there. late_on_survey x s m (Read bytes) (Recovering (last_renewal z.setting (seen z) s)) h.facts.calls hears (ap (λ p. job_of p) is)) (growing_itself x)));
      sees = λ x s number bytes spot g has input held h.
          let found = find_inside (λ (z : Grant). not (is_shared z.mode)) (holdings_on (seen x) s spot) g held in
          let joined : is_joined (seen x) s ≡ true = holder_is_joined x s spot g h.0 has found.0 in
          joined_call None x s g.path SeeRequest (request_offset x.setting.layout g.offset) (ReadSectors 1) has joined refl (alone_joined x s h.0.facts.names has joined) h.1;
      leads_on = λ x s work step m answer aim hears is on aims h.
          let spot : Spot = spot_of_call x.setting.layout m in
          let n : LeaseNext = next_of_lease x.setting (seen x) s spot aim m step answer in
          plain_other_call x (carry_lease s spot work n x) s m answer h hears (ap (λ p. is_joining p) is) (connection_facts_are_kept.leads_on x s work step m answer aim hears is on aims h)
          (lease (Growing x) (Ahead x) (NameReply x) (NameCall x) AnyStart AnyMove (goes_named x) x s spot work n
          (lease_named x x s spot work n (has_heard x s m answer hears) (heard_joined x s m answer (Lease work step) h hears is refl)
          (λ r same. late x r (subst (λ k. IsLateLease k) same (lease_late (lease_place x.setting s) (known x.setting (seen x) s spot) aim m.call.number (lver_written m) step answer)))) (growing_itself x));
      fails = λ x s m j hears lone runs h.
          replied_plainly x s m Failed j (IoFault m.call.number) h hears (lone_other_job m.call.purpose j lone).1 refl (connection_facts_are_kept.fails x s m j hears lone runs h);
      has_asked = λ x s m j owner hears is runs h. replied_plainly x s m Written j Done h hears (ap (λ p. is_joining p) is) refl (connection_facts_are_kept.has_asked x s m j owner hears is runs h);
      has_set = λ x s m j hears is runs h. replied_plainly x s m Written j (set_reply m) h hears (ap (λ p. is_joining p) is) (set_late m) (connection_facts_are_kept.has_set x s m j hears is runs h);
      asks = λ x s m j bytes c hears is runs reads_it h.
          plain_other_call x (after_request_read s j bytes c x) s m (Read bytes) h hears (ap (λ p. is_joining p) is) (connection_facts_are_kept.asks x s m j bytes c hears is runs reads_it h)
          (requested (Growing x) (Ahead x) (NameReply x) (NameCall x) AnyStart AnyMove (goes_named x) x s j bytes c
          (request_named x s j bytes c (has_heard x s m (Read bytes) hears) (heard_joined x s m (Read bytes) (RequestRead j) h hears is refl)) (growing_itself x));
      tells = λ x s m j bytes hears is runs h.
          replied_plainly x s m (Read bytes) j (value_reply x.setting.layout bytes) h hears (ap (λ p. is_joining p) is) (value_late x.setting.layout bytes) (connection_facts_are_kept.tells x s m j bytes hears is runs h);
      warns = λ x s m bytes g signal hears is held own says h.
          plain_other_call x (send g.process signal x) s m (Read bytes) h hears (ap (λ p. is_joining p) is) (connection_facts_are_kept.warns x s m bytes g signal hears is held own says h)
          (ahead x (send g.process signal x) (sent (Growing x) (Ahead x) (NameReply x) (NameCall x) AnyStart AnyMove (goes_named x) tt x g.process signal (growing_itself x)));
      parts = λ x s has joined recovers_one free quiet h.
          let b = some_there (recovery_of x.setting (seen x) s) recovers_one in parts_plainly x s has joined (recovery_joined x.setting (entry_of x) x.past s b.0 b.1) h.0.facts.names h.1;
      frees = λ x s has joined well free quiet h. frees_plainly x s has joined h.0.facts.names h.1;
    }
