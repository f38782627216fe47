-- Where all that a free's answer makes due is done its session has ended.
use Rattle.sl_due_facts.proofs.Acts.AddedAtEnd.{any_last}
use Rattle.sl_due_facts.proofs.Acts.InputsKeep.{has_heard}
use Rattle.sl_due_facts.proofs.Acts.LoopsKeep.{when_keeps}
use Rattle.sl_due_facts.specs.Acts.Acts.{Hears, IsIdle, lone_job}
use Rattle.sl_due_facts.specs.Acts.TraceSoFar.{entry_of}
use Rattle.sl_area.specs.AreaLayout.{request_offset}
use Rattle.sl_due.specs.DueAnswers.{set_reply}
use Rattle.sl_due.specs.CarriedDelta.{carry_delta, end_leaving}
use Rattle.sl_due.specs.DueTimeOuts.{remove_connection, remove_of_refused}
use Rattle.sl_due.specs.DueRecovery.{send, signal_and_refuse}
use Rattle.sl_due.specs.CarriedLease.{carry_lease, next_of_lease}
use Rattle.sl_due.specs.DueRequests.{after_request_read, after_value_read, value_reply}
use Rattle.sl_due.specs.Steps.{Step, add_call_of, add_end, add_grant, add_move, add_reply, add_signal, add_start, seen, when, with_input}
use Rattle.sl_due_facts.proofs.Jobs.EffectsAreAllowed.{delta, lease, removal, removal_of_refused, requested, sent, stopped}
use Rattle.sl_due_facts.proofs.Jobs.JobsAreAllowed.{calls_heard}
use Rattle.sl_due_facts.proofs.Jobs.NearlyPlainActs.{AnyMove, AnyStart, Anything, Nearly, NoLook, free_plain, joining_plain, lease_plain, renewed_plain, request_plain}
use Rattle.sl_due_facts.proofs.Jobs.RepliesComeAfter.{joining_late}
use Rattle.sl_due_facts.proofs.Jobs.SessionsArePresent.{joined_present, session_has}
use Rattle.sl_due_facts.proofs.Jobs.SessionsStand.{joined_then, reply_joined}
use Rattle.sl_run.specs.LawfulDelta.{LawfulDeltaCall, LawfulFree}
use Rattle.sl_trace.specs.Leases.{spot_of_call}
use Rattle.sl_trace.specs.declared.lease.LeaseNext.{LeaseNext}
use Rattle.sl_words.proofs.Lists.{any_found, contains_map, find_inside, got_inside, kept_inside}
use Rattle.sl_words.proofs.Options.{some_of, then_value}
use Rattle.sl_due_law.proofs.Recovery.FinishEnds.{gone_stays, joined_registered}
use Rattle.sl_due_law.proofs.Recovery.PartingsAreKept.{leaver_joined, told_again}
use Rattle.sl_due_law.proofs.Recovery.RecoveriesStart.{removed_is_not}
use Rattle.sl_due_law.proofs.Recovery.StopsConclude.{old_session}
use Rattle.sl_due_law.specs.Recovery.Stops.{FreeTold, FreesEnd}
use Rattle.sl_sector.specs.Bitmaps.{no_bits}
use Rattle.sl_sector.specs.declared.sector.DeltaState.TheVariants.{Free}
use Rattle.sl_sector.specs.declared.sector.Rec.{Rec}
use Rattle.sl_trace.specs.DeltaDecisions.{delta_known, delta_of_session, delta_record, next_after_free, next_after_renewal, next_free, next_in_joining}
use Rattle.sl_trace.specs.Sessions.{calls_of, delta_of_record, generation_of, is_call_of, is_free_purpose, is_joined, is_present, last_seq, recovery_of, session_numbered, sessions}
use Rattle.sl_trace.specs.declared.delta.DeltaNext.{DeltaNext}
use Rattle.sl_trace.specs.declared.session.Session.{Session}
use Rattle.sl_due_facts.specs.Facts.ConcludingActs.{Concludes}
use Rattle.sl_due_facts.specs.Facts.HeardCall.{heard_by}
use Rattle.sl_due_facts.specs.Facts.AllFacts.{Whole}
use Rattle.sl_trace.specs.WatchdogConnections.{is_registered, unregisters}
use Rattle.sl_trace.specs.Traces.{Setting, Submitted, answered_in, call_numbered, is_answer_for, is_expected, is_running, mark, outstanding, record_of, submitted}
use Rattle.sl_trace.specs.declared.effects.Call.{Call}
use Rattle.sl_trace.specs.declared.effects.Move.TheVariants.{Unregister}
use Rattle.sl_trace.specs.declared.effects.Op.{Op}
use Rattle.sl_trace.specs.declared.effects.Op.TheVariants.{ReadSectors, WriteRecord}
use Rattle.sl_trace.specs.declared.effects.Purpose.{Purpose}
use Rattle.sl_trace.specs.declared.effects.Purpose.TheVariants.{Joining, Lease, Leaving, Renewal, RequestRead, RequestWrite, SeeRequest, Survey, ValueRead, ValueWrite}
use Rattle.sl_trace.specs.declared.effects.Signal.{Signal}
use Rattle.sl_trace.specs.declared.input.Answer.{Answer}
use Rattle.sl_trace.specs.declared.input.Answer.TheVariants.{Failed, Read, Written}
use Rattle.sl_trace.specs.declared.input.Input.TheVariants.{Answer as Told, Wake}
use Rattle.sl_trace.specs.declared.reply.Reply.{Reply}
use Rattle.sl_trace.specs.declared.reply.Reply.TheVariants.{Done, IoFault}
use Rattle.sl_run_law.proofs.Leases.NumberLaws.{number_is_place}
use Rattle.sl_run_law.proofs.Sessions.CallsAreMade.{old_stays, same_answered}
use Rattle.sl_run_law.proofs.Sessions.CallOwners.{calls_were_lawful}
use Rattle.sl_run_law.specs.Sessions.SessionLaws.{WasLawful, front_of, made_as}
use Rattle.sl_words.proofs.CaseLaws.{false_is_true, is_false, none_some, not_both, one_value, some_value}
use Rattle.sl_words.proofs.WordLaws.{and_true}
use Rattle.std.proofs.Common.{ap, refl, subst, sym, ◌∙◌}
use Rattle.std.proofs.lemmas.Bool.{eqb-true}
use Rattle.std.proofs.lemmas.Slice.Eq.{bytes_eq-Decides}
use Rattle.std.specs.Prelude.{Contains, IsTrue, List, None, Some, false, is_none, is_some, length, true, ℕ, ◌&&◌, ◌+◌, ◌==◌, ◌≡◌}

-- ---- whose free was answered

-- Where no free was answered.
abbrev NoFree : Step → Type 0
NoFree z = (s : Session) → FreeTold z s → ⊥

no_free : Nearly NoFree
no_free =
    record {
      ends = λ y e h s f. h s (told_again (add_end e y) y s refl refl f);
      signals = λ y q signal h s f. h s (told_again (add_signal q signal y) y s refl refl f);
      moves = λ y m may h s f. h s (told_again (add_move m y) y s refl refl f);
      grants = λ y g h s f. h s (told_again (add_grant g y) y s refl refl f);
      starts = λ y k may h s f. h s (told_again (add_start k y) y s refl refl f);
      replies = λ y j r may h s f. h s (told_again (add_reply j r y) y s refl refl f);
      calls = λ y z path p o op no_look h s f. h s (told_again (add_call_of z.number path p o op y) y s refl refl f);
      rest = λ y h. h;
    }

-- Without a free nobody has to end.
pub none_ends : (z : Step) → NoFree z → FreesEnd z
none_ends z h = λ s there joined f. absurd (h s f)

-- An input that is no answer answers none.
pub untold : (z : Step) → heard_by z.input ≡ None → NoFree z
untold z none s f = none_some f.number (sym none ∙ ap (λ i. heard_by i) f.told)

-- The free has a call that the answer finds.
record FoundFree (x : Step) (n : ℕ) (s : Session) : Type 0 where
  call : Submitted
  found : call_numbered (seen x) n ≡ Some call
  free : is_free_purpose call.call.purpose ≡ true
  session : call.call.session ≡ s.number

free_call : (x : Step) (n : ℕ) (answer : Answer) (s : Session) → Whole x → x.input ≡ Told n answer → FreeTold x s → FoundFree x n s
free_call x n answer s h told f =
    record {
      call = answered_in x.past (entry_of x) n answer f.call;
      found = subst (λ q. call_numbered (seen x) q ≡ Some (answered_in x.past (entry_of x) n answer f.call)) (ap (λ (c : Call). c.number) same_call ∙ (f.its ∙ number)) (h.facts.calls.found (answered_in x.past (entry_of x) n answer f.call) there);
      free = ap (λ (c : Call). is_free_purpose c.purpose) same_call ∙ both.1;
      session = ap (λ (c : Call). c.session) same_call ∙ eqb-true f.call.call.session s.number both.0;
    } where
      inside : Contains (submitted x.past) f.call × ((is_call_of s f.call && is_free_purpose f.call.call.purpose) ≡ true)
      inside = find_inside (λ (d : Submitted). is_call_of s d && is_free_purpose d.call.purpose) (submitted x.past) f.call f.free

      both : (is_call_of s f.call ≡ true) × (is_free_purpose f.call.call.purpose ≡ true)
      both = and_true (is_call_of s f.call) (is_free_purpose f.call.call.purpose) (find_inside (λ (d : Submitted). is_call_of s d && is_free_purpose d.call.purpose) (submitted x.past) f.call f.free).1

      there : Contains (submitted (seen x)) (answered_in x.past (entry_of x) n answer f.call)
      there =
          old_stays (length x.past) x.reading x.effects.calls (mark x.past (entry_of x) x.input (submitted x.past)) (answered_in x.past (entry_of x) n answer f.call)
          (subst (λ i. Contains (mark x.past (entry_of x) i (submitted x.past)) (answered_in x.past (entry_of x) n answer f.call)) (sym told) (contains_map (answered_in x.past (entry_of x) n answer) (submitted x.past) f.call inside.0))

      number : f.number ≡ n
      number = some_value f.number n (ap (λ i. heard_by i) (sym f.told ∙ told))

      same_call : (answered_in x.past (entry_of x) n answer f.call).call ≡ f.call.call
      same_call = (same_answered x.past (entry_of x) n answer f.call).call

-- The call that was heard is the free.
heard_free : (x : Step) (n : ℕ) (answer : Answer) (m : Submitted) (s : Session) → Whole x → x.input ≡ Told n answer → call_numbered (seen x) n ≡ Some m → FreeTold x s → (is_free_purpose m.call.purpose ≡ true) × (m.call.session ≡ s.number)
heard_free x n answer m s h told found f =
    let c : FoundFree x n s = free_call x n answer s h told f in
    let one : c.call ≡ m = one_value c.call m (call_numbered (seen x) n) c.found found in
    (subst (λ (d : Submitted). is_free_purpose d.call.purpose ≡ true) one c.free, subst (λ (d : Submitted). d.call.session ≡ s.number) one c.session)

-- Where another call was heard none was.
no_free_heard : (x : Step) (s : Session) (m : Submitted) (answer : Answer) (p : Purpose) → Whole x → Hears x s m answer → m.call.purpose ≡ p → is_free_purpose p ≡ false → NoFree x
no_free_heard x s m answer p h hears is other z f = not_both (is_free_purpose m.call.purpose) (heard_free x hears.number answer m z h hears.heard hears.call f).0 (ap (λ q. is_free_purpose q) is ∙ other)

idle_free : (x : Step) (s : Session) (m : Submitted) (answer : Answer) → Whole x → Hears x s m answer → (p : Purpose) → m.call.purpose ≡ p → IsIdle x s m answer p → NoFree x
idle_free x s m answer h hears Survey is idle = no_free_heard x s m answer Survey h hears is refl
idle_free x s m answer h hears (Joining k step) is idle = no_free_heard x s m answer (Joining k step) h hears is refl
idle_free x s m answer h hears Renewal is idle = no_free_heard x s m answer Renewal h hears is refl
idle_free x s m answer h hears (Leaving k) is idle = absurd idle
idle_free x s m answer h hears (Lease work step) is idle = no_free_heard x s m answer (Lease work step) h hears is refl
idle_free x s m answer h hears (RequestRead k) is idle = no_free_heard x s m answer (RequestRead k) h hears is refl
idle_free x s m answer h hears (RequestWrite k owner) is idle = no_free_heard x s m answer (RequestWrite k owner) h hears is refl
idle_free x s m answer h hears SeeRequest is idle = no_free_heard x s m answer SeeRequest h hears is refl
idle_free x s m answer h hears (ValueWrite k) is idle = no_free_heard x s m answer (ValueWrite k) h hears is refl
idle_free x s m answer h hears (ValueRead k) is idle = no_free_heard x s m answer (ValueRead k) h hears is refl

lone_no_free : (p : Purpose) (j : ℕ) → lone_job p ≡ Some j → is_free_purpose p ≡ false
lone_no_free (Leaving k) j is = absurd (none_some j is)
lone_no_free (Joining k step) j is = refl
lone_no_free Renewal j is = refl
lone_no_free Survey j is = refl
lone_no_free (Lease work step) j is = refl
lone_no_free (RequestRead k) j is = refl
lone_no_free (RequestWrite k owner) j is = refl
lone_no_free SeeRequest j is = refl
lone_no_free (ValueWrite k) j is = refl
lone_no_free (ValueRead k) j is = refl

-- ---- its session ends

unread : (st : Setting) (answer : Answer) (op : Op) (r : Rec) → record_of op ≡ Some r → is_answer_for st answer op ≡ true → (bytes : List ℕ) → answer ≡ Read bytes → ⊥
unread st answer (ReadSectors n) r writes fits bytes is = none_some r writes
unread st answer (WriteRecord w) r writes fits bytes is = false_is_true (subst (λ a. is_answer_for st a (WriteRecord w) ≡ true) is fits)

pub free_written : (x : Step) (s : Session) (j : ℕ) (m : Submitted) (answer : Answer) → Whole x → Hears x s m answer → m.call.purpose ≡ Leaving j → (bytes : List ℕ) → answer ≡ Read bytes → ⊥
free_written x s j m answer h hears is bytes reads_it = unread x.setting answer m.call.op record_one.0 record_one.1 fits bytes reads_it where
  n : ℕ
  n = hears.number

  there : Contains (submitted (seen x)) m
  there = (find_inside (λ (d : Submitted). d.call.number == hears.number) (submitted (seen x)) m hears.call).0

  mine : m.call.session ≡ s.number
  mine = sym (number_is_place x.setting (seen x) m.call.session s hears.session)

  was : WasLawful x.setting (seen x) s m
  was = calls_were_lawful x.setting (seen x) s m h.orderly (has_heard x s m answer hears) there mine

  free : LawfulFree x.setting (front_of (calls_were_lawful x.setting (seen x) s m h.orderly (has_heard x s m answer hears) there mine).made) s (made_as (calls_were_lawful x.setting (seen x) s m h.orderly (has_heard x s m answer hears) there mine).made)
  free = subst (λ p. LawfulDeltaCall x.setting (front_of was.made) s (made_as was.made) p) is was.lawful

  record_one : (r : Rec) × (record_of m.call.op ≡ Some r)
  record_one = let found = then_value delta_of_record (record_of m.call.op) (delta_record (delta_of_session x.setting s) Free (generation_of (front_of was.made) s) (last_seq (front_of was.made) s + 1) (made_as was.made).reading no_bits) free.written in (found.0, found.1)

  fits : is_answer_for x.setting answer m.call.op ≡ true
  fits =
      let expected : IsTrue (is_expected x.setting x.past (Told hears.number answer)) = subst (λ i. IsTrue (is_expected x.setting x.past i)) hears.heard h.orderly.is_trace.0.expected in
      let open_one = any_found (λ (d : Submitted). d.call.number == hears.number && is_answer_for x.setting answer d.call.op) (outstanding x.past) expected in
      let d : Submitted = open_one.0 in
      let its = and_true (d.call.number == hears.number) (is_answer_for x.setting answer d.call.op) open_one.2 in
      let inside = kept_inside (λ (z : Submitted). is_none z.answer) (submitted x.past) d open_one.1 in
      let k : Submitted = answered_in x.past (entry_of x) hears.number answer d in
      let same : k.call ≡ d.call = (same_answered x.past (entry_of x) hears.number answer d).call in
      let here : Contains (submitted (seen x)) k =
      subst (λ ms. Contains ms k) (sym (calls_heard x hears.number answer hears.heard hears.bare)) (contains_map (answered_in x.past (entry_of x) hears.number answer) (submitted x.past) d inside.0)
      in
      let number : k.call.number ≡ hears.number = ap (λ (c : Call). c.number) same ∙ eqb-true d.call.number hears.number its.0 in
      let one : k ≡ m = one_value k m (call_numbered (seen x) hears.number) (subst (λ q. call_numbered (seen x) q ≡ Some k) number (h.facts.calls.found k here)) hears.call in
      ap (λ (c : Call). is_answer_for x.setting answer c.op) (ap (λ (z : Submitted). z.call) (sym one) ∙ same) ∙ its.1

-- What ends a leaving removes the connection.
leaving_ends : (x : Step) (s : Session) (j : ℕ) (r : Reply) → is_joined x.past s ≡ true → is_registered x.setting (seen x) s.lockspace ≡ true → is_joined (seen (end_leaving s j r x)) s ≡ false
leaving_ends x s j r joined there = both.1 where
  removed : (is_joined (remove_connection s.lockspace x).past s ≡ true) × (is_joined (seen (remove_connection s.lockspace x)) s ≡ false)
  removed =
      subst (λ b. (is_joined (when b (add_move (Unregister s.lockspace)) x).past s ≡ true) × (is_joined (seen (when b (add_move (Unregister s.lockspace)) x)) s ≡ false)) (sym there)
      (joined, removed_is_not (entry_of (add_move (Unregister s.lockspace) x)) x.past s joined (any_last (unregisters s.lockspace) x.effects.moves (Unregister s.lockspace) ((bytes_eq-Decides s.lockspace s.lockspace).1 refl)))

  both : (is_joined (end_leaving s j r x).past s ≡ true) × (is_joined (seen (end_leaving s j r x)) s ≡ false)
  both =
      when_keeps (λ z. (is_joined z.past s ≡ true) × (is_joined (seen z) s ≡ false)) (is_running (seen x) j) (add_reply j r) (remove_connection s.lockspace x)
      (λ runs k. (k.0, reply_joined (remove_connection s.lockspace x) j r s (joined_then (remove_connection s.lockspace x).past s k.0) ∙ k.1)) removed

frees_end : (x : Step) (s : Session) (j : ℕ) (m : Submitted) (answer : Answer) → Whole x → Hears x s m answer → m.call.purpose ≡ Leaving j → FreesEnd (carry_delta s (next_after_free j m.call.number answer) x)
unfolding carry_delta
frees_end x s j m answer h hears is = by answer refl where
  there : Contains (sessions x.setting (seen x)) s
  there = got_inside (sessions x.setting (seen x)) m.call.session s hears.session

  joined : is_joined (seen x) s ≡ true
  joined = leaver_joined x s j m answer h hears is

  registered : is_registered x.setting (seen x) s.lockspace ≡ true
  registered = joined_registered x.setting (seen x) (heard_by x.input) s h.facts.connections there joined

  at_end : (y : Step) (r : Reply) → y ≡ end_leaving s j r x → y.input ≡ x.input → y.past ≡ x.past → FreesEnd y
  at_end y r same input before z old was f =
      let told : FreeTold x z = told_again y x z (sym input) (sym before) f in
      let its : m.call.session ≡ z.number = (heard_free x hears.number answer m z h hears.heard hears.call told).1 in
      let past_joined : is_joined x.past z ≡ true = subst (λ t. is_joined t z ≡ true) before was in
      let here : Contains (sessions x.setting (seen x)) z = old_session x z (again y same before z old) in
      let one : s ≡ z = one_value s z (session_numbered x.setting (seen x) m.call.session) hears.session (ap (λ n. session_numbered x.setting (seen x) n) its ∙ session_has x.setting (seen x) z here) in
      subst (λ q. is_joined (seen y) q ≡ false) one (subst (λ w. is_joined (seen w) s ≡ false) (sym same) (leaving_ends x s j r (subst (λ q. is_joined x.past q ≡ true) (sym one) past_joined) registered))
    where
      setting_same : (end_leaving s j r x).setting ≡ x.setting
      setting_same =
          when_keeps (λ z. z.setting ≡ x.setting) (is_running (seen x) j) (add_reply j r) (remove_connection s.lockspace x) (λ runs k. k)
          (when_keeps (λ z. z.setting ≡ x.setting) (is_registered x.setting (seen x) s.lockspace) (add_move (Unregister s.lockspace)) x (λ up k. k) refl)

      again : (y : Step) → y ≡ end_leaving s j r x → y.past ≡ x.past → (z : Session) → Contains (sessions y.setting y.past) z → Contains (sessions x.setting x.past) z
      again y same before z old =
          subst (λ t. Contains (sessions x.setting t) z) before (subst (λ st. Contains (sessions st y.past) z) (ap (λ (w : Step). w.setting) same ∙ setting_same) old)

  stays : (r : Reply) → ((end_leaving s j r x).input ≡ x.input) × ((end_leaving s j r x).past ≡ x.past)
  stays r =
      when_keeps (λ z. (z.input ≡ x.input) × (z.past ≡ x.past)) (is_running (seen x) j) (add_reply j r) (remove_connection s.lockspace x) (λ runs k. k)
      (when_keeps (λ z. (z.input ≡ x.input) × (z.past ≡ x.past)) (is_registered x.setting (seen x) s.lockspace) (add_move (Unregister s.lockspace)) x (λ up k. k) (refl, refl))

  by : (a : Answer) → answer ≡ a → FreesEnd (carry_delta s (next_after_free j m.call.number a) x)
  by Written is_a = at_end (end_leaving s j Done x) Done refl (stays Done).0 (stays Done).1
  by Failed is_a = at_end (end_leaving s j (IoFault m.call.number) x) (IoFault m.call.number) refl (stays (IoFault m.call.number)).0 (stays (IoFault m.call.number)).1
  by (Read bytes) is_a = absurd (free_written x s j m answer h hears is bytes is_a)

-- ---- all acts

-- What is still to come leaves who has ended.
more_effects : Nearly FreesEnd
more_effects =
    record {
      ends = λ y e h s there joined f. h s there joined (told_again (add_end e y) y s refl refl f);
      signals = λ y q signal h s there joined f. h s there joined (told_again (add_signal q signal y) y s refl refl f);
      moves = λ y m may h s there joined f. gone_stays s y m (h s there joined (told_again (add_move m y) y s refl refl f));
      grants = λ y g h s there joined f. h s there joined (told_again (add_grant g y) y s refl refl f);
      starts = λ y k may h s there joined f. h s there joined (told_again (add_start k y) y s refl refl f);
      replies = λ y j r may h s there joined f. reply_joined y j r s (joined_then y.past s joined) ∙ h s there joined (told_again (add_reply j r y) y s refl refl f);
      calls = λ y z path p o op no_look h s there joined f. h s there joined (told_again (add_call_of z.number path p o op y) y s refl refl f);
      rest = λ y h. h;
    }

-- A session that isn't present is not joined.
late_ends : (x : Step) (n : ℕ) (answer : Answer) (m : Submitted) (s : Session) → Whole x → x.input ≡ Told n answer → call_numbered (seen x) n ≡ Some m → session_numbered x.setting (seen x) m.call.session ≡ Some s
    → is_present (seen (with_input Wake x)) s ≡ false → FreesEnd x
late_ends x n answer m s h told found session gone = λ z there joined f.
    let its : m.call.session ≡ z.number = (heard_free x n answer m z h told found f).1 in
    let one : s ≡ z = one_value s z (session_numbered x.setting (seen x) m.call.session) session (ap (λ k. session_numbered x.setting (seen x) k) its ∙ session_has x.setting (seen x) z (old_session x z there)) in
    is_false (is_joined (seen x) z) (λ is. not_both (is_present (seen (with_input Wake x)) s) (joined_present (seen (with_input Wake x)) s (subst (λ q. is_joined (seen x) q ≡ true) (sym one) is)) gone)

pub frees_conclude : Concludes Whole (λ x. Whole x × FreesEnd x) FreesEnd
unfolding after_value_read
frees_conclude =
    let p : Nearly NoFree = no_free in
    let q : Nearly FreesEnd = more_effects in
    record {
      finds_none = λ x n answer told none h. none_ends x (λ s f. none_some (free_call x n answer s h told f).call (sym none ∙ (free_call x n answer s h told f).found));
      finds_nobody = λ x n answer m told found nobody h.
          let there = (find_inside (λ (z : Submitted). z.call.number == n) (submitted (seen x)) m found).0 in
          let s = some_of (session_numbered x.setting (seen x) m.call.session) (h.facts.calls.owned m there) in absurd (none_some s.0 (sym nobody ∙ s.1));
      comes_late = λ x n answer m s told found session gone h. late_ends x n answer m s h told found session gone;
      idles = λ x s m answer hears idle h. none_ends x (idle_free x s m answer h hears m.call.purpose refl idle);
      joins_on = λ x s j step m answer hears is runs h.
          let n : DeltaNext = next_in_joining (delta_of_session x.setting s) (generation_of (seen x) s) (calls_of (seen x) s) x.reading m step answer in
          none_ends (carry_delta s n x) (delta NoFree NoFree Anything NoLook AnyStart AnyMove p x s n
          (joining_plain x s n (joining_late (delta_of_session x.setting s) (generation_of (seen x) s) (calls_of (seen x) s) x.reading m step answer)) (no_free_heard x s m answer (Joining j step) h hears is refl));
      ends_joining = λ x s j step m answer hears is stops h.
          none_ends (remove_of_refused s x) (removal_of_refused NoFree NoFree Anything NoLook AnyStart AnyMove p x s tt (no_free_heard x s m answer (Joining j step) h hears is refl));
      renewed = λ x s m answer hears is h.
          let n : DeltaNext = next_after_renewal (is_some (recovery_of x.setting (seen x) s)) m.reading answer in
          none_ends (carry_delta s n x) (delta NoFree NoFree Anything NoLook AnyStart AnyMove p x s n (renewed_plain x s (is_some (recovery_of x.setting (seen x) s)) m.reading answer) (no_free_heard x s m answer Renewal h hears is refl));
      freed = λ x s j m answer hears is h. frees_end x s j m answer h hears is;
      shown = λ x s m bytes hears is joined begins h.
          none_ends (signal_and_refuse s None x) (stopped NoFree NoFree Anything NoLook AnyStart AnyMove p tt x s None (λ z k j there. tt) (no_free_heard x s m (Read bytes) Survey h hears is refl));
      sees = λ x s number bytes spot g has input held h. q.calls x s g.path SeeRequest (request_offset x.setting.layout g.offset) (ReadSectors 1) refl h.1;
      leads_on = λ x s work step m answer aim hears is on aims h.
          let n : LeaseNext = next_of_lease x.setting (seen x) s (spot_of_call x.setting.layout m) aim m step answer in
          none_ends (carry_lease s (spot_of_call x.setting.layout m) work n x) (lease NoFree NoFree Anything NoLook AnyStart AnyMove p x s (spot_of_call x.setting.layout m) work n
          (lease_plain x s (spot_of_call x.setting.layout m) work n) (no_free_heard x s m answer (Lease work step) h hears is refl));
      fails = λ x s m j hears lone runs h. none_ends (add_reply j (IoFault m.call.number) x) (p.replies x j (IoFault m.call.number) tt (no_free_heard x s m Failed m.call.purpose h hears refl (lone_no_free m.call.purpose j lone)));
      has_asked = λ x s m j owner hears is runs h. none_ends (add_reply j Done x) (p.replies x j Done tt (no_free_heard x s m Written (RequestWrite j owner) h hears is refl));
      has_set = λ x s m j hears is runs h. none_ends (add_reply j (set_reply m) x) (p.replies x j (set_reply m) tt (no_free_heard x s m Written (ValueWrite j) h hears is refl));
      asks = λ x s m j bytes c hears is runs reads_one h.
          none_ends (after_request_read s j bytes c x) (requested NoFree NoFree Anything NoLook AnyStart AnyMove p x s j bytes c (request_plain x s j bytes c) (no_free_heard x s m (Read bytes) (RequestRead j) h hears is refl));
      tells = λ x s m j bytes hears is runs h. none_ends (add_reply j (value_reply x.setting.layout bytes) x) (p.replies x j (value_reply x.setting.layout bytes) tt (no_free_heard x s m (Read bytes) (ValueRead j) h hears is refl));
      warns = λ x s m bytes g signal hears is held own says h.
          none_ends (send g.process signal x) (sent NoFree NoFree Anything NoLook AnyStart AnyMove p tt x g.process signal (no_free_heard x s m (Read bytes) SeeRequest h hears is refl));
      parts = λ x s has joined recovers_one free quiet h. removal FreesEnd FreesEnd Anything NoLook AnyStart AnyMove q x s.lockspace tt h.1;
      frees = λ x s has joined well free quiet h.
          delta FreesEnd FreesEnd Anything NoLook AnyStart AnyMove q x s (next_free (delta_of_session x.setting s) x.reading (delta_known x.setting (seen x) s))
          (free_plain x s (delta_of_session x.setting s) x.reading (delta_known x.setting (seen x) s)) h.1;
    }

-- Signals leave who has ended.
pub signals_leave_ended : (x : Step) (p : ℕ) (g : Signal) → FreesEnd x → FreesEnd (add_signal p g x)
signals_leave_ended x p g h = more_effects.signals x p g h
