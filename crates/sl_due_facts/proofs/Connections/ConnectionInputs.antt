-- What is known of connections is kept where the input is seen.
use Rattle.sl_due_facts.specs.Acts.Acts.{Expects, Has}
use Rattle.sl_due_facts.specs.Acts.TraceSoFar.{SoFar, entry_of}
use Rattle.sl_due.specs.Steps.{Step, seen, with_input}
use Rattle.sl_due_facts.proofs.Jobs.AnsweredCallsFit.{record_writes}
use Rattle.sl_due_facts.proofs.Jobs.CallsHaveFacts.{calls_before, sessions_bare, sessions_told}
use Rattle.sl_due_facts.proofs.Jobs.JobFactsGrow.{was_unanswered}
use Rattle.sl_due_facts.proofs.Jobs.JobsAreAllowed.{is_told}
use Rattle.sl_due_facts.proofs.Jobs.SessionsArePresent.{session_has}
use Rattle.sl_run.specs.LawfulDelta.{LawfulClaim}
use Rattle.sl_run.specs.LawfulConnections.{is_covered}
use Rattle.sl_due_facts.proofs.AddedEffects.JoinedCallsKeepOrder.{joined_is_covered}
use Rattle.sl_words.proofs.Lists.{any_found, any_of, contains_first, contains_map, find_inside, in_map, kept, kept_inside}
use Rattle.sl_words.proofs.Numbers.{trans_le}
use Rattle.sl_words.proofs.Options.{then_value}
use Rattle.sl_run_law.proofs.Watchdog.OneOpenRenewal.{renewed_after}
use Rattle.sl_run_law.specs.Watchdog.ActingTimes.{renewal_told}
use Rattle.sl_sector.specs.Bitmaps.{no_bits}
use Rattle.sl_sector.specs.declared.sector.DeltaState.TheVariants.{Claimed}
use Rattle.sl_due_facts.proofs.Connections.ConnectionsChange.{same_connections}
use Rattle.sl_due_facts.proofs.Connections.SessionParts.{covered_at_work, covered_refused, covered_unjoined, joined_and_covered}
use Rattle.sl_due_facts.specs.Connections.ConnectionLaws.{HasConnectionFacts}
use Rattle.sl_due_facts.proofs.Sessions.JoiningsGoOn.{law_of}
use Rattle.sl_due_facts.proofs.Sessions.NamesGrow.{calls_of_told, input_present, write_then}
use Rattle.sl_trace.specs.DeltaDecisions.{delta_of_session, delta_record}
use Rattle.sl_trace.specs.Sessions.{calls_of, delta_of_record, has_open_write, is_call_of, is_covered_stage, is_join_call, is_present, joined_after, last_renewal, open_calls_of, refused_after, removed_after, session_numbered, sessions, stage_after, stage_in}
use Rattle.sl_trace.specs.declared.session.Session.{Session}
use Rattle.sl_trace.specs.declared.stage.Stage.TheVariants.{Looking}
use Rattle.sl_trace.specs.declared.stage.Stage.{Stage}
use Rattle.sl_due_facts.specs.Facts.HeardCall.{IsOpen, heard_by}
use Rattle.sl_due_facts.specs.Facts.SessionFacts.{ConnectionFacts, IsHeardWriter}
use Rattle.sl_due_facts.specs.Facts.AllFacts.{Whole}
use Rattle.sl_time.specs.Times.{fail}
use Rattle.sl_trace.specs.Traces.{Answered, Submitted, Trace, answer_of, answered_in, call_numbered, is_answered_ok, is_ok_answer, is_write, mark, record_of, submitted}
use Rattle.sl_trace.specs.declared.effects.Call.{Call}
use Rattle.sl_trace.specs.declared.effects.Entry.{Entry}
use Rattle.sl_trace.specs.declared.effects.JoinStep.TheVariants.{ClaimWrite, DecidingRead, FirstRead, FirstRenewal, VerifyRead, WatchRead}
use Rattle.sl_trace.specs.declared.effects.Purpose.TheVariants.{Joining, Lease, Leaving, Renewal, RequestRead, RequestWrite, SeeRequest, Survey, ValueRead, ValueWrite}
use Rattle.sl_trace.specs.declared.effects.Purpose.{Purpose}
use Rattle.sl_trace.specs.declared.input.Answer.{Answer}
use Rattle.sl_trace.specs.declared.input.Input.TheVariants.{Answer as Told, Exit, Line, Number, Spawned, Wake}
use Rattle.sl_trace.specs.declared.input.Input.{Input}
use Rattle.sl_run_law.proofs.Sessions.CallsAreMade.{SameCall, same_answered}
use Rattle.sl_run_law.specs.Sessions.SessionLaws.{front_of, made_as}
use Rattle.sl_words.proofs.CaseLaws.{false_is_true, none_some, not_both, some_value, true_is_false}
use Rattle.sl_words.specs.Words.{some_is}
use Rattle.std.proofs.Common.{ap, arith, inl, inr, refl, subst, sym, ◌∙◌}
use Rattle.std.proofs.lemmas.Bool.{eqb-true}
use Rattle.std.specs.Option.{option_or}
use Rattle.std.specs.Prelude.{Bool, Contains, List, None, Option, Some, [], false, find, is_none, is_some, map, slice_get, true, ℕ, ◌+◌, ◌==◌, ◌∷◌, ◌≡◌, ◌≤◌, ◌⊎◌}
use Rattle.sl_run_law.proofs.Watchdog.Readings.{Counts, NextRenewal, Stays, next_renewal, told}

-- ---- inputs that answer no call

pub last_woken : (x : Step) (z : Session) → x.input ≡ Wake → last_renewal x.setting (seen x) z ≡ last_renewal x.setting x.past z
last_woken x z wake = by (next_renewal x.setting x.past z (entry_of x)) where
  by : NextRenewal x.setting x.past z (entry_of x) → last_renewal x.setting (seen x) z ≡ last_renewal x.setting x.past z
  by (Stays none is) = is
  by (Counts m none told_is is) = absurd (none_some m (sym (ap (λ i. renewal_told x.past z i) wake) ∙ told_is))

last_untold : (x : Step) (i : Input) (z : Session) → x.input ≡ Wake → renewal_told x.past z i ≡ None → last_renewal x.setting (seen (with_input i x)) z ≡ last_renewal x.setting (seen x) z
last_untold x i z wake untold = by (next_renewal x.setting x.past z (entry_of (with_input i x))) ∙ sym (last_woken x z wake) where
  by : NextRenewal x.setting x.past z (entry_of (with_input i x)) → last_renewal x.setting (seen (with_input i x)) z ≡ last_renewal x.setting x.past z
  by (Stays none is) = is
  by (Counts m none told_is is) = absurd (none_some m (sym untold ∙ told_is))

untold_connections : (x : Step) (i : Input) → x.input ≡ Wake → x.effects.calls ≡ [] → ((z : Session) → renewal_told x.past z i ≡ None) → ((ms : List Submitted) → mark x.past (entry_of (with_input i x)) i ms ≡ ms) → HasConnectionFacts x
    → ConnectionFacts x.setting (seen (with_input i x)) None
untold_connections x i wake bare untold unmarked h =
    same_connections x.setting (seen x) (seen (with_input i x)) None
    (record {
      all = sessions_told x i bare;
      each = λ z there. record { joined = refl; removed = refl; refused = refl; calls = calls_of_told x i z wake bare ∙ unmarked (calls_of (seen x) z) };
      named = λ n. refl;
      renewed = λ z. last_untold x i z wake (untold z);
      registered = λ n. refl;
      opens = opens;
    }) (subst (λ k. ConnectionFacts x.setting (seen x) (heard_by k)) wake h)
  where
    opens : (m : Submitted) → IsOpen (seen (with_input i x)) None m → IsOpen (seen x) None m
    opens m (inl none) = inl none
    opens m (inr both) = absurd (none_some m.call.number both.0)

pub input_connections : (x : Step) (i : Input) → x.input ≡ Wake → x.effects.calls ≡ [] → is_told i ≡ false → HasConnectionFacts x → HasConnectionFacts (with_input i x)
input_connections x (Line text) wake bare other h = untold_connections x (Line text) wake bare (λ z. refl) (λ ms. refl) h
input_connections x (Number text) wake bare other h = untold_connections x (Number text) wake bare (λ z. refl) (λ ms. refl) h
input_connections x (Exit p) wake bare other h = untold_connections x (Exit p) wake bare (λ z. refl) (λ ms. refl) h
input_connections x (Spawned p ok) wake bare other h = untold_connections x (Spawned p ok) wake bare (λ z. refl) (λ ms. refl) h
input_connections x Wake wake bare other h = untold_connections x Wake wake bare (λ z. refl) (λ ms. refl) h
input_connections x (Told n a) wake bare other h = absurd (true_is_false other)

-- ---- an answer: whether a call is open, and whether it was answered ok

pub other_marked : (es : Trace) (e : Entry) (n : ℕ) (a : Answer) (m : Submitted) → (m.call.number == n) ≡ false → answered_in es e n a m ≡ m
other_marked es e n a m other = ap (λ b. elim b as (λ z. Submitted) [ false ↦ m | true ↦ record m { answer = option_or m.answer (Some (answer_of es e a m.call)) } ]) other

pub ok_stays : (es : Trace) (e : Entry) (n : ℕ) (a : Answer) (m : Submitted) → is_answered_ok m ≡ true → is_answered_ok (answered_in es e n a m) ≡ true
ok_stays es e n a m ok = by (m.call.number == n) m.answer ok where
  by : (b : Bool) (o : Option Answered) → some_is (λ (c : Answered). is_ok_answer c.answer) o ≡ true
      → is_answered_ok (elim b as (λ z. Submitted) [ false ↦ record m { answer = o } | true ↦ record m { answer = option_or o (Some (answer_of es e a m.call)) } ]) ≡ true
  by false o is = is
  by true (Some c) is = is
  by true None is = absurd (false_is_true is)

abbrev pub stage_by_ok : Purpose → Bool → Stage
stage_by_ok p done = elim p [ Joining j step ↦ stage_after step done | _ ↦ Looking ]

pub claimed_or_same : (p : Purpose) (b c : Bool) → is_covered_stage (stage_by_ok p b) ≡ true → (is_covered_stage (stage_by_ok p c) ≡ true) ⊎ ((is_join_call ClaimWrite p ≡ true) × (b ≡ false) × (c ≡ true))
claimed_or_same (Joining j ClaimWrite) true c h = absurd (false_is_true h)
claimed_or_same (Joining j ClaimWrite) false false h = inl h
claimed_or_same (Joining j ClaimWrite) false true h = inr (refl, refl, refl)
claimed_or_same (Joining j FirstRead) b c h = inl h
claimed_or_same (Joining j WatchRead) b c h = inl h
claimed_or_same (Joining j DecidingRead) b c h = inl h
claimed_or_same (Joining j VerifyRead) b c h = inl h
claimed_or_same (Joining j FirstRenewal) b c h = inl h
claimed_or_same Renewal b c h = inl h
claimed_or_same Survey b c h = inl h
claimed_or_same (Leaving j) b c h = inl h
claimed_or_same (Lease work step) b c h = inl h
claimed_or_same (RequestRead j) b c h = inl h
claimed_or_same (RequestWrite j owner) b c h = inl h
claimed_or_same SeeRequest b c h = inl h
claimed_or_same (ValueWrite j) b c h = inl h
claimed_or_same (ValueRead j) b c h = inl h

-- The claim of a joining writes.
pub claim_writes : (x : Step) (s : Session) (m : Submitted) → SoFar x → Has x s → joined_after (seen x) s ≡ None → Contains (calls_of (seen x) s) m → is_join_call ClaimWrite m.call.purpose ≡ true → is_write m.call.op ≡ true
claim_writes x s m orderly has none there claims = by m.call.purpose refl claims where
  inside : Contains (submitted (seen x)) m × (is_call_of s m ≡ true)
  inside = kept_inside (is_call_of s) (submitted (seen x)) m there

  by : (p : Purpose) → m.call.purpose ≡ p → is_join_call ClaimWrite p ≡ true → is_write m.call.op ≡ true
  by (Joining j ClaimWrite) is claim =
      let law = law_of x s m j ClaimWrite (record { orderly = orderly; has = has; there = inside.0; its = eqb-true m.call.session s.number inside.1; is = is; unjoined = none }) in
      let l : LawfulClaim x.setting (front_of law.0.made) s (made_as law.0.made) = law.1 in
      let wrote = then_value delta_of_record (record_of m.call.op) (delta_record (delta_of_session x.setting s) Claimed (l.found.generation + 1) (l.found.seq + 1) (made_as law.0.made).reading no_bits) l.written in
      record_writes m.call.op wrote.0 wrote.1
  by (Joining j FirstRead) is claim = absurd (false_is_true claim)
  by (Joining j WatchRead) is claim = absurd (false_is_true claim)
  by (Joining j DecidingRead) is claim = absurd (false_is_true claim)
  by (Joining j VerifyRead) is claim = absurd (false_is_true claim)
  by (Joining j FirstRenewal) is claim = absurd (false_is_true claim)
  by Renewal is claim = absurd (false_is_true claim)
  by Survey is claim = absurd (false_is_true claim)
  by (Leaving j) is claim = absurd (false_is_true claim)
  by (Lease work step) is claim = absurd (false_is_true claim)
  by (RequestRead j) is claim = absurd (false_is_true claim)
  by (RequestWrite j owner) is claim = absurd (false_is_true claim)
  by SeeRequest is claim = absurd (false_is_true claim)
  by (ValueWrite j) is claim = absurd (false_is_true claim)
  by (ValueRead j) is claim = absurd (false_is_true claim)

-- ---- an answer

pub hears_connections : (x : Step) (n : ℕ) (a : Answer) → Whole x → x.input ≡ Wake → x.effects.calls ≡ [] → Expects x (Told n a) → HasConnectionFacts (with_input (Told n a) x)
hears_connections x n a w wake bare expected =
    record {
      covers = λ s there is. h.covers s (old s there) (covered_back s is);
      needed = λ name is. needed (h.needed name is);
      joined = λ s c there is its. trans_le c.expiry (last_renewal x.setting (seen x) s + fail x.setting.timing) (last_renewal x.setting (seen u) s + fail x.setting.timing) (h.joined s c (old s there) is its) (grows s (old s there));
      joining = λ s c there is none its. h.joining s c (old s there) (input_present x (Told n a) s wake bare is) none its;
      writers = λ s z m there none inside writes opens also is same.
          writers s z m (old s there) none writes opens (old z also) (input_present x (Told n a) z wake bare is) same (in_map mark_one (calls_of (seen x) s) m (subst (λ ms. Contains ms m) (calls s) inside));
    } where
      u : Step
      u = with_input (Told n a) x

      e : Entry
      e = entry_of (with_input (Told n a) x)

      mark_one : Submitted → Submitted
      mark_one d = answered_in x.past (entry_of (with_input (Told n a) x)) n a d

      h : ConnectionFacts x.setting (seen x) None
      h = subst (λ k. ConnectionFacts x.setting (seen x) (heard_by k)) wake w.facts.connections

      old : (s : Session) → Contains (sessions x.setting (seen (with_input (Told n a) x))) s → Contains (sessions x.setting (seen x)) s
      old s there = subst (λ ss. Contains ss s) (sessions_told x (Told n a) bare) there

      now : (s : Session) → Contains (sessions x.setting (seen x)) s → Contains (sessions x.setting (seen (with_input (Told n a) x))) s
      now s there = subst (λ ss. Contains ss s) (sym (sessions_told x (Told n a) bare)) there

      calls : (s : Session) → calls_of (seen (with_input (Told n a) x)) s ≡ map mark_one (calls_of (seen x) s)
      calls s = calls_of_told x (Told n a) s wake bare

      same_call : (m : Submitted) → SameCall (answered_in x.past (entry_of (with_input (Told n a) x)) n a m) m
      same_call m = same_answered x.past (entry_of (with_input (Told n a) x)) n a m

      -- what was covered
      stage_back : (ms : List Submitted) → is_covered_stage (stage_in (map mark_one ms)) ≡ true → is_covered_stage (stage_in ms) ≡ true
      stage_back [] is = is
      stage_back (m ∷ ms) is = by (is_answered_ok m) refl (claimed_or_same m.call.purpose (is_answered_ok (mark_one m)) (is_answered_ok m) (sym (ap (λ p. is_covered_stage (stage_by_ok p (is_answered_ok (mark_one m)))) (ap (λ (c : Call). c.purpose) (same_call m).call)) ∙ is)) where
        by : (b : Bool) → is_answered_ok m ≡ b → (is_covered_stage (stage_by_ok m.call.purpose (is_answered_ok m)) ≡ true) ⊎ ((is_join_call ClaimWrite m.call.purpose ≡ true) × (is_answered_ok (mark_one m) ≡ false) × (is_answered_ok m ≡ true))
            → is_covered_stage (stage_by_ok m.call.purpose (is_answered_ok m)) ≡ true
        by b ok (inl covered) = covered
        by b ok (inr claim) = absurd (not_both (is_answered_ok (mark_one m)) (ok_stays x.past e n a m claim.2) claim.1)

      covered_back : (s : Session) → is_covered (seen (with_input (Told n a) x)) s ≡ true → is_covered (seen x) s ≡ true
      covered_back s is = by (joined_after (seen x) s) refl where
        either : joined_after (seen x) s ≡ None
            → ((refused_after (seen x) s ≡ None) × (is_covered_stage (stage_in (calls_of (seen (with_input (Told n a) x)) s)) ≡ true)) ⊎ ((is_some (refused_after (seen x) s) ≡ true) × (has_open_write (seen (with_input (Told n a) x)) s ≡ true))
            → is_covered (seen x) s ≡ true
        either none (inl both) = covered_at_work (seen x) s none both.0 ∙ stage_back (calls_of (seen x) s) (subst (λ ms. is_covered_stage (stage_in ms) ≡ true) (calls s) both.1)
        either none (inr both) = covered_refused (seen x) s none both.0 ∙ write_then x (Told n a) s wake bare both.1

        by : (o : Option ℕ) → joined_after (seen x) s ≡ o → is_covered (seen x) s ≡ true
        by (Some k) joined = joined_is_covered (seen x) s (joined_and_covered (seen (with_input (Told n a) x)) s (ap (λ o. is_some o) joined) is)
        by None none =
            either none (covered_unjoined (joined_after (seen x) s) (removed_after (seen x) s) (refused_after (seen x) s) (calls_of (seen (with_input (Told n a) x)) s) none is)

      heard_one : (s : Session) (m : Submitted) → joined_after (seen x) s ≡ None → Contains (calls_of (seen x) s) m → is_write m.call.op ≡ true → (m.call.number == n) ≡ true → IsHeardWriter (seen (with_input (Told n a) x)) (Some n) s
      heard_one s m none there writes number = (
        none,
        (
          mark_one m,
          subst (λ ms. Contains ms (mark_one m)) (sym (calls s)) (contains_map mark_one (calls_of (seen x) s) m there),
          ap (λ (c : Call). is_write c.op) (same_call m).call ∙ writes,
          ap (λ k. Some k) (sym (ap (λ (c : Call). c.number) (same_call m).call ∙ eqb-true m.call.number n number)),
        ),
      )

      covered_then : (s : Session) → Contains (sessions x.setting (seen x)) s → is_covered (seen x) s ≡ true → (is_covered (seen (with_input (Told n a) x)) s ≡ true) ⊎ IsHeardWriter (seen (with_input (Told n a) x)) (Some n) s
      covered_then s there is = by (joined_after (seen x) s) refl where
        claimed : joined_after (seen x) s ≡ None → refused_after (seen x) s ≡ None → (ms : List Submitted) → calls_of (seen x) s ≡ ms → is_covered_stage (stage_in ms) ≡ true
            → (is_covered (seen (with_input (Told n a) x)) s ≡ true) ⊎ IsHeardWriter (seen (with_input (Told n a) x)) (Some n) s
        claimed none unrefused [] are stage = absurd (false_is_true stage)
        claimed none unrefused (m ∷ ms) are stage = to (claimed_or_same m.call.purpose (is_answered_ok m) (is_answered_ok (mark_one m)) stage) where
          to : (is_covered_stage (stage_by_ok m.call.purpose (is_answered_ok (mark_one m))) ≡ true) ⊎ ((is_join_call ClaimWrite m.call.purpose ≡ true) × (is_answered_ok m ≡ false) × (is_answered_ok (mark_one m) ≡ true))
              → (is_covered (seen (with_input (Told n a) x)) s ≡ true) ⊎ IsHeardWriter (seen (with_input (Told n a) x)) (Some n) s
          to (inl covered) =
              inl (covered_at_work (seen (with_input (Told n a) x)) s none unrefused
              ∙ (ap (λ ks. is_covered_stage (stage_in ks)) (calls s ∙ ap (λ ks. map mark_one ks) are)
              ∙ (ap (λ p. is_covered_stage (stage_by_ok p (is_answered_ok (mark_one m)))) (ap (λ (c : Call). c.purpose) (same_call m).call) ∙ covered)))
          to (inr claim) = inr (heard_one s m none mine (claim_writes x s m w.orderly (session_has x.setting (seen x) s there) none mine claim.0) (number (m.call.number == n) refl)) where
            mine : Contains (calls_of (seen x) s) m
            mine = subst (λ ks. Contains ks m) (sym are) (contains_first m ms)

            number : (b : Bool) → (m.call.number == n) ≡ b → (m.call.number == n) ≡ true
            number true its = its
            number false its = absurd (not_both (is_answered_ok m) (ap (λ k. is_answered_ok k) (sym (other_marked x.past e n a m its)) ∙ claim.2) claim.1)

        refused : joined_after (seen x) s ≡ None → is_some (refused_after (seen x) s) ≡ true → has_open_write (seen x) s ≡ true → (b : Bool) → has_open_write (seen (with_input (Told n a) x)) s ≡ b
            → (is_covered (seen (with_input (Told n a) x)) s ≡ true) ⊎ IsHeardWriter (seen (with_input (Told n a) x)) (Some n) s
        refused none gone writes true open_now = inl (covered_refused (seen (with_input (Told n a) x)) s none gone ∙ open_now)
        refused none gone writes false open_now = to (any_found (λ (m : Submitted). is_write m.call.op) (open_calls_of (seen x) s) writes) where
          to : (m : Submitted) × Contains (open_calls_of (seen x) s) m × (is_write m.call.op ≡ true) → (is_covered (seen (with_input (Told n a) x)) s ≡ true) ⊎ IsHeardWriter (seen (with_input (Told n a) x)) (Some n) s
          to f = inr (heard_one s f.0 none left.0 f.2 (number (f.0.call.number == n) refl)) where
            left : Contains (calls_of (seen x) s) f.0 × (is_none f.0.answer ≡ true)
            left = kept_inside (λ (k : Submitted). is_none k.answer) (calls_of (seen x) s) f.0 f.1

            number : (b : Bool) → (f.0.call.number == n) ≡ b → (f.0.call.number == n) ≡ true
            number true its = its
            number false its =
                let still : Contains (calls_of (seen (with_input (Told n a) x)) s) f.0 =
                subst (λ ms. Contains ms f.0) (sym (calls s)) (subst (λ k. Contains (map mark_one (calls_of (seen x) s)) k) (other_marked x.past e n a f.0 its) (contains_map mark_one (calls_of (seen x) s) f.0 left.0))
                in
                absurd (not_both (has_open_write (seen (with_input (Told n a) x)) s)
                (any_of (λ (m : Submitted). is_write m.call.op) (open_calls_of (seen (with_input (Told n a) x)) s) f.0 f.2 (kept (λ (k : Submitted). is_none k.answer) (calls_of (seen (with_input (Told n a) x)) s) f.0 left.1 still)) open_now)

        either : joined_after (seen x) s ≡ None
            → ((refused_after (seen x) s ≡ None) × (is_covered_stage (stage_in (calls_of (seen x) s)) ≡ true)) ⊎ ((is_some (refused_after (seen x) s) ≡ true) × (has_open_write (seen x) s ≡ true))
            → (is_covered (seen (with_input (Told n a) x)) s ≡ true) ⊎ IsHeardWriter (seen (with_input (Told n a) x)) (Some n) s
        either none (inl both) = claimed none both.0 (calls_of (seen x) s) refl both.1
        either none (inr both) = refused none both.0 both.1 (has_open_write (seen (with_input (Told n a) x)) s) refl

        by : (o : Option ℕ) → joined_after (seen x) s ≡ o → (is_covered (seen (with_input (Told n a) x)) s ≡ true) ⊎ IsHeardWriter (seen (with_input (Told n a) x)) (Some n) s
        by (Some k) joined = inl (joined_is_covered (seen (with_input (Told n a) x)) s (joined_and_covered (seen x) s (ap (λ o. is_some o) joined) is))
        by None none = either none (covered_unjoined (joined_after (seen x) s) (removed_after (seen x) s) (refused_after (seen x) s) (calls_of (seen x) s) none is)

      needed : {name : List ℕ} → (s : Session) × Contains (sessions x.setting (seen x)) s × (s.lockspace ≡ name) × ((is_covered (seen x) s ≡ true) ⊎ IsHeardWriter (seen x) None s)
          → (s : Session) × Contains (sessions x.setting (seen (with_input (Told n a) x))) s × (s.lockspace ≡ name) × ((is_covered (seen (with_input (Told n a) x)) s ≡ true) ⊎ IsHeardWriter (seen (with_input (Told n a) x)) (Some n) s)
      needed k = (k.0, now k.0 k.1, k.2, by k.3) where
        by : (is_covered (seen x) k.0 ≡ true) ⊎ IsHeardWriter (seen x) None k.0 → (is_covered (seen (with_input (Told n a) x)) k.0 ≡ true) ⊎ IsHeardWriter (seen (with_input (Told n a) x)) (Some n) k.0
        by (inl is) = covered_then k.0 k.1 is
        by (inr writer) = absurd (none_some writer.1.0.call.number writer.1.3)

      -- the last renewal counts on
      found_before : (d : Submitted) → Contains (submitted x.past) d → call_numbered x.past d.call.number ≡ Some d
      found_before d there = subst (λ ms. find (λ (m : Submitted). m.call.number == d.call.number) ms ≡ Some d) (calls_before x wake bare) (w.facts.calls.found d (subst (λ ms. Contains ms d) (sym (calls_before x wake bare)) there))

      grows : (s : Session) → Contains (sessions x.setting (seen x)) s → last_renewal x.setting (seen x) s + fail x.setting.timing ≤ last_renewal x.setting (seen (with_input (Told n a) x)) s + fail x.setting.timing
      grows s there = by (next_renewal x.setting x.past s (entry_of (with_input (Told n a) x))) where
        last : last_renewal x.setting (seen x) s ≡ last_renewal x.setting x.past s
        last = last_woken x s wake

        mine : session_numbered x.setting x.past s.number ≡ Some s
        mine = subst (λ ss. slice_get ss s.number ≡ Some s) (sessions_bare x bare) (session_has x.setting (seen x) s there)

        by : NextRenewal x.setting x.past s (entry_of (with_input (Told n a) x)) → last_renewal x.setting (seen x) s + fail x.setting.timing ≤ last_renewal x.setting (seen (with_input (Told n a) x)) s + fail x.setting.timing
        by (Stays none is) = omega (arith, last, is)
        by (Counts m none told_is is) =
            let t = told x.past s (Told n a) m told_is in
            let found = find_inside (λ (k : Submitted). k.call.number == t.number) (submitted x.past) m t.found in
            let number : m.call.number ≡ n = eqb-true m.call.number t.number found.1 ∙ sym (some_value n t.number (ap (λ i. heard_by i) t.told)) in
            let waits : m.answer ≡ None = was_unanswered x.setting x.past n a m expected found_before found.0 number in
            let below : last_renewal x.setting x.past s ≤ m.reading = renewed_after x.setting x.past s m w.before.orderly mine found.0 (eqb-true m.call.session s.number t.its) t.renews waits in
            omega (arith, last, below, is)

      writers : (s z : Session) (m : Submitted) → Contains (sessions x.setting (seen x)) s → joined_after (seen x) s ≡ None → is_write m.call.op ≡ true → IsOpen (seen (with_input (Told n a) x)) (Some n) m → Contains (sessions x.setting (seen x)) z
          → is_present (seen x) z ≡ true → z.lockspace ≡ s.lockspace → (d : Submitted) × Contains (calls_of (seen x) s) d × (mark_one d ≡ m) → z ≡ s
      writers s z m there none writes opens also is same d =
          h.writers s z d.0 there none d.1 (ap (λ (c : Call). is_write c.op) (sym (same_call d.0).call) ∙ (ap (λ (k : Submitted). is_write k.call.op) d.2 ∙ writes)) (inl (opened opens)) also is same
        where
          inside : Contains (submitted x.past) d.0
          inside = subst (λ ms. Contains ms d.0) (calls_before x wake bare) (kept_inside (is_call_of s) (submitted (seen x)) d.0 d.1).0

          opened : IsOpen (seen (with_input (Told n a) x)) (Some n) m → d.0.answer ≡ None
          opened (inr heard) =
              was_unanswered x.setting x.past n a d.0 expected found_before inside
              (ap (λ (c : Call). c.number) (sym (same_call d.0).call) ∙ (ap (λ (k : Submitted). k.call.number) d.2 ∙ sym (some_value n m.call.number heard.0)))
          opened (inl unanswered_one) = by (d.0.call.number == n) refl where
            by : (b : Bool) → (d.0.call.number == n) ≡ b → d.0.answer ≡ None
            by true its = was_unanswered x.setting x.past n a d.0 expected found_before inside (eqb-true d.0.call.number n its)
            by false its = ap (λ (k : Submitted). k.answer) (sym (other_marked x.past e n a d.0 its) ∙ d.2) ∙ unanswered_one
