-- At the end of an answer's entry no job goes on under a session in recovery or leaving.
use Rattle.sl_due_facts.specs.Acts.Acts.{Hears, IsIdle, lone_job}
use Rattle.sl_area.specs.AreaLayout.{request_offset}
use Rattle.sl_due.specs.DueAnswers.{set_reply}
use Rattle.sl_due.specs.CarriedDelta.{begins_by_read}
use Rattle.sl_due.specs.CarriedLease.{next_of_lease}
use Rattle.sl_due.specs.DueRequests.{after_value_read, value_reply}
use Rattle.sl_due.specs.Steps.{Step, seen, with_input}
use Rattle.sl_due_facts.proofs.Jobs.EffectsAreAllowed.{delta, lease, removal, removal_of_refused, requested, sent}
use Rattle.sl_due_facts.proofs.Jobs.NearlyPlainActs.{AnyMove, AnyStart, Anything, Nearly, NoLook, free_plain, freed_plain, joining_plain, lease_plain, renewed_plain, request_plain}
use Rattle.sl_due_facts.proofs.Jobs.QuietEffects.{quiet_effects}
use Rattle.sl_due_facts.proofs.Jobs.QuietFactsConclude.{plain_at, plain_heard, plain_survey, shown_quiet}
use Rattle.sl_due_facts.proofs.Jobs.RepliesComeAfter.{joining_late}
use Rattle.sl_due_facts.proofs.Jobs.SessionsArePresent.{joined_present}
use Rattle.sl_due_facts.specs.Jobs.JobLaws.{IsQuiet, QuietFactsConclude}
use Rattle.sl_trace.specs.Leases.{spot_of_call}
use Rattle.sl_words.proofs.Lists.{find_inside}
use Rattle.sl_words.proofs.Options.{some_of}
use Rattle.sl_trace.specs.DeltaDecisions.{delta_known, delta_of_session, next_after_free, next_after_renewal, next_free, next_in_joining}
use Rattle.sl_trace.specs.Sessions.{calls_of, generation_of, is_joined, is_present, is_survey_purpose, recovery_of, session_numbered}
use Rattle.sl_trace.specs.declared.session.Session.{Session}
use Rattle.sl_due_facts.specs.Facts.AllFacts.{Whole}
use Rattle.sl_trace.specs.Traces.{Submitted, bytes_given, call_numbered, submitted}
use Rattle.sl_trace.specs.declared.effects.Op.TheVariants.{ReadSectors}
use Rattle.sl_trace.specs.declared.effects.Purpose.{Purpose}
use Rattle.sl_trace.specs.declared.effects.Purpose.TheVariants.{Joining, Lease, Leaving, Renewal, RequestRead, RequestWrite, SeeRequest, Survey, ValueRead, ValueWrite}
use Rattle.sl_trace.specs.declared.input.Answer.{Answer}
use Rattle.sl_trace.specs.declared.input.Answer.TheVariants.{Failed, Read, Written}
use Rattle.sl_trace.specs.declared.input.Input.TheVariants.{Answer as Told, Wake}
use Rattle.sl_trace.specs.declared.reply.Reply.TheVariants.{Done, IoFault}
use Rattle.sl_words.proofs.CaseLaws.{none_some, not_both, true_is_false}
use Rattle.std.proofs.Common.{ap, inl, inr, refl, subst, sym, ◌∙◌}
use Rattle.std.specs.Prelude.{None, Some, false, is_some, true, ℕ, ◌==◌, ◌≡◌, ◌⊎◌}

no_survey : (m : Submitted) (p : Purpose) → m.call.purpose ≡ p → is_survey_purpose p ≡ false → is_survey_purpose m.call.purpose ≡ false
no_survey m p is other = ap (λ q. is_survey_purpose q) is ∙ other

lone_no_survey : (p : Purpose) (j : ℕ) → lone_job p ≡ Some j → is_survey_purpose p ≡ false
lone_no_survey Survey j is = absurd (none_some j is)
lone_no_survey (Joining k step) j is = refl
lone_no_survey Renewal j is = refl
lone_no_survey (Leaving k) j is = refl
lone_no_survey (Lease work step) j is = refl
lone_no_survey (RequestRead k) j is = refl
lone_no_survey (RequestWrite k owner) j is = refl
lone_no_survey SeeRequest j is = refl
lone_no_survey (ValueWrite k) j is = refl
lone_no_survey (ValueRead k) j is = refl

quietly : Nearly IsQuiet
quietly = quiet_effects (λ i. None)

idle_quiet : (x : Step) (s : Session) (m : Submitted) (answer : Answer) → Whole x → Hears x s m answer → (p : Purpose) → m.call.purpose ≡ p → IsIdle x s m answer p → IsQuiet x
idle_quiet x s m answer h hears Survey is idle =
    plain_survey x s m answer hears.number h hears.heard hears.call hears.session (λ joined bytes begins. by joined bytes begins idle) where
      by : is_joined (seen x) s ≡ true → is_some (bytes_given answer) ≡ true → begins_by_read (seen x) (recovery_of x.setting (seen x) s) ≡ true
          → (bytes_given answer ≡ None) ⊎ ((is_joined (seen x) s ≡ false) ⊎ (begins_by_read (seen x) (recovery_of x.setting (seen x) s) ≡ false)) → ⊥
      by joined bytes begins (inl none) = true_is_false (sym bytes ∙ ap (λ o. is_some o) none)
      by joined bytes begins (inr (inl gone)) = not_both (is_joined (seen x) s) joined gone
      by joined bytes begins (inr (inr other)) = not_both (begins_by_read (seen x) (recovery_of x.setting (seen x) s)) begins other
idle_quiet x s m answer h hears (Joining k step) is idle = plain_heard x s m answer h hears (no_survey m (Joining k step) is refl)
idle_quiet x s m answer h hears Renewal is idle = plain_heard x s m answer h hears (no_survey m Renewal is refl)
idle_quiet x s m answer h hears (Leaving k) is idle = plain_heard x s m answer h hears (no_survey m (Leaving k) is refl)
idle_quiet x s m answer h hears (Lease work step) is idle = plain_heard x s m answer h hears (no_survey m (Lease work step) is refl)
idle_quiet x s m answer h hears (RequestRead k) is idle = plain_heard x s m answer h hears (no_survey m (RequestRead k) is refl)
idle_quiet x s m answer h hears (RequestWrite k owner) is idle = plain_heard x s m answer h hears (no_survey m (RequestWrite k owner) is refl)
idle_quiet x s m answer h hears SeeRequest is idle = plain_heard x s m answer h hears (no_survey m SeeRequest is refl)
idle_quiet x s m answer h hears (ValueWrite k) is idle = plain_heard x s m answer h hears (no_survey m (ValueWrite k) is refl)
idle_quiet x s m answer h hears (ValueRead k) is idle = plain_heard x s m answer h hears (no_survey m (ValueRead k) is refl)

late_quiet : (x : Step) (n : ℕ) (answer : Answer) (m : Submitted) (s : Session) → Whole x → x.input ≡ Told n answer → call_numbered (seen x) n ≡ Some m → session_numbered x.setting (seen x) m.call.session ≡ Some s
    → is_present (seen (with_input Wake x)) s ≡ false → IsQuiet x
late_quiet x n answer m s h told found session gone =
    plain_survey x s m answer n h told found session (λ joined bytes begins. not_both (is_present (seen (with_input Wake x)) s) (joined_present (seen (with_input Wake x)) s joined) gone)

none_quiet : (x : Step) (n : ℕ) (answer : Answer) → Whole x → x.input ≡ Told n answer → call_numbered (seen x) n ≡ None → IsQuiet x
none_quiet x n answer h told none =
    plain_at x n answer h told (λ z there joined r. none_some r.call (sym none ∙ subst (λ k. call_numbered (seen x) k ≡ Some r.call) r.number (h.facts.calls.found r.call r.there)))

pub quiet_facts_conclude : QuietFactsConclude
unfolding after_value_read
quiet_facts_conclude =
    let p : Nearly IsQuiet = quietly in
    record {
      finds_none = λ x n answer told none h. none_quiet x n answer h told none;
      finds_nobody = λ x n answer m told found nobody h.
          let there = (find_inside (λ (z : Submitted). z.call.number == n) (submitted (seen x)) m found).0 in
          let s = some_of (session_numbered x.setting (seen x) m.call.session) (h.facts.calls.owned m there) in absurd (none_some s.0 (sym nobody ∙ s.1));
      comes_late = λ x n answer m s told found session gone h. late_quiet x n answer m s h told found session gone;
      idles = λ x s m answer hears idle h. idle_quiet x s m answer h hears m.call.purpose refl idle;
      joins_on = λ x s j step m answer hears is runs h.
          delta IsQuiet IsQuiet Anything NoLook AnyStart AnyMove p x s (next_in_joining (delta_of_session x.setting s) (generation_of (seen x) s) (calls_of (seen x) s) x.reading m step answer)
          (joining_plain x s (next_in_joining (delta_of_session x.setting s) (generation_of (seen x) s) (calls_of (seen x) s) x.reading m step answer)
          (joining_late (delta_of_session x.setting s) (generation_of (seen x) s) (calls_of (seen x) s) x.reading m step answer)) (plain_heard x s m answer h hears (no_survey m (Joining j step) is refl));
      ends_joining = λ x s j step m answer hears is stops h.
          removal_of_refused IsQuiet IsQuiet Anything NoLook AnyStart AnyMove p x s tt (plain_heard x s m answer h hears (no_survey m (Joining j step) is refl));
      renewed = λ x s m answer hears is h.
          delta IsQuiet IsQuiet Anything NoLook AnyStart AnyMove p x s (next_after_renewal (is_some (recovery_of x.setting (seen x) s)) m.reading answer)
          (renewed_plain x s (is_some (recovery_of x.setting (seen x) s)) m.reading answer) (plain_heard x s m answer h hears (no_survey m Renewal is refl));
      freed = λ x s j m answer hears is h.
          delta IsQuiet IsQuiet Anything NoLook AnyStart AnyMove p x s (next_after_free j m.call.number answer) (freed_plain x s j m.call.number answer) (plain_heard x s m answer h hears (no_survey m (Leaving j) is refl));
      shown = λ x s m bytes hears is joined begins h. shown_quiet x s m bytes h hears;
      sees = λ x s number bytes spot g has input held h. p.calls x s g.path SeeRequest (request_offset x.setting.layout g.offset) (ReadSectors 1) refl h.1;
      leads_on = λ x s work step m answer aim hears is on aims h.
          lease IsQuiet IsQuiet Anything NoLook AnyStart AnyMove p x s (spot_of_call x.setting.layout m) work (next_of_lease x.setting (seen x) s (spot_of_call x.setting.layout m) aim m step answer)
          (lease_plain x s (spot_of_call x.setting.layout m) work (next_of_lease x.setting (seen x) s (spot_of_call x.setting.layout m) aim m step answer)) (plain_heard x s m answer h hears (no_survey m (Lease work step) is refl));
      fails = λ x s m j hears lone runs h. p.replies x j (IoFault m.call.number) tt (plain_heard x s m Failed h hears (lone_no_survey m.call.purpose j lone));
      has_asked = λ x s m j owner hears is runs h. p.replies x j Done tt (plain_heard x s m Written h hears (no_survey m (RequestWrite j owner) is refl));
      has_set = λ x s m j hears is runs h. p.replies x j (set_reply m) tt (plain_heard x s m Written h hears (no_survey m (ValueWrite j) is refl));
      asks = λ x s m j bytes c hears is runs reads_one h.
          requested IsQuiet IsQuiet Anything NoLook AnyStart AnyMove p x s j bytes c (request_plain x s j bytes c) (plain_heard x s m (Read bytes) h hears (no_survey m (RequestRead j) is refl));
      tells = λ x s m j bytes hears is runs h. p.replies x j (value_reply x.setting.layout bytes) tt (plain_heard x s m (Read bytes) h hears (no_survey m (ValueRead j) is refl));
      warns = λ x s m bytes g signal hears is held own says h. sent IsQuiet IsQuiet Anything NoLook AnyStart AnyMove p tt x g.process signal (plain_heard x s m (Read bytes) h hears (no_survey m SeeRequest is refl));
      parts = λ x s has joined recovers_one free quiet h. removal IsQuiet IsQuiet Anything NoLook AnyStart AnyMove p x s.lockspace tt h.1;
      frees = λ x s has joined well free quiet h.
          delta IsQuiet IsQuiet Anything NoLook AnyStart AnyMove p x s (next_free (delta_of_session x.setting s) x.reading (delta_known x.setting (seen x) s))
          (free_plain x s (delta_of_session x.setting s) x.reading (delta_known x.setting (seen x) s)) h.1;
    }
