-- Each act gives its replies with their causes, and leaves those of the replies before it.
use Rattle.sl_due_law.proofs.Causes.LinesKeepCauses.{AnswersNobody, Gives, Keeps, at_once, by_act, commanded, exit_done, exit_no_wake, explained_awake, from_wake, lease_may, line_may, line_no_wake, misread_caused, no_line_awake, no_line_heard, nobody, number_no_wake, once_by, open_awake, open_unless_told, spawned_no_line, spawned_no_wake, told_no_wake}
use Rattle.sl_due_law.proofs.Causes.LaterCauses.{released_caused, requested_caused, set_caused, started_caused}
use Rattle.sl_due_facts.proofs.Acts.LoopsKeep.{for_each_keeps, when_keeps}
use Rattle.sl_due_facts.proofs.Acts.InputsKeep.{has_heard}
use Rattle.sl_due_facts.specs.Acts.Acts.{Has, Hears, next_of_settling}
use Rattle.sl_due_facts.specs.Acts.TraceSoFar.{entry_of}
use Rattle.sl_due_law.proofs.Causes.JoinCauses.{concluded_call, goes_on_still, joining_may, joining_well}
use Rattle.sl_due_law.proofs.Causes.LaterSteps.{AnyMove, Going, MayAnswer, MayCall, MayStart, answer_caused, begins, going, no_line, seen_caused, still_caused, told_no_line, wake_no_line}
use Rattle.sl_due_law.proofs.Causes.Leases.GrantCauses.{JobLed, exclusive_done, grant_done, shared_done}
use Rattle.sl_due_law.proofs.Causes.Leases.LeaseAnswers.{led_caused}
use Rattle.sl_due_law.proofs.Causes.PlainCauses.{fault_caused, freed_may, lone_of, request_caused, spawn_caused, told_caused}
use Rattle.sl_due_law.proofs.Causes.RecoveryCauses.{begun_by_read, begun_by_time, joined_before, present_joined, recovery_same, stop_caused}
use Rattle.sl_due_law.proofs.Causes.WakeCauses.{sessions_wake, timeout_caused, wake_well}
use Rattle.sl_due_law.specs.Causes.CausedSoFar.{CausedSoFar, IsConcluded, StaysCaused, is_explained}
use Rattle.sl_due_law.specs.Causes.CauseLaws.{CausesAreKept, CausesBegin}
use Rattle.sl_due.specs.DueAnswers.{set_reply}
use Rattle.sl_due.specs.DueCommands.{carry_decision}
use Rattle.sl_due.specs.CarriedDelta.{begins_by_read, carry_delta, see_request}
use Rattle.sl_due.specs.DueRecovery.{begin_recoveries, begin_recovery, begins_now, send, signal_and_refuse, signal_holders}
use Rattle.sl_due.specs.DueTimeOuts.{refuse, remove_connection, remove_of_refused}
use Rattle.sl_due.specs.DueInputs.{end_holdings, started_reply, when_running}
use Rattle.sl_due.specs.CarriedLease.{carry_lease, goes_on, next_of_lease}
use Rattle.sl_due.specs.DueRequests.{after_request_read, after_value_read, bits_due, value_reply}
use Rattle.sl_due.specs.Steps.{Step, begin_step, add_reply, add_signal, seen, with_input}
use Rattle.sl_due_leases.proofs.Holdings.HoldingsByDeltas.{same_session}
use Rattle.sl_due_leases.proofs.Holdings.LeaseCallers.{heard_call}
use Rattle.sl_due_leases.proofs.Holdings.MomentsAreKept.{Alike, removal_alike, same, signalled_alike, delta_ungranting}
use Rattle.sl_due_facts.proofs.Jobs.AnsweredCallsFit.{both_of}
use Rattle.sl_due_facts.proofs.Jobs.CallsOfJobsFit.{joining_of}
use Rattle.sl_due_facts.proofs.Jobs.CallsStay.{IsLate, is_special, late}
use Rattle.sl_due_facts.proofs.Jobs.EffectsAreAllowed.{DeltaAllowed, LeaseAllowed, RequestAllowed, decision, delta, ended, lease, refusal, removal, removal_of_refused, requested, said, sent, signalled, stopped}
use Rattle.sl_due_facts.proofs.Jobs.JobsAreAllowed.{late_on_survey, late_on_wake, late_unless_told}
use Rattle.sl_due_facts.proofs.Jobs.RepliesComeAfter.{IsLateLease, joining_late, lease_late, on_bool, request_late, set_late, value_late, wake_late}
use Rattle.sl_due_facts.proofs.Jobs.SessionsArePresent.{present_is, session_has}
use Rattle.sl_due_facts.proofs.Jobs.SessionsStand.{recovery_joined}
use Rattle.sl_due_facts.proofs.Jobs.CallsHaveFacts.{sessions_bare}
use Rattle.sl_trace.specs.Jobs.{aim_of, command_numbered, job_of_start, resource_named}
use Rattle.sl_trace.specs.LeaseDecisions.{lease_place}
use Rattle.sl_trace.specs.Leases.{known, lease_step, lver_written, spot_of_call}
use Rattle.sl_trace.specs.declared.lease.Aim.{Aim}
use Rattle.sl_trace.specs.declared.lease.LeaseNext.TheVariants.{AnswerJob, BecomeExclusive, BecomeShared, GrantJob, Nothing as No_lease, ReadFor, WriteBlock, WriteLeader}
use Rattle.sl_trace.specs.declared.lease.LeaseNext.{LeaseNext}
use Rattle.sl_due_facts.proofs.Jobs.JobFactsGrow.{contains_left}
use Rattle.sl_words.proofs.Lists.{contains_none, got_inside}
use Rattle.sl_sector.specs.Bitmaps.{no_bits}
use Rattle.sl_sector.specs.declared.sector.DeltaState.TheVariants.{Free, Live}
use Rattle.sl_sector.specs.declared.sector.Rec.TheVariants.{DeltaIs}
use Rattle.sl_sector.specs.declared.sector.DeltaRec.{DeltaRec}
use Rattle.sl_trace.specs.DeltaDecisions.{DeltaLease, delta_record, is_renewal_due, own_offset, delta_known, delta_of_session, next_after_free, next_after_renewal, next_free, next_in_joining, next_on_wake, next_renewal}
use Rattle.sl_trace.specs.Sessions.{is_joined, is_present, renewed_by, begun_in, calls_of, generation_of, joining_session, last_renewal, last_seq, present_sessions, recovery_of, sessions}
use Rattle.sl_trace.specs.declared.delta.DeltaNext.TheVariants.{MoveConnection, Nothing, WriteFree, WriteRenewal}
use Rattle.sl_trace.specs.declared.delta.DeltaKnown.{DeltaKnown}
use Rattle.sl_trace.specs.declared.delta.DeltaNext.{DeltaNext}
use Rattle.sl_trace.specs.declared.session.Begun.{Begun}
use Rattle.sl_trace.specs.declared.session.Session.{Session}
use Rattle.sl_due_facts.specs.Facts.AllFacts.{WholeTrace}
use Rattle.sl_due_facts.specs.Facts.JobFacts.{FitsCommand}
use Rattle.sl_trace.specs.Traces.{Setting, Submitted, Trace, line_in, is_running, job_of, next_job, work_job}
use Rattle.sl_trace.specs.declared.command.Command.TheVariants.{Acquire, AddLockspace, Convert, GetLvb, HostStatus, InqLockspace, Release, ReleaseOrphan, RemLockspace, Request, RunProgram, SetKillpath, SetLvb, Status, TakeOver}
use Rattle.sl_trace.specs.declared.command.Command.{Command}
use Rattle.sl_trace.specs.declared.command.ResourceArg.{ResourceArg}
use Rattle.sl_trace.specs.declared.effects.JoinStep.TheVariants.{FirstRead}
use Rattle.sl_trace.specs.declared.effects.JoinStep.{JoinStep}
use Rattle.sl_trace.specs.declared.effects.LeaseStep.{LeaseStep}
use Rattle.sl_trace.specs.declared.effects.Op.TheVariants.{ReadSectors, WriteRecord}
use Rattle.sl_trace.specs.declared.effects.Purpose.TheVariants.{Joining, Lease, Leaving, RequestRead, SeeRequest, Survey}
use Rattle.sl_trace.specs.declared.effects.Purpose.{Purpose}
use Rattle.sl_trace.specs.declared.effects.Signal.TheVariants.{Kill, Term}
use Rattle.sl_trace.specs.declared.effects.Spot.{Spot}
use Rattle.sl_trace.specs.declared.effects.Work.TheVariants.{ForJob, Settling}
use Rattle.sl_trace.specs.declared.effects.Work.{Work}
use Rattle.sl_trace.specs.declared.input.Answer.TheVariants.{Failed, Read, Written}
use Rattle.sl_trace.specs.declared.input.Answer.{Answer}
use Rattle.sl_trace.specs.declared.input.Input.TheVariants.{Answer as Told, Exit, Line, Number, Spawned, Wake}
use Rattle.sl_trace.specs.declared.reply.Reply.TheVariants.{BadCommand as Misread, Done, IoFault, IoTimeout, Recovering, SpawnFault}
use Rattle.sl_trace.specs.declared.reply.Reply.{Reply}
use Rattle.sl_words.proofs.WordLaws.{some_is_true}
use Rattle.sl_words.proofs.CaseLaws.{none_some, not_both, some_value}
use Rattle.std.proofs.Common.{ap, refl, subst, sym, ◌∙◌}
use Rattle.std.specs.Prelude.{Bool, Contains, List, None, Option, Some, false, is_some, length, true, ℕ, ◌+◌, ◌==◌, ◌≡◌}

-- ---- answers

-- A reply to the job of the call that was heard.
replied : (x : Step) (s : Session) (m : Submitted) (answer : Answer) (j : ℕ) (r : Reply) → CausedSoFar is_explained x → Hears x s m answer → is_special r ≡ false → (is_explained x.input r ≡ true → StaysCaused x (record { job = j; reply = r }))
    → CausedSoFar is_explained (add_reply j r x)
replied x s m answer j r h hears after cause =
    by_act x (add_reply j r x) (no_line_heard x s m answer hears) ((going (is_explained x.input) x).replies x j r (late x r after, cause) (begins (is_explained x.input) x)) h

delta_done : (x : Step) (s : Session) (n : DeltaNext) → DeltaAllowed (MayAnswer (is_explained x.input) x) (MayCall x) AnyMove x s n → Going (is_explained x.input) x (carry_delta s n x)
delta_done x s n may = delta (Going (is_explained x.input) x) (Going (is_explained x.input) x) (MayAnswer (is_explained x.input) x) (MayCall x) (MayStart x) AnyMove (going (is_explained x.input) x) x s n may (begins (is_explained x.input) x)

lease_done : (x : Step) (s : Session) (at : Spot) (work : Work) (n : LeaseNext) → LeaseAllowed (MayAnswer (is_explained x.input) x) (MayCall x) (MayStart x) x s at work n → Going (is_explained x.input) x (carry_lease s at work n x)
lease_done x s at work n may = lease (Going (is_explained x.input) x) (Going (is_explained x.input) x) (MayAnswer (is_explained x.input) x) (MayCall x) (MayStart x) AnyMove (going (is_explained x.input) x) x s at work n may (begins (is_explained x.input) x)

joined_on : (x : Step) (s : Session) (j : ℕ) (step : JoinStep) (m : Submitted) (answer : Answer) → Keeps x → Hears x s m answer → m.call.purpose ≡ Joining j step → is_running (seen x) j ≡ true
    → CausedSoFar is_explained (carry_delta s (next_in_joining (delta_of_session x.setting s) (generation_of (seen x) s) (calls_of (seen x) s) x.reading m step answer) x)
joined_on x s j step m answer k hears is runs =
    let n : DeltaNext = next_in_joining (delta_of_session x.setting s) (generation_of (seen x) s) (calls_of (seen x) s) x.reading m step answer in
    by_act x (carry_delta s n x) (no_line_heard x s m answer hears)
    (delta_done x s n
    (joining_may (is_explained x.input) x s j n (joining_of x s m j step (both_of x k.0.0) (heard_call x s m answer hears).0 hears.session is) (goes_on_still x s m answer k.0 hears (ap (λ p. lease_step p) is)) (λ r after. late x r after)
    (joining_late (delta_of_session x.setting s) (generation_of (seen x) s) (calls_of (seen x) s) x.reading m step answer)
    (joining_well (is_explained x.input) x s m j step answer k.1.before k.1.facts runs (record { known = k.0; hears = hears; purpose = is })))) k.1

-- The work on a lease goes on, or its job is answered.
leads : (x : Step) (s : Session) (work : Work) (step : LeaseStep) (m : Submitted) (answer : Answer) (aim : Aim) → Keeps x → Hears x s m answer → m.call.purpose ≡ Lease work step → goes_on x.setting (seen x) s work ≡ true
    → aim_of x.setting (seen x) work ≡ Some aim → (n : LeaseNext) → next_of_lease x.setting (seen x) s (spot_of_call x.setting.layout m) aim m step answer ≡ n → CausedSoFar is_explained (carry_lease s (spot_of_call x.setting.layout m) work n x)
unfolding carry_lease
leads x s work step m answer aim k hears is on aims n next = by work n is on aims next where
  at : Spot
  at = spot_of_call x.setting.layout m

  going_on : (w : Work) → m.call.purpose ≡ Lease w step → goes_on x.setting (seen x) s w ≡ true → IsConcluded x → ⊥
  going_on Settling its runs c =
      none_some c.job (sym (ap (λ p. job_of p) its) ∙ (ap (λ (d : Submitted). job_of d.call.purpose) (sym (concluded_call x s m answer k.0 hears c)) ∙ ap (λ p. job_of p) c.purpose))
  going_on (ForJob j) its runs c =
      let same : c.job ≡ j =
      some_value c.job j (sym (ap (λ p. job_of p) c.purpose) ∙ (ap (λ (d : Submitted). job_of d.call.purpose) (concluded_call x s m answer k.0 hears c) ∙ ap (λ p. job_of p) its)) in
      not_both (is_running (seen x) j) runs (subst (λ i. is_running (seen x) i ≡ false) same c.over)

  other : (w : Work) (q : LeaseNext) → m.call.purpose ≡ Lease w step → goes_on x.setting (seen x) s w ≡ true → AnswersNobody q → (Gives q → (j : ℕ) → work_job w ≡ Some j → ⊥) → CausedSoFar is_explained (carry_lease s at w q x)
  other w q its runs none gives =
      by_act x (carry_lease s at w q x) (no_line_heard x s m answer hears)
      (lease_done x s at w q (lease_may x x s at w q (going_on w its runs) (nobody x q w none) (λ so j lver own. absurd (gives so j own)) (λ i own wake. told_no_wake x.input hears.number answer hears.heard wake))) k.1

  led : (j : ℕ) → m.call.purpose ≡ Lease (ForJob j) step → goes_on x.setting (seen x) s (ForJob j) ≡ true → aim_of x.setting (seen x) (ForJob j) ≡ Some aim → JobLed is_explained x s m answer j step aim
  led j its runs aims = record { known = k.0; caused = k.1; hears = hears; purpose = its; aims = aims; unconcluded = going_on (ForJob j) its runs }

  by : (w : Work) (q : LeaseNext) → m.call.purpose ≡ Lease w step → goes_on x.setting (seen x) s w ≡ true → aim_of x.setting (seen x) w ≡ Some aim → next_of_lease x.setting (seen x) s at aim m step answer ≡ q
      → CausedSoFar is_explained (carry_lease s at w q x)
  by Settling (AnswerJob r) its runs aims says = k.1
  by (ForJob j) (AnswerJob r) its runs aims says =
      let may : IsLate x r = late x r (subst (λ v. IsLateLease v) says (lease_late (lease_place x.setting s) (known x.setting (seen x) s at) aim m.call.number (lver_written m) step answer)) in
      answer_caused is_explained x j r (no_line x (add_reply j r x) (no_line_heard x s m answer hears)) may
      (λ shown. led_caused (is_explained x.input) x s m answer j step aim r k.0 k.1.before k.1.facts.suit hears its aims may says (λ is d. released_caused x s m answer j step aim k.0 k.1.facts hears its runs aims (says ∙ ap (λ q. AnswerJob q) is) (late x Done refl)) shown) k.1
  by w No_lease its runs aims says = other w No_lease its runs tt (λ so j own. so)
  by w (ReadFor q) its runs aims says = other w (ReadFor q) its runs tt (λ so j own. so)
  by w (WriteBlock q b) its runs aims says = other w (WriteBlock q b) its runs tt (λ so j own. so)
  by w (WriteLeader q l) its runs aims says = other w (WriteLeader q l) its runs tt (λ so j own. so)
  by Settling (GrantJob mode lver) its runs aims says = other Settling (GrantJob mode lver) its runs tt (λ so j own. none_some j own)
  by Settling (BecomeShared lver l) its runs aims says = other Settling (BecomeShared lver l) its runs tt (λ so j own. none_some j own)
  by Settling (BecomeExclusive lver b) its runs aims says = other Settling (BecomeExclusive lver b) its runs tt (λ so j own. none_some j own)
  by (ForJob j) (GrantJob mode lver) its runs aims says = grant_done is_explained x s m answer j step aim (led j its runs aims) mode lver says
  by (ForJob j) (BecomeShared lver l) its runs aims says = shared_done is_explained x s m answer j step aim (led j its runs aims) lver l says
  by (ForJob j) (BecomeExclusive lver b) its runs aims says = exclusive_done is_explained x s m answer j step aim (led j its runs aims) lver b says

-- The read of a request.
asked : (x : Step) (s : Session) (m : Submitted) (j : ℕ) (bytes : List ℕ) (c : Command) → Keeps x → Hears x s m (Read bytes) → m.call.purpose ≡ RequestRead j → command_numbered x.setting (seen x) j ≡ Some c
    → CausedSoFar is_explained (after_request_read s j bytes c x)
asked x s m j bytes c k hears is reads =
    by_act x (after_request_read s j bytes c x) (no_line_heard x s m (Read bytes) hears)
    (requested (Going (is_explained x.input) x) (Going (is_explained x.input) x) (MayAnswer (is_explained x.input) x) (MayCall x) (MayStart x) AnyMove (going (is_explained x.input) x) x s j bytes c (may c reads (k.0.0.facts.jobs.fits m j s c (heard_call x s m (Read bytes) hears).0 (ap (λ p. job_of p) is) hears.session reads)) (begins (is_explained x.input) x)) k.1
  where
    on : IsConcluded x → ⊥
    on = goes_on_still x s m (Read bytes) k.0 hears (ap (λ p. lease_step p) is)

    request : (r : ResourceArg) (lver force : ℕ) → command_numbered x.setting (seen x) j ≡ Some (Request r lver force) → FitsCommand x.setting s m (Request r lver force) (RequestRead j) → RequestAllowed (MayAnswer (is_explained x.input) x) (MayCall x) x s j bytes (Request r lver force)
    request r lver force says fits =
        let one : fits.0 ≡ r = some_value fits.0 r (ap (λ q. resource_named q) (sym fits.3)) in (
          (λ why refused. (
            late x why (request_late x.setting.layout s.lockspace r lver force bytes why refused),
            λ shown. request_caused x s m j bytes r lver force k.0 hears is says (ap (λ (q : ResourceArg). q.lockspace) (sym one) ∙ fits.4.0) why refused,
          )),
          λ q. absurd (on q),
        )

    may : (d : Command) → command_numbered x.setting (seen x) j ≡ Some d → FitsCommand x.setting s m d m.call.purpose → RequestAllowed (MayAnswer (is_explained x.input) x) (MayCall x) x s j bytes d
    may (Request r lver force) says fits = request r lver force says (subst (λ (p : Purpose). FitsCommand x.setting s m (Request r lver force) p) is fits)
    may (AddLockspace a) says fits = tt
    may (RemLockspace a) says fits = tt
    may (InqLockspace a) says fits = tt
    may (HostStatus a) says fits = tt
    may (Acquire r shared p persistent) says fits = tt
    may (TakeOver r shared p persistent) says fits = tt
    may (Release r p) says fits = tt
    may (ReleaseOrphan r) says fits = tt
    may (Convert r shared p) says fits = tt
    may (RunProgram r shared path) says fits = tt
    may (GetLvb r p) says fits = tt
    may (SetLvb r p set) says fits = tt
    may (SetKillpath p path) says fits = tt
    may Status says fits = tt

-- A start that failed. (Its job's reply has its cause by the input and what was before it.).
failed : (x : Step) (p : ℕ) → Keeps x → x.input ≡ Spawned p false → CausedSoFar is_explained (when_running (job_of_start (seen x) p) SpawnFault (end_holdings p x))
failed x p k input =
    by_act x (when_running (job_of_start (seen x) p) SpawnFault (end_holdings p x)) (λ text line. spawned_no_line x.input p false text input line)
    (said (Going (is_explained x.input) x) (Going (is_explained x.input) x) (MayAnswer (is_explained x.input) x) (MayCall x) (MayStart x) AnyMove (going (is_explained x.input) x) (end_holdings p x) (job_of_start (seen x) p) SpawnFault
    (λ j is. (late x SpawnFault refl, λ shown. spawn_caused x p j k.0 input is))
    (ended (Going (is_explained x.input) x) (Going (is_explained x.input) x) (MayAnswer (is_explained x.input) x) (MayCall x) (MayStart x) AnyMove (going (is_explained x.input) x) x p (begins (is_explained x.input) x))) k.1

-- A read showed another in the session's place.
shown_done : (x : Step) (s : Session) (m : Submitted) (bytes : List ℕ) → Keeps x → Hears x s m (Read bytes) → m.call.purpose ≡ Survey → is_joined (seen x) s ≡ true → begins_by_read (seen x) (recovery_of x.setting (seen x) s) ≡ true
    → CausedSoFar is_explained (signal_and_refuse s None x)
shown_done x s m bytes k hears is joined starts =
    by_act x (signal_and_refuse s None x) (no_line_heard x s m (Read bytes) hears)
    (stopped (Going (is_explained x.input) x) (Going (is_explained x.input) x) (MayAnswer (is_explained x.input) x) (MayCall x) (MayStart x) AnyMove (going (is_explained x.input) x) (λ wake. refl) x s None
    (λ z g j there. (
      late_on_survey x s m (Read bytes) (Recovering (last_renewal z.setting (seen z) s)) k.0.0.facts.calls hears (ap (λ p. job_of p) is),
      λ shown.
          stop_caused (is_explained x.input) x z s j k.1.before before was (ap (λ i. line_in i) hears.heard) (ap (λ i. renewed_by x.past s i) hears.heard) (begun_by_read x s (λ wake. told_no_wake x.input hears.number (Read bytes) hears.heard wake) begun) g there,
    )) (begins (is_explained x.input) x)) k.1
  where
    found : (b : Begun) × (recovery_of x.setting (seen x) s ≡ Some b) × ((b.kills_from == length (seen x)) ≡ true)
    found = some_is_true (λ (b : Begun). b.kills_from == length (seen x)) (recovery_of x.setting (seen x) s) starts

    begun : is_some (recovery_of x.setting (seen x) s) ≡ true
    begun = ap (λ o. is_some o) found.1

    before : Contains (sessions x.setting x.past) s
    before = subst (λ ss. Contains ss s) (sessions_bare x hears.bare) (got_inside (sessions x.setting (seen x)) s.number s (has_heard x s m (Read bytes) hears))

    was : is_joined x.past s ≡ true
    was = joined_before x.past (entry_of x) s (recovery_joined x.setting (entry_of x) x.past s found.0 found.1) joined

-- ---- what comes last

removed : (x : Step) (name : List ℕ) → Going (is_explained x.input) x (remove_connection name x)
removed x name = removal (Going (is_explained x.input) x) (Going (is_explained x.input) x) (MayAnswer (is_explained x.input) x) (MayCall x) (MayStart x) AnyMove (going (is_explained x.input) x) x name tt (begins (is_explained x.input) x)

renewed_may : (x : Step) (s : Session) (recovering : Bool) (made : ℕ) (answer : Answer) → (IsConcluded x → ⊥) → DeltaAllowed (MayAnswer (is_explained x.input) x) (MayCall x) AnyMove x s (next_after_renewal recovering made answer)
renewed_may x s recovering made Written going = on_bool (DeltaAllowed (MayAnswer (is_explained x.input) x) (MayCall x) AnyMove x s) recovering (MoveConnection made) Nothing (tt, λ c. absurd (going c)) tt
renewed_may x s recovering made Failed going = tt
renewed_may x s recovering made (Read bytes) going = tt

renewal_may : (x : Step) (s : Session) (l : DeltaLease) (now : ℕ) (k : DeltaKnown) (bits : List ℕ) → (IsConcluded x → ⊥) → DeltaAllowed (MayAnswer (is_explained x.input) x) (MayCall x) AnyMove x s (next_renewal l now k bits)
unfolding next_renewal
renewal_may x s l now k bits going =
    on_bool (DeltaAllowed (MayAnswer (is_explained x.input) x) (MayCall x) AnyMove x s) (is_renewal_due l now k) Nothing (WriteRenewal (delta_record l Live k.generation (k.seq + 1) now bits)) tt (λ c. absurd (going c))

-- The free of a leaving is of no lease, and of the session's own generation.
free_may : (x : Step) (s : Session) → Has x s → DeltaAllowed (MayAnswer (is_explained x.input) x) (MayCall x) AnyMove x s (next_free (delta_of_session x.setting s) x.reading (delta_known x.setting (seen x) s))
free_may x s has = by (delta_known x.setting (seen x) s).leaving (delta_known x.setting (seen x) s).freed where
  d : DeltaRec
  d = delta_record (delta_of_session x.setting s) Free (generation_of (seen x) s) (last_seq (seen x) s + 1) x.reading no_bits

  write : (j : ℕ) → MayCall x s s.path (Leaving j) (own_offset x.setting s) (WriteRecord (DeltaIs d))
  write j q =
      (refl, λ e is z there same. ap (λ (f : DeltaRec). f.generation) (sym (some_value d e is)) ∙ ap (λ y. generation_of (seen x) y) (same_session x z.number s z (session_has x.setting (seen x) z (contains_left (sessions x.setting x.past) (begun_in x.setting x.past (length (sessions x.setting x.past)) (entry_of x)) z there)) has same))

  by : (o : Option ℕ) (b : Bool) → DeltaAllowed (MayAnswer (is_explained x.input) x) (MayCall x) AnyMove x s (elim o as (λ z. DeltaNext) [ None ↦ Nothing | Some j ↦ elim b as (λ z. DeltaNext) [ true ↦ Nothing | false ↦ WriteFree j d ] ])
  by None b = tt
  by (Some j) true = tt
  by (Some j) false = write j

-- ---- the whole

pub causes_are_kept : CausesAreKept is_explained
unfolding after_value_read carry_decision
causes_are_kept =
    record {
      kills = λ x s has due k.
          let z : Step = signal_holders Kill s x in
          let a : Alike x z = signalled_alike x Kill s in
          let g : Going (is_explained x.input) x z = signalled (Going (is_explained x.input) x) (Going (is_explained x.input) x) (MayAnswer (is_explained x.input) x) (MayCall x) (MayStart x) AnyMove (going (is_explained x.input) x) (λ wake. refl) x Kill s (begins (is_explained x.input) x) in
          still_caused is_explained x z (once_by x z g.later g.input a.grants a.ends) g k.1;
      times_out = λ x j m wake bare runs waits late_one k.
          let r : Reply = IoTimeout m.call.number m.reading x.reading in
          by_act x (refuse j r x) (no_line_awake x wake)
          (refusal (Going (is_explained x.input) x) (Going (is_explained x.input) x) (MayAnswer (is_explained x.input) x) (MayCall x) (MayStart x) AnyMove (going (is_explained x.input) x) x j r (late_on_wake x r wake, λ shown. timeout_caused x j m wake bare waits late_one) (λ z is. tt) (begins (is_explained x.input) x)) k.1;
      hears = λ x number answer wake bare expected k. seen_caused is_explained x (Told number answer) (explained_awake (Told number answer)) (λ is. told_no_wake (Told number answer) number answer refl is) wake k.1;
      counts = λ x text wake bare k. seen_caused is_explained x (Number text) (explained_awake (Number text)) (λ is. number_no_wake (Number text) text refl is) wake k.1;
      exits = λ x p wake bare one k. exit_done x p k wake;
      exits_as_none = λ x p wake bare none k. seen_caused is_explained x (Exit p) (explained_awake (Exit p)) (λ is. exit_no_wake (Exit p) p refl is) wake k.1;
      starts = λ x p ok wake bare expected k. seen_caused is_explained x (Spawned p ok) (explained_awake (Spawned p ok)) (λ is. spawned_no_wake (Spawned p ok) p ok refl is) wake k.1;
      fails_to_start = λ x p input k. failed x p k input;
      signals_instead = λ x p q input stood k. by_act x (add_signal q Term x) (λ text line. spawned_no_line x.input p false text input line) ((going (is_explained x.input) x).signals x q Term (begins (is_explained x.input) x)) k.1;
      says_started = λ x p j input is runs k.
          by_act x (add_reply j (started_reply (seen x) p) x) (λ text line. spawned_no_line x.input p true text input line)
          ((going (is_explained x.input) x).replies x j (started_reply (seen x) p) (late x (started_reply (seen x) p) refl, λ shown. started_caused x p j k.0 k.1.before k.1.facts input is runs) (begins (is_explained x.input) x)) k.1;
      misreads = λ x text column wake bare says k. at_once x text (Misread column) k wake (λ shown apart. misread_caused x text column wake says);
      answers = λ x text c r wake bare says is k. commanded x text c r k wake says;
      carries = λ x text c d wake bare says is more k.
          let w : Step = with_input (Line text) x in
          let j : ℕ = next_job x.setting (seen x) in
          from_wake x (carry_decision j c d w) (Line text) (λ is. line_no_wake (Line text) text refl is) wake
          (decision (Going (is_explained w.input) w) (Going (is_explained w.input) w) (MayAnswer (is_explained w.input) w) (MayCall w) (MayStart w) AnyMove (going (is_explained w.input) w) w j c d (line_may w j c d refl (open_unless_told w refl) (λ r. late_unless_told w r refl))
          (λ n a joins. (going (is_explained w.input) w).calls w (joining_session n j a) a.path (Joining j FirstRead) _ (ReadSectors 1) (λ q. absurd (open_unless_told w refl q)) (begins (is_explained w.input) w)) (begins (is_explained w.input) w)) k.1;
      joins_on = λ x s j step m answer hears is runs k. joined_on x s j step m answer k hears is runs;
      ends_joining = λ x s j step m answer hears is stops k.
          by_act x (remove_of_refused s x) (no_line_heard x s m answer hears)
          (removal_of_refused (Going (is_explained x.input) x) (Going (is_explained x.input) x) (MayAnswer (is_explained x.input) x) (MayCall x) (MayStart x) AnyMove (going (is_explained x.input) x) x s tt (begins (is_explained x.input) x)) k.1;
      renewed = λ x s m answer hears is k.
          let n : DeltaNext = next_after_renewal (is_some (recovery_of x.setting (seen x) s)) m.reading answer in
          by_act x (carry_delta s n x) (no_line_heard x s m answer hears) (delta_done x s n (renewed_may x s (is_some (recovery_of x.setting (seen x) s)) m.reading answer (goes_on_still x s m answer k.0 hears (ap (λ p. lease_step p) is)))) k.1;
      freed = λ x s j m answer hears is k.
          by_act x (carry_delta s (next_after_free j m.call.number answer) x) (no_line_heard x s m answer hears) (delta_done x s (next_after_free j m.call.number answer) (freed_may (is_explained x.input) x s m j answer k.0 hears is)) k.1;
      shown = λ x s m bytes hears is joined starts k. shown_done x s m bytes k hears is joined starts;
      sees = λ x s number bytes at g has input held k.
          by_act x (see_request s g x) (λ text line. told_no_line x.input number (Read bytes) text input line)
          ((going (is_explained x.input) x).calls x s g.path SeeRequest _ (ReadSectors 1) (λ q. (refl, λ d is. absurd (none_some d is))) (begins (is_explained x.input) x)) k.1;
      leads_on = λ x s work step m answer aim hears is on aims k. leads x s work step m answer aim k hears is on aims (next_of_lease x.setting (seen x) s (spot_of_call x.setting.layout m) aim m step answer) refl;
      fails = λ x s m j hears lone runs k. replied x s m Failed j (IoFault m.call.number) k.1 hears refl (λ shown. fault_caused x s m j k.0 hears (lone_of m.call.purpose j lone));
      has_asked = λ x s m j owner hears is runs k. replied x s m Written j Done k.1 hears refl (λ shown. requested_caused x s m j owner k.0 k.1.facts hears is);
      has_set = λ x s m j hears is runs k. replied x s m Written j (set_reply m) k.1 hears (set_late m) (λ shown. set_caused x s m j k.0 k.1.facts hears is);
      asks = λ x s m j bytes c hears is runs reads k. asked x s m j bytes c k hears is reads;
      tells = λ x s m j bytes hears is runs k. replied x s m (Read bytes) j (value_reply x.setting.layout bytes) k.1 hears (value_late x.setting.layout bytes) (λ shown. told_caused x s m j bytes k.0 hears is);
      warns = λ x s m bytes g signal hears is held own says k.
          by_act x (send g.process signal x) (no_line_heard x s m (Read bytes) hears)
          (sent (Going (is_explained x.input) x) (Going (is_explained x.input) x) (MayAnswer (is_explained x.input) x) (MayCall x) (MayStart x) AnyMove (going (is_explained x.input) x) (λ wake. refl) x g.process signal (begins (is_explained x.input) x)) k.1;
      joins_in_time = λ x s j has wake is runs k.
          let n : DeltaNext = next_on_wake (delta_of_session x.setting s) x.reading (calls_of (seen x) s) in
          by_act x (carry_delta s n x) (no_line_awake x wake)
          (delta_done x s n (joining_may (is_explained x.input) x s j n is (open_awake x wake) (λ r after. late x r after) (wake_late (delta_of_session x.setting s) x.reading (calls_of (seen x) s))
          (wake_well (is_explained x.input) x s j wake (got_inside (sessions x.setting (seen x)) s.number s has) is))) k.1;
      renews = λ x s has wake joined k.
          let n : DeltaNext = next_renewal (delta_of_session x.setting s) x.reading (delta_known x.setting (seen x) s) (bits_due x.setting (calls_of (seen x) s) x.reading) in
          by_act x (carry_delta s n x) (no_line_awake x wake) (delta_done x s n (renewal_may x s (delta_of_session x.setting s) x.reading (delta_known x.setting (seen x) s) (bits_due x.setting (calls_of (seen x) s) x.reading) (open_awake x wake))) k.1;
      settles = λ x s at has wake active aligned none k.
          let n : LeaseNext = next_of_settling x.setting (seen x) s at in
          by_act x (carry_lease s at Settling n x) (no_line_awake x wake) (lease_done x s at Settling n (lease_may x x s at Settling n (open_awake x wake) (λ r is i own. absurd (none_some i own)) (λ gives i n own. absurd (none_some i own)) (λ i own. absurd (none_some i own)))) k.1;
      parts = λ x s has joined recovers free quiet k.
          let z : Step = remove_connection s.lockspace x in
          let a : Alike x z = removal_alike x x s.lockspace (same x) in
          let g : Going (is_explained x.input) x z = removed x s.lockspace in
          still_caused is_explained x z (once_by x z g.later g.input a.grants a.ends) g k.1;
      frees = λ x s has joined well free quiet k.
          let n : DeltaNext = next_free (delta_of_session x.setting s) x.reading (delta_known x.setting (seen x) s) in
          let a = delta_ungranting x s n in
          let g : Going (is_explained x.input) x (carry_delta s n x) = delta_done x s n (free_may x s has) in
          still_caused is_explained x (carry_delta s n x) (once_by x (carry_delta s n x) g.later g.input a.grants a.ends) g k.1;
    }

begin_done : (st : Setting) (past : Trace) (now : ℕ) (s : Session) → WholeTrace st past → Contains (present_sessions st (seen (begin_step st past now))) s → (y : Step)
    → Going (is_explained Wake) (begin_step st past now) y → Going (is_explained Wake) (begin_step st past now) (begin_recovery s y)
unfolding begin_recovery
begin_done st past now s w there y g =
    when_keeps (Going (is_explained Wake) x) (begins_now (seen y) (recovery_of y.setting (seen y) s)) (signal_and_refuse s None) y
    (λ starts f. stopped (Going (is_explained Wake) x) (Going (is_explained Wake) x) (MayAnswer (is_explained Wake) x) (MayCall x) (MayStart x) AnyMove (going (is_explained Wake) x) (λ wake. refl) y s None
    (λ z k j inside. (
      late_on_wake x (Recovering (last_renewal z.setting (seen z) s)) refl,
      λ shown.
          stop_caused (is_explained Wake) x z s j w before (was (begun (begun_of y starts))) refl refl (begun_by_time x s refl (ap (λ o. is_some o) (begun (begun_of y starts)).1)) k inside,
    )) f) g
  where
    x : Step
    x = begin_step st past now

    present : Contains (sessions st (seen x)) s × (is_present (seen x) s ≡ true)
    present = present_is st (seen x) s there

    before : Contains (sessions st past) s
    before = subst (λ ss. Contains ss s) (sessions_wake x refl) present.0

    begun_of : (z : Step) → begins_now (seen z) (recovery_of z.setting (seen z) s) ≡ true → (b : Begun) × (recovery_of z.setting (seen z) s ≡ Some b)
    begun_of z starts = let v = some_is_true (λ (b : Begun). b.at + 1 == length (seen z)) (recovery_of z.setting (seen z) s) starts in (v.0, v.1)

    begun : (b : Begun) × (recovery_of y.setting (seen y) s ≡ Some b) → (b : Begun) × (recovery_of st (seen x) s ≡ Some b)
    begun v = (v.0, recovery_same x y s g.later g.input ∙ v.1)

    was : (b : Begun) × (recovery_of st (seen x) s ≡ Some b) → is_joined past s ≡ true
    was v = present_joined past now s (recovery_joined st (entry_of x) past s v.0 v.1) present.1

pub causes_begin : CausesBegin is_explained
unfolding begin_recoveries
causes_begin st past e follows whole facts =
    still_caused is_explained x (begin_recoveries x) (no_line x (begin_recoveries x) (λ text line. wake_no_line Wake text refl line))
    (for_each_keeps (Going (is_explained Wake) x) (present_sessions st (seen x)) begin_recovery x (λ s there y g. begin_done st past e.reading s whole there y g) (begins (is_explained Wake) x))
    (record { before = whole; facts = facts; causes = λ a there shown apart. absurd (contains_none a there); jobless = λ wake k there. absurd (contains_none k there) })
  where
    x : Step
    x = begin_step st past e.reading
