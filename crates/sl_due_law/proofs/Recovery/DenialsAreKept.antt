-- Before the input and on a wake no job is answered ok.
use Rattle.sl_due_facts.proofs.Acts.AddedAtEnd.{contains_last}
use Rattle.sl_due_facts.specs.Acts.Acts.{Acts, next_of_settling}
use Rattle.sl_due.specs.DueCommands.{carry_decision}
use Rattle.sl_due.specs.DueRecovery.{begin_recoveries}
use Rattle.sl_due.specs.DueInputs.{end_holdings, leave_holdings, refuse_jobs_of, started_reply, when_running}
use Rattle.sl_due.specs.DueRequests.{bits_due}
use Rattle.sl_due.specs.Steps.{Step, add_reply, add_signal, begin_step, seen, with_input}
use Rattle.sl_due.specs.declared.decision.Decision.{Decision}
use Rattle.sl_due.specs.declared.decision.Decision.TheVariants.{ConvertsTo, GetsValue, GivesUp, Joins, Leaves, ReadsArea, Replies, Requests, SetsValue, Shares, TakesOver}
use Rattle.sl_due_facts.proofs.Jobs.EffectsAreAllowed.{Allows, DecisionAllowed, DeltaAllowed, LeaseAllowed, ReadAllowed, decision, delta, exited, lease, left, refusal, removal, signalled}
use Rattle.sl_due_facts.proofs.Jobs.LinesAreAllowed.{IsBegun}
use Rattle.sl_due_facts.proofs.Jobs.NearlyPlainActs.{AnyMove, AnyStart, Anything, Nearly, NoLook, decision_plain, nearly_acts}
use Rattle.sl_due_facts.proofs.Jobs.RepliesComeAfter.{on_bool, on_option}
use Rattle.sl_due_facts.specs.Jobs.JobLaws.{BeginsWith}
use Rattle.sl_trace.specs.Jobs.{job_of_start}
use Rattle.sl_trace.specs.declared.lease.LeaseNext.{LeaseNext}
use Rattle.sl_trace.specs.declared.lease.LeaseNext.TheVariants.{AnswerJob, BecomeExclusive, BecomeShared, GrantJob, Nothing as No_lease, ReadFor, WriteBlock, WriteLeader}
use Rattle.sl_due_law.proofs.Recovery.StopsBegin.{IsDenial, Says, begun_says}
use Rattle.sl_due_law.specs.Recovery.Stops.{Denies}
use Rattle.sl_sector.specs.Bitmaps.{no_bits}
use Rattle.sl_sector.specs.declared.sector.DeltaState.TheVariants.{Free, Live}
use Rattle.sl_trace.specs.DeltaDecisions.{DeltaLease, delta_known, delta_of_session, delta_record, is_renewal_due, join_step_of, next_after_claim, next_by_time, next_free, next_in_watch, next_on_wake, next_renewal}
use Rattle.sl_trace.specs.Sessions.{calls_of}
use Rattle.sl_trace.specs.declared.delta.DeltaKnown.{DeltaKnown}
use Rattle.sl_trace.specs.declared.delta.DeltaNext.{DeltaNext}
use Rattle.sl_trace.specs.declared.delta.DeltaNext.TheVariants.{Nothing, ReadOwn, RefuseJoin, RegisterAndRead, WriteFree, WriteRenewal}
use Rattle.sl_trace.specs.declared.session.Session.{Session}
use Rattle.sl_time.specs.Times.{dead, join_max, renew}
use Rattle.sl_trace.specs.EffectTexts.{is_ok_reply}
use Rattle.sl_trace.specs.Traces.{Submitted, next_job}
use Rattle.sl_trace.specs.declared.command.Command.{Command}
use Rattle.sl_trace.specs.declared.effects.JobReply.{JobReply}
use Rattle.sl_trace.specs.declared.effects.JoinStep.{JoinStep}
use Rattle.sl_trace.specs.declared.effects.JoinStep.TheVariants.{ClaimWrite, DecidingRead, FirstRead, FirstRenewal, VerifyRead, WatchRead}
use Rattle.sl_trace.specs.declared.effects.LeaseStep.{LeaseStep}
use Rattle.sl_trace.specs.declared.effects.LeaseStep.TheVariants.{ClearMode, FreeLeader, Phase1Read, Phase1Write, Phase2Read, Phase2Write, ReadAgain, ReadArea, ReadBeforeBlock, ReadBeforeFree, SetMode, TakeLeader}
use Rattle.sl_trace.specs.declared.effects.Op.{Op}
use Rattle.sl_trace.specs.declared.effects.Purpose.{Purpose}
use Rattle.sl_trace.specs.declared.effects.Signal.TheVariants.{Kill, Term}
use Rattle.sl_trace.specs.declared.effects.Spot.{Spot}
use Rattle.sl_trace.specs.declared.effects.Work.{Work}
use Rattle.sl_trace.specs.declared.effects.Work.TheVariants.{Settling}
use Rattle.sl_trace.specs.declared.input.Answer.{Answer}
use Rattle.sl_trace.specs.declared.input.Answer.TheVariants.{Failed, Read, Written}
use Rattle.sl_trace.specs.declared.input.Input.{Input}
use Rattle.sl_trace.specs.declared.input.Input.TheVariants.{Answer as Told, Exit, Line, Number, Spawned, Wake}
use Rattle.sl_trace.specs.declared.reply.Reply.{Reply}
use Rattle.sl_trace.specs.declared.reply.Reply.TheVariants.{IdLate, IoTimeout, SpawnFault}
use Rattle.sl_words.proofs.CaseLaws.{none_some, true_is_false}
use Rattle.sl_trace.specs.declared.effects.LeaseRead.TheVariants.{OfArea, OfBlock, OfFree, OfPhase1, OfPhase2}
use Rattle.std.proofs.Common.{ap, inl, inr, refl, subst, sym, ◌∙◌}
use Rattle.std.specs.Prelude.{Bool, Contains, IsFalse, List, None, Some, [], false, nat_le, nat_lt, true, ℕ, ◌+◌, ◌∷◌, ◌≡◌, ◌⊎◌}

-- ---- a step whose input is no wake

abbrev NotWake : Step → Type 0
NotWake x = x.input ≡ Wake → ⊥

abbrev wakes : Input → Bool
wakes Wake = true
wakes i = false

no_wake : (x : Step) → wakes x.input ≡ false → NotWake x
no_wake x other wake = true_is_false (sym (ap (λ i. wakes i) wake) ∙ other)

told_other : (x : Step) (n : ℕ) (a : Answer) → x.input ≡ Told n a → NotWake x
told_other x n a told = no_wake x (ap (λ i. wakes i) told)

started_other : (x : Step) (p : ℕ) (ok : Bool) → x.input ≡ Spawned p ok → NotWake x
started_other x p ok started = no_wake x (ap (λ i. wakes i) started)

awake_effects : Nearly NotWake
awake_effects =
    record {
      ends = λ y e h. h;
      signals = λ y q signal h. h;
      moves = λ y m may h. h;
      grants = λ y g h. h;
      starts = λ y k may h. h;
      replies = λ y j r may h. h;
      calls = λ y s path p o op no_look h. h;
      rest = λ y h. h;
    }

awake : Acts NotWake NotWake
awake =
    nearly_acts NotWake NotWake (λ x h. h) awake_effects (record {
      others = λ x i wake bare expected no_line h. absurd (h wake);
      misreads = λ x text column wake bare says h. absurd (h wake);
      answers = λ x text c r wake bare says is h. absurd (h wake);
      carries = λ x text c d wake bare says is more h. absurd (h wake);
    })

vain : (z : Step) → NotWake z → Denies z
vain z other wake = absurd (other wake)

seen_vain : (x : Step) (i : Input) → wakes i ≡ false → Denies (with_input i x)
seen_vain x i other = vain (with_input i x) (no_wake (with_input i x) other)

carried_vain : (x : Step) (text : List ℕ) (j : ℕ) (c : Command) (d : Decision) → NotWake (carry_decision j c d (with_input (Line text) x))
unfolding carry_decision
carried_vain x text j c d = by (decision_plain NotWake (with_input (Line text) x) j c d) where
  lined : NotWake (with_input (Line text) x)
  lined = no_wake (with_input (Line text) x) refl

  begun : (z : Decision) → IsBegun z → NotWake (carry_decision j c z (with_input (Line text) x))
  begun (Joins n a) k = no_wake (with_input (Line text) x) refl
  begun (Leaves s) k = absurd k
  begun (Replies r) k = absurd k
  begun (ReadsArea s r) k = absurd k
  begun (Shares s lver) k = absurd k
  begun (GivesUp s g) k = absurd k
  begun (TakesOver s g) k = absurd k
  begun (ConvertsTo s r mode) k = absurd k
  begun (Requests s r) k = absurd k
  begun (SetsValue s spot v) k = absurd k
  begun (GetsValue s spot) k = absurd k

  by : IsBegun d ⊎ DecisionAllowed NotWake Anything NoLook AnyStart (with_input (Line text) x) j c d → NotWake (carry_decision j c d (with_input (Line text) x))
  by (inr may) = decision NotWake NotWake Anything NoLook AnyStart AnyMove awake_effects (with_input (Line text) x) j c d may (λ n a joins. no_wake (with_input (Line text) x) refl) lined
  by (inl k) = begun d k

-- ---- on a wake

abbrev Denied : ℕ → Reply → Type 0
Denied j r = IsFalse (is_ok_reply r)

abbrev AnyCall : Session → List ℕ → Purpose → ℕ → Op → Type 0
AnyCall s path p o op = Unit {0}

denying : Allows Denies Denies Denied AnyCall AnyStart AnyMove
denying =
    record {
      ends = λ y e h. h;
      signals = λ y q signal h. h;
      moves = λ y m may h. h;
      grants = λ y g h. h;
      starts = λ y k may h. h;
      replies = λ y j r may h wake a there. by y j r a may (h wake) (contains_last y.effects.replies (record { job = j; reply = r }) a there);
      calls = λ y s path p o op may h. h;
      rest = λ y h. h;
    } where
      by : (y : Step) (j : ℕ) (r : Reply) (a : JobReply) → Denied j r → ((b : JobReply) → Contains y.effects.replies b → IsFalse (is_ok_reply b.reply)) → Contains y.effects.replies a ⊎ (record { job = j; reply = r } ≡ a)
          → IsFalse (is_ok_reply a.reply)
      by y j r a may h (inl old) = h a old
      by y j r a may h (inr is) = subst (λ (b : JobReply). IsFalse (is_ok_reply b.reply)) is may

abbrev Allowed : Step → Session → DeltaNext → Type 0
Allowed y s n = DeltaAllowed Denied AnyCall AnyMove y s n

watch_denied : (y : Step) (s : Session) (l : DeltaLease) (now answered : ℕ) → Allowed y s (next_in_watch l now answered)
watch_denied y s l now answered = on_bool (Allowed y s) (nat_le (answered + renew l.timing) now) Nothing (ReadOwn WatchRead) tt (λ j its. tt)

claim_denied : (y : Step) (s : Session) (l : DeltaLease) (now claimed answered : ℕ) → Allowed y s (next_after_claim l now claimed answered)
claim_denied y s l now claimed answered =
    on_bool (Allowed y s) (nat_le (answered + dead l.timing) now) Nothing
    (elim (nat_lt (claimed + join_max l.timing) now) [ true ↦ RefuseJoin (IdLate claimed now) | false ↦ RegisterAndRead VerifyRead ]) tt
    (on_bool (Allowed y s) (nat_lt (claimed + join_max l.timing) now) (RegisterAndRead VerifyRead) (RefuseJoin (IdLate claimed now)) (λ j its. (tt, tt)) (λ j its. (refl, λ z is. tt)))

time_denied : (y : Step) (s : Session) (l : DeltaLease) (now made answered : ℕ) (step : JoinStep) → Allowed y s (next_by_time l now made answered step)
time_denied y s l now made answered FirstRead = watch_denied y s l now answered
time_denied y s l now made answered WatchRead = watch_denied y s l now answered
time_denied y s l now made answered ClaimWrite = claim_denied y s l now made answered
time_denied y s l now made answered DecidingRead = tt
time_denied y s l now made answered VerifyRead = tt
time_denied y s l now made answered FirstRenewal = tt

wake_denied : (y : Step) (s : Session) (l : DeltaLease) (now : ℕ) (ms : List Submitted) → Allowed y s (next_on_wake l now ms)
unfolding next_on_wake
wake_denied y s l now [] = tt
wake_denied y s l now (m ∷ ms) =
    on_option (Allowed y s) m.answer Nothing (λ a. elim (join_step_of m.call.purpose) [ None ↦ Nothing | Some step ↦ next_by_time l now m.reading a.reading step ]) tt
    (λ a. on_option (Allowed y s) (join_step_of m.call.purpose) Nothing (λ step. next_by_time l now m.reading a.reading step) tt (λ step. time_denied y s l now m.reading a.reading step))

renewal_denied : (y : Step) (s : Session) (l : DeltaLease) (now : ℕ) (k : DeltaKnown) (bits : List ℕ) → Allowed y s (next_renewal l now k bits)
unfolding next_renewal
renewal_denied y s l now k bits = on_bool (Allowed y s) (is_renewal_due l now k) Nothing (WriteRenewal (delta_record l Live k.generation (k.seq + 1) now bits)) tt tt

free_denied : (y : Step) (s : Session) (l : DeltaLease) (now : ℕ) (k : DeltaKnown) → Allowed y s (next_free l now k)
free_denied y s l now k =
    on_option (Allowed y s) k.leaving Nothing (λ j. elim k.freed [ true ↦ Nothing | false ↦ WriteFree j (delta_record l Free k.generation (k.seq + 1) now no_bits) ]) tt
    (λ j. on_bool (Allowed y s) k.freed (WriteFree j (delta_record l Free k.generation (k.seq + 1) now no_bits)) Nothing tt tt)

reads_denied : (y : Step) (s : Session) (at : Spot) (work : Work) (step : LeaseStep) → ReadAllowed AnyCall y s at work step
reads_denied y s at work (ReadArea name) = tt
reads_denied y s at work ReadBeforeFree = tt
reads_denied y s at work ReadBeforeBlock = tt
reads_denied y s at work (ReadAgain (OfArea name)) = tt
reads_denied y s at work (ReadAgain OfFree) = tt
reads_denied y s at work (ReadAgain OfBlock) = tt
reads_denied y s at work (ReadAgain OfPhase1) = tt
reads_denied y s at work (ReadAgain OfPhase2) = tt
reads_denied y s at work Phase1Write = tt
reads_denied y s at work Phase1Read = tt
reads_denied y s at work Phase2Write = tt
reads_denied y s at work Phase2Read = tt
reads_denied y s at work TakeLeader = tt
reads_denied y s at work SetMode = tt
reads_denied y s at work FreeLeader = tt
reads_denied y s at work ClearMode = tt

settling_denied : (y : Step) (s : Session) (at : Spot) (n : LeaseNext) → LeaseAllowed Denied AnyCall AnyStart y s at Settling n
settling_denied y s at No_lease = tt
settling_denied y s at (ReadFor step) = reads_denied y s at Settling step
settling_denied y s at (WriteBlock step b) = tt
settling_denied y s at (WriteLeader step l) = tt
settling_denied y s at (AnswerJob r) = λ j is. absurd (none_some j is)
settling_denied y s at (GrantJob mode lver) = λ j c is reads. absurd (none_some j is)
settling_denied y s at (BecomeShared lver l) = ((λ j is. absurd (none_some j is)), tt)
settling_denied y s at (BecomeExclusive lver b) = ((λ j is. absurd (none_some j is)), λ z same. tt)

-- ---- all acts

pub denials_are_kept : Acts Denies Denies
denials_are_kept =
    let p = denying in
    record {
      kills = λ x s has due h. signalled Denies Denies Denied AnyCall AnyStart AnyMove p tt x Kill s h;
      times_out = λ x j m wake bare runs waits late_one h. refusal Denies Denies Denied AnyCall AnyStart AnyMove p x j (IoTimeout m.call.number m.reading x.reading) refl (λ z is. tt) h;
      hears = λ x number answer wake bare expected h. seen_vain x (Told number answer) refl;
      counts = λ x text wake bare h. seen_vain x (Number text) refl;
      exits = λ x n wake bare one h.
          let w : Step = with_input (Exit n) x in
          vain (refuse_jobs_of n (leave_holdings n w)) (exited NotWake NotWake Anything NoLook AnyStart AnyMove awake_effects (leave_holdings n w) n (λ j there. tt)
          (left NotWake NotWake Anything NoLook AnyStart AnyMove awake_effects w n (no_wake w refl)));
      exits_as_none = λ x n wake bare none h. seen_vain x (Exit n) refl;
      starts = λ x n ok wake bare expected h. seen_vain x (Spawned n ok) refl;
      fails_to_start = λ x n input h. vain (when_running (job_of_start (seen x) n) SpawnFault (end_holdings n x)) (awake.fails_to_start x n input (started_other x n false input));
      signals_instead = λ x n o input stood h. vain (add_signal o Term x) (started_other x n false input);
      says_started = λ x n j input is runs h. vain (add_reply j (started_reply (seen x) n) x) (started_other x n true input);
      misreads = λ x text column wake bare says h woken a there. absurd (no_wake (with_input (Line text) x) refl woken);
      answers = λ x text c r wake bare says is h woken a there. absurd (no_wake (with_input (Line text) x) refl woken);
      carries = λ x text c d wake bare says is more h. vain (carry_decision (next_job x.setting (seen x)) c d (with_input (Line text) x)) (carried_vain x text (next_job x.setting (seen x)) c d);
      joins_on = λ x s j step m answer hears is runs h woken a there. absurd (awake.joins_on x s j step m answer hears is runs (told_other x hears.number answer hears.heard) woken);
      ends_joining = λ x s j step m answer hears is stops h woken a there. absurd (awake.ends_joining x s j step m answer hears is stops (told_other x hears.number answer hears.heard) woken);
      renewed = λ x s m answer hears is h woken a there. absurd (awake.renewed x s m answer hears is (told_other x hears.number answer hears.heard) woken);
      freed = λ x s j m answer hears is h woken a there. absurd (awake.freed x s j m answer hears is (told_other x hears.number answer hears.heard) woken);
      shown = λ x s m bytes hears is joined begins h woken a there. absurd (awake.shown x s m bytes hears is joined begins (told_other x hears.number (Read bytes) hears.heard) woken);
      sees = λ x s number bytes spot g has input held h woken a there. absurd (awake.sees x s number bytes spot g has input held (told_other x number (Read bytes) input) woken);
      leads_on = λ x s work step m answer aim hears is on aims h woken a there. absurd (awake.leads_on x s work step m answer aim hears is on aims (told_other x hears.number answer hears.heard) woken);
      fails = λ x s m j hears lone runs h woken a there. absurd (awake.fails x s m j hears lone runs (told_other x hears.number Failed hears.heard) woken);
      has_asked = λ x s m j owner hears is runs h woken a there. absurd (awake.has_asked x s m j owner hears is runs (told_other x hears.number Written hears.heard) woken);
      has_set = λ x s m j hears is runs h woken a there. absurd (awake.has_set x s m j hears is runs (told_other x hears.number Written hears.heard) woken);
      asks = λ x s m j bytes c hears is runs reads_one h woken a there. absurd (awake.asks x s m j bytes c hears is runs reads_one (told_other x hears.number (Read bytes) hears.heard) woken);
      tells = λ x s m j bytes hears is runs h woken a there. absurd (awake.tells x s m j bytes hears is runs (told_other x hears.number (Read bytes) hears.heard) woken);
      warns = λ x s m bytes g signal hears is held own says h woken a there. absurd (awake.warns x s m bytes g signal hears is held own says (told_other x hears.number (Read bytes) hears.heard) woken);
      joins_in_time = λ x s j has wake is runs h.
          delta Denies Denies Denied AnyCall AnyStart AnyMove p x s (next_on_wake (delta_of_session x.setting s) x.reading (calls_of (seen x) s))
          (wake_denied x s (delta_of_session x.setting s) x.reading (calls_of (seen x) s)) h;
      renews = λ x s has wake joined h.
          delta Denies Denies Denied AnyCall AnyStart AnyMove p x s (next_renewal (delta_of_session x.setting s) x.reading (delta_known x.setting (seen x) s) (bits_due x.setting (calls_of (seen x) s) x.reading))
          (renewal_denied x s (delta_of_session x.setting s) x.reading (delta_known x.setting (seen x) s) (bits_due x.setting (calls_of (seen x) s) x.reading)) h;
      settles = λ x s spot has wake active whole none h.
          lease Denies Denies Denied AnyCall AnyStart AnyMove p x s spot Settling (next_of_settling x.setting (seen x) s spot)
          (settling_denied x s spot (next_of_settling x.setting (seen x) s spot)) h;
      parts = λ x s has joined recovers_one free quiet h. removal Denies Denies Denied AnyCall AnyStart AnyMove p x s.lockspace tt h;
      frees = λ x s has joined well free quiet h.
          delta Denies Denies Denied AnyCall AnyStart AnyMove p x s (next_free (delta_of_session x.setting s) x.reading (delta_known x.setting (seen x) s))
          (free_denied x s (delta_of_session x.setting s) x.reading (delta_known x.setting (seen x) s)) h;
    }

-- So it is once a step has begun.
pub denials_begin : BeginsWith Denies
denials_begin st past e follows w = λ wake a there.
    let h : Says IsDenial (begin_step st past e.reading) (begin_recoveries (begin_step st past e.reading)) = begun_says st past e.reading in
    h.kind a (subst (λ (y : Step). Contains y.effects.replies a) h.is there)
