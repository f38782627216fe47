-- What an act is to keep of each grant: only few acts grant, all others leave nothing granted.
use Rattle.sl_due_facts.proofs.Acts.LoopsKeep.{for_each_keeps, when_keeps}
use Rattle.sl_due_facts.specs.Acts.Acts.{Acts, Has, Hears, next_of_settling}
use Rattle.sl_due.specs.DueAnswers.{set_reply}
use Rattle.sl_due.specs.DueCommands.{answer_line, carry_decision, decided, reply_at_once}
use Rattle.sl_due.specs.CarriedDelta.{carry_delta, see_request}
use Rattle.sl_due.specs.DueRecovery.{begin_recoveries, begin_recovery, begins_now, kills_holders, send, signal_and_refuse, signal_holders}
use Rattle.sl_due.specs.DueTimeOuts.{refuse, remove_connection, remove_of_refused}
use Rattle.sl_due.specs.DueInputs.{end_holdings, leave_holdings, refuse_jobs_of, started_reply, when_running}
use Rattle.sl_due.specs.CarriedLease.{carry_lease, goes_on, next_of_lease}
use Rattle.sl_due.specs.DueRequests.{after_request_read, after_value_read, bits_due, owner_read, request_refusal, write_request}
use Rattle.sl_due.specs.Steps.{Step, add_reply, add_signal, begin_step, seen, when, with_input}
use Rattle.sl_due.specs.declared.decision.Decision.{Decision}
use Rattle.sl_due_leases.proofs.Holdings.LeaseNexts.{settling_fits}
use Rattle.sl_due_leases.proofs.Holdings.MomentsAreKept.{delta_ungranting, no_grants, refused_alike, removal_alike, said_grants, same, sent_alike, settling_ungranting, signalled_alike}
use Rattle.sl_due_leases.specs.Holdings.Moments.{Known}
use Rattle.sl_due_leases.specs.Holdings.HoldingLaws.{Begins}
use Rattle.sl_trace.specs.Jobs.{aim_of, job_of_start, jobs_of_session}
use Rattle.sl_trace.specs.LeaseDecisions.{lease_place}
use Rattle.sl_trace.specs.Leases.{exclusive_on, known, spot_of_call}
use Rattle.sl_trace.specs.declared.lease.Aim.{Aim}
use Rattle.sl_trace.specs.declared.lease.LeaseNext.{LeaseNext}
use Rattle.sl_words.proofs.Lists.{kept}
use Rattle.sl_trace.specs.DeltaDecisions.{delta_known, delta_of_session, next_after_free, next_after_renewal, next_free, next_in_joining, next_on_wake, next_renewal}
use Rattle.sl_trace.specs.Sessions.{calls_of, generation_of, has_open_write, holdings_of, is_joined, last_renewal, open_calls_of, present_sessions, recovery_of, refused_after}
use Rattle.sl_trace.specs.declared.delta.DeltaNext.{DeltaNext}
use Rattle.sl_trace.specs.declared.session.Session.{Session}
use Rattle.sl_trace.specs.Traces.{Job, Submitted, next_job, no_process}
use Rattle.sl_trace.specs.declared.command.Command.{Command}
use Rattle.sl_trace.specs.declared.command.Command.TheVariants.{Acquire, AddLockspace, Convert, GetLvb, HostStatus, InqLockspace, Release, ReleaseOrphan, RemLockspace, Request, RunProgram, SetKillpath, SetLvb, Status, TakeOver}
use Rattle.sl_trace.specs.declared.effects.Grant.{Grant}
use Rattle.sl_trace.specs.declared.effects.LeaseStep.{LeaseStep}
use Rattle.sl_trace.specs.declared.effects.Purpose.TheVariants.{Lease}
use Rattle.sl_trace.specs.declared.effects.Signal.TheVariants.{Kill, Term}
use Rattle.sl_trace.specs.declared.effects.Spot.{Spot}
use Rattle.sl_trace.specs.declared.effects.Work.{Work}
use Rattle.sl_trace.specs.declared.effects.Work.TheVariants.{Settling}
use Rattle.sl_trace.specs.declared.input.Answer.{Answer}
use Rattle.sl_trace.specs.declared.input.Answer.TheVariants.{Read}
use Rattle.sl_trace.specs.declared.input.Input.TheVariants.{Answer as Told, Exit, Line, Number, Spawned, Wake}
use Rattle.sl_trace.specs.declared.reply.Reply.{Reply}
use Rattle.sl_trace.specs.declared.reply.Reply.TheVariants.{BadCommand as Misread, Done, IoFault, IoTimeout, Recovering, SpawnFault}
use Rattle.sl_words.specs.Words.{some_is}
use Rattle.std.proofs.Common.{refl, ◌∙◌}
use Rattle.std.specs.Prelude.{Bool, List, None, Ok, Option, Some, [], false, filter, is_some, not, true, ℕ, ◌&&◌, ◌==◌, ◌≡◌}

-- ---- what grants nothing

pub stopped_grants : (y : Step) (s : Session) (kept : Option ℕ) → (signal_and_refuse s kept y).effects.grants ≡ y.effects.grants
unfolding signal_and_refuse
stopped_grants y s kept =
    let z : Step = signal_holders Term s y in
    for_each_keeps (λ w. w.effects.grants ≡ y.effects.grants) (filter (λ (j : Job). not (some_is (λ n. n == j.number) kept)) (jobs_of_session z.setting (seen z) s)) (λ j. add_reply j.number (Recovering (last_renewal z.setting (seen z) s))) z
    (λ j there w k. k) (signalled_alike y Term s).grants

pub asked_grants : (x : Step) (s : Session) (j : ℕ) (bytes : List ℕ) (c : Command) → (after_request_read s j bytes c x).effects.grants ≡ x.effects.grants
unfolding after_request_read
asked_grants x s j bytes (Request r number force) = by (request_refusal x.setting.layout s.lockspace r number force bytes) where
  by : (o : Option Reply) → (let z : Step = elim o as (λ z. Step) [ Some why ↦ add_reply j why x | None ↦ write_request s j (owner_read x.setting.layout bytes) r number force x ] in z.effects.grants ≡ x.effects.grants)
  by (Some why) = refl
  by None = refl
asked_grants x s j bytes (AddLockspace a) = refl
asked_grants x s j bytes (RemLockspace a) = refl
asked_grants x s j bytes (InqLockspace a) = refl
asked_grants x s j bytes (HostStatus a) = refl
asked_grants x s j bytes (Acquire r shared p persistent) = refl
asked_grants x s j bytes (TakeOver r shared p persistent) = refl
asked_grants x s j bytes (RunProgram r shared path) = refl
asked_grants x s j bytes (Release r p) = refl
asked_grants x s j bytes (ReleaseOrphan r) = refl
asked_grants x s j bytes (Convert r shared p) = refl
asked_grants x s j bytes (GetLvb r p) = refl
asked_grants x s j bytes (SetLvb r p set) = refl
asked_grants x s j bytes (SetKillpath p path) = refl
asked_grants x s j bytes Status = refl

pub removed_grants : (x : Step) (s : Session) → (remove_of_refused s x).effects.grants ≡ x.effects.grants
removed_grants x s = by (is_some (refused_after (seen x) s) && not (has_open_write (seen x) s)) where
  by : (b : Bool) → (when b (remove_connection s.lockspace) x).effects.grants ≡ x.effects.grants
  by true = (removal_alike x x s.lockspace (same x)).grants
  by false = refl

-- The acts that grant, or come after what is granted.
pub record GrantingActs (K : Step → Type 0) : Type 0 where
  pub kills : (x : Step) (s : Session) → Has x s → kills_holders x.setting (seen x) s ≡ true → Known x → K (signal_holders Kill s x)
  pub exits : (x : Step) (p : ℕ) → x.input ≡ Wake → x.effects.calls ≡ [] → (p == no_process) ≡ false → Known x → K (refuse_jobs_of p (leave_holdings p (with_input (Exit p) x)))
  pub carries : (x : Step) (text : List ℕ) (c : Command) (d : Decision) → x.input ≡ Wake → x.effects.calls ≡ [] → x.setting.read text ≡ Ok c →
      decided x.setting (seen x) x.reading c ≡ d → reply_at_once d ≡ None → Known x → K (carry_decision (next_job x.setting (seen x)) c d (with_input (Line text) x))
  pub sees : (x : Step) (s : Session) (number : ℕ) (bytes : List ℕ) (at : Spot) (g : Grant) → Has x s → x.input ≡ Told number (Read bytes) → exclusive_on (seen x) s at ≡ Some g → Known x →
      K (see_request s g x)
  pub leads_on : (x : Step) (s : Session) (work : Work) (step : LeaseStep) (m : Submitted) (answer : Answer) (aim : Aim) → Hears x s m answer → m.call.purpose ≡ Lease work step →
      goes_on x.setting (seen x) s work ≡ true → aim_of x.setting (seen x) work ≡ Some aim → Known x →
      K (carry_lease s (spot_of_call x.setting.layout m) work (next_of_lease x.setting (seen x) s (spot_of_call x.setting.layout m) aim m step answer) x)
  pub parts : (x : Step) (s : Session) → Has x s → is_joined (seen x) s ≡ true → is_some (recovery_of x.setting (seen x) s) ≡ true → holdings_of (seen x) s ≡ [] →
      has_open_write (seen x) s ≡ false → Known x → K (remove_connection s.lockspace x)
  pub frees : (x : Step) (s : Session) → Has x s → is_joined (seen x) s ≡ true → is_some (recovery_of x.setting (seen x) s) ≡ false → holdings_of (seen x) s ≡ [] →
      open_calls_of (seen x) s ≡ [] → Known x → K (carry_delta s (next_free (delta_of_session x.setting s) x.reading (delta_known x.setting (seen x) s)) x)

-- All others leave nothing granted.
pub by_granting : (K : Step → Type 0) → ((z : Step) → z.effects.grants ≡ [] → K z) → GrantingActs K → Acts Known K
unfolding after_value_read
by_granting K empty g =
    record {
      kills = g.kills;
      times_out = λ x j m wake bare runs waits late k.
          empty (refuse j (IoTimeout m.call.number m.reading x.reading) x) ((refused_alike x x j (IoTimeout m.call.number m.reading x.reading) (same x)).grants ∙ (k.1.waking wake).1);
      hears = λ x number answer wake bare expected k. empty (with_input (Told number answer) x) (k.1.waking wake).1;
      counts = λ x text wake bare k. empty (with_input (Number text) x) (k.1.waking wake).1;
      exits = g.exits;
      exits_as_none = λ x p wake bare none k. empty (with_input (Exit p) x) (k.1.waking wake).1;
      starts = λ x p ok wake bare expected k. empty (with_input (Spawned p ok) x) (k.1.waking wake).1;
      fails_to_start = λ x p input k.
          empty (when_running (job_of_start (seen x) p) SpawnFault (end_holdings p x)) (said_grants x (end_holdings p x) (job_of_start (seen x) p) SpawnFault (no_grants x p) ∙ k.1.ungranted p false input);
      signals_instead = λ x p q input stood k. empty (add_signal q Term x) (k.1.ungranted p false input);
      says_started = λ x p j input is runs k. empty (add_reply j (started_reply (seen x) p) x) (k.1.ungranted p true input);
      misreads = λ x text column wake bare says k. empty (answer_line text (next_job x.setting (seen x)) (Misread column) x) (k.1.waking wake).1;
      answers = λ x text c r wake bare says is k. empty (answer_line text (next_job x.setting (seen x)) r x) (k.1.waking wake).1;
      carries = g.carries;
      joins_on = λ x s j step m answer hears is runs k.
          let n : DeltaNext = next_in_joining (delta_of_session x.setting s) (generation_of (seen x) s) (calls_of (seen x) s) x.reading m step answer in
          empty (carry_delta s n x) ((delta_ungranting x s n).grants ∙ hears.ungranted);
      ends_joining = λ x s j step m answer hears is stops k. empty (remove_of_refused s x) (removed_grants x s ∙ hears.ungranted);
      renewed = λ x s m answer hears is k.
          let n : DeltaNext = next_after_renewal (is_some (recovery_of x.setting (seen x) s)) m.reading answer in
          empty (carry_delta s n x) ((delta_ungranting x s n).grants ∙ hears.ungranted);
      freed = λ x s j m answer hears is k. empty (carry_delta s (next_after_free j m.call.number answer) x) ((delta_ungranting x s (next_after_free j m.call.number answer)).grants ∙ hears.ungranted);
      shown = λ x s m bytes hears is joined begins k. empty (signal_and_refuse s None x) (stopped_grants x s None ∙ hears.ungranted);
      sees = g.sees;
      leads_on = g.leads_on;
      fails = λ x s m j hears lone runs k. empty (add_reply j (IoFault m.call.number) x) hears.ungranted;
      has_asked = λ x s m j owner hears is runs k. empty (add_reply j Done x) hears.ungranted;
      has_set = λ x s m j hears is runs k. empty (add_reply j (set_reply m) x) hears.ungranted;
      asks = λ x s m j bytes c hears is runs at k. empty (after_request_read s j bytes c x) (asked_grants x s j bytes c ∙ hears.ungranted);
      tells = λ x s m j bytes hears is runs k. empty (after_value_read j bytes x) hears.ungranted;
      warns = λ x s m bytes g signal hears is held own says k. empty (send g.process signal x) ((sent_alike x x g.process signal (same x)).grants ∙ hears.ungranted);
      joins_in_time = λ x s j has wake is runs k.
          let n : DeltaNext = next_on_wake (delta_of_session x.setting s) x.reading (calls_of (seen x) s) in
          empty (carry_delta s n x) ((delta_ungranting x s n).grants ∙ (k.1.waking wake).1);
      renews = λ x s has wake joined k.
          let n : DeltaNext = next_renewal (delta_of_session x.setting s) x.reading (delta_known x.setting (seen x) s) (bits_due x.setting (calls_of (seen x) s) x.reading) in
          empty (carry_delta s n x) ((delta_ungranting x s n).grants ∙ (k.1.waking wake).1);
      settles = λ x s at has wake active aligned none k.
          let n : LeaseNext = next_of_settling x.setting (seen x) s at in
          empty (carry_lease s at Settling n x) ((settling_ungranting x s at (known x.setting (seen x) s at) n (settling_fits (lease_place x.setting s) (known x.setting (seen x) s at))).grants ∙ (k.1.waking wake).1);
      parts = g.parts;
      frees = g.frees;
    }

pub none_begin : (K : Step → Type 0) → ((z : Step) → z.effects.grants ≡ [] → K z) → Begins K
unfolding begin_recoveries begin_recovery
none_begin K none st past e follows whole =
    none (begin_recoveries (begin_step st past e.reading))
    (for_each_keeps (λ z. z.effects.grants ≡ []) (present_sessions st (seen (begin_step st past e.reading))) begin_recovery (begin_step st past e.reading)
    (λ s there y h. when_keeps (λ z. z.effects.grants ≡ []) (begins_now (seen y) (recovery_of y.setting (seen y) s)) (signal_and_refuse s None) y (λ begins k. stopped_grants y s None ∙ k) h) refl)
