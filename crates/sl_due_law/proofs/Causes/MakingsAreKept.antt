-- What a step makes for a job is kept by each act, and so is that each session which a job began has looked at its sector.
use Rattle.sl_due_facts.proofs.Acts.LoopsKeep.{for_each_keeps, when_keeps}
use Rattle.sl_due_facts.specs.Acts.Acts.{Acts, Hears, next_of_settling}
use Rattle.sl_due.specs.DueAnswers.{set_reply}
use Rattle.sl_due.specs.DueCommands.{answer_line, decided, reply_at_once}
use Rattle.sl_due.specs.CarriedDelta.{carry_delta, see_request}
use Rattle.sl_due.specs.DueRecovery.{begin_recoveries, begin_recovery, begins_now, send, signal_and_refuse, signal_holders}
use Rattle.sl_due.specs.DueTimeOuts.{refuse, remove_connection, remove_of_refused}
use Rattle.sl_due.specs.DueInputs.{end_holdings, leave_holdings, refuse_jobs_of, started_reply, when_running}
use Rattle.sl_due.specs.CarriedLease.{carry_lease, next_of_lease}
use Rattle.sl_due.specs.DueRequests.{after_value_read, bits_due, value_reply}
use Rattle.sl_due.specs.Steps.{Step, add_reply, add_signal, begin_step, seen, with_input}
use Rattle.sl_due.specs.declared.decision.Decision.{Decision}
use Rattle.sl_due_law.proofs.Causes.AnswerMakings.{asked_made, led_made, settling_grants}
use Rattle.sl_due_law.proofs.Causes.LineMakings.{AtItsLine, Fresh, line_made}
use Rattle.sl_due_law.proofs.Causes.PlainMakings.{Adds, NoStart, PlainCall, adds, adds_nothing, delta_plain, is_special_call, jobless_awake, jobless_ungranted, made_plain, seen_made, settling_plain, still_made}
use Rattle.sl_due_law.proofs.Causes.ToldProcesses.{carried_told}
use Rattle.sl_due_leases.proofs.Grants.NothingGranted.{removed_grants, stopped_grants}
use Rattle.sl_due_leases.proofs.Grants.OrphansAreLawful.{Orphaning, left_orphans}
use Rattle.sl_due_leases.proofs.Holdings.MomentsAreKept.{delta_ungranting, no_grants, refused_alike, removal_alike, said_grants, same, sent_alike, signalled_alike}
use Rattle.sl_due_facts.proofs.Jobs.EffectsAreAllowed.{delta, ended, exited, lease, left, refusal, removal, removal_of_refused, said, sent, signalled, stopped}
use Rattle.sl_due_facts.proofs.Jobs.NearlyPlainActs.{AnyMove, Anything}
use Rattle.sl_due_law.specs.Causes.CauseFacts.{CauseFacts}
use Rattle.sl_due_law.specs.Causes.Makings.{GivenTo, MadeFor, MadeSoFar, StartedFor}
use Rattle.sl_due_law.specs.LawfulTraces.CarriedFacts.{Kept}
use Rattle.sl_trace.specs.Jobs.{aim_of, job_of_start}
use Rattle.sl_trace.specs.Leases.{spot_of_call}
use Rattle.sl_trace.specs.declared.lease.Aim.{Aim}
use Rattle.sl_trace.specs.declared.lease.LeaseNext.{LeaseNext}
use Rattle.sl_words.proofs.Lists.{contains_none}
use Rattle.sl_trace.specs.DeltaDecisions.{delta_known, delta_of_session, next_after_free, next_after_renewal, next_free, next_in_joining, next_on_wake, next_renewal}
use Rattle.sl_trace.specs.Sessions.{calls_of, generation_of, present_sessions, recovery_of}
use Rattle.sl_trace.specs.declared.delta.DeltaNext.{DeltaNext}
use Rattle.sl_trace.specs.declared.session.Session.{Session}
use Rattle.sl_trace.specs.Traces.{Setting, Submitted, Trace, holdings, leaves_orphan, next_job, no_process, orphan_of}
use Rattle.sl_trace.specs.declared.command.Command.{Command}
use Rattle.sl_trace.specs.declared.effects.Call.{Call}
use Rattle.sl_trace.specs.declared.effects.Grant.{Grant}
use Rattle.sl_trace.specs.declared.effects.LeaseStep.{LeaseStep}
use Rattle.sl_trace.specs.declared.effects.Op.TheVariants.{ReadSectors}
use Rattle.sl_trace.specs.declared.effects.Purpose.TheVariants.{Lease, SeeRequest}
use Rattle.sl_trace.specs.declared.effects.Signal.TheVariants.{Kill, Term}
use Rattle.sl_trace.specs.declared.effects.Spot.{Spot}
use Rattle.sl_trace.specs.declared.effects.Start.{Start}
use Rattle.sl_trace.specs.declared.effects.Work.{Work}
use Rattle.sl_trace.specs.declared.effects.Work.TheVariants.{ForJob, Settling}
use Rattle.sl_trace.specs.declared.input.Answer.{Answer}
use Rattle.sl_trace.specs.declared.input.Answer.TheVariants.{Read}
use Rattle.sl_trace.specs.declared.input.Input.{Input}
use Rattle.sl_trace.specs.declared.input.Input.TheVariants.{Answer as Told, Exit, Line, Number, Spawned, Wake}
use Rattle.sl_trace.specs.declared.reply.Reply.{Reply}
use Rattle.sl_trace.specs.declared.reply.Reply.TheVariants.{BadCommand as Misread, Done, IoFault, IoTimeout, SpawnFault}
use Rattle.sl_words.proofs.CaseLaws.{none_some}
use Rattle.std.proofs.Common.{ap, inl, inr, refl, subst, sym, ◌∙◌}
use Rattle.std.specs.Prelude.{Contains, List, None, Ok, Some, [], false, is_some, true, ℕ, ◌≡◌, ◌⊎◌}

-- ---- where a step stands

-- All that is known, with what stood behind the entries before.
abbrev pub KnowsCauses : Step → Type 0
KnowsCauses x = Kept x × CauseFacts x.setting x.past × MadeSoFar x

-- An act that gives nothing and calls for no job.
on_plainly : (x z : Step) → KnowsCauses x → Adds x z → z.effects.grants ≡ x.effects.grants → MadeSoFar z
on_plainly x z k a same = still_made x z a same k.2

fresh_awake : (x : Step) → KnowsCauses x → x.input ≡ Wake → x.effects.calls ≡ [] → Fresh x
fresh_awake x k wake bare = record { bare = bare; ungranted = (k.0.known.1.waking wake).1; jobless = λ q j there its. jobless_awake x wake k.2 q j there its }

fresh_heard : (x : Step) (s : Session) (m : Submitted) (answer : Answer) → KnowsCauses x → Hears x s m answer → Fresh x
fresh_heard x s m answer k hears = record { bare = hears.bare; ungranted = hears.ungranted; jobless = λ q j there its. jobless_ungranted x hears.ungranted k.2 q j there its }

input_made : (x : Step) (i : Input) → KnowsCauses x → x.input ≡ Wake → x.effects.calls ≡ [] → MadeSoFar (with_input i x)
input_made x i k wake bare = seen_made x i wake bare (k.0.known.1.waking wake).1 k.2

-- ---- exits

is_orphan_process : (l g : Grant) → orphan_of l ≡ g → g.process ≡ no_process
is_orphan_process l g is = ap (λ (k : Grant). k.process) (sym is)

exit_made : (x : Step) (p : ℕ) → KnowsCauses x → x.input ≡ Wake → x.effects.calls ≡ [] → MadeSoFar (refuse_jobs_of p (leave_holdings p (with_input (Exit p) x)))
exit_made x p k wake bare =
    record {
      calls = λ c there. by_call c (added.calls c there);
      starts = λ q j there its. by_start q j its (added.starts q there);
      grants = λ g there. by_grant g (gives.grants g there);
    } where
      w : Step
      w = with_input (Exit p) x

      u : Step
      u = refuse_jobs_of p (leave_holdings p w)

      added : Adds w u
      added =
          exited (Adds w) (Adds w) Anything PlainCall NoStart AnyMove (adds w) (leave_holdings p w) p (λ j there. tt)
          (left (Adds w) (Adds w) Anything PlainCall NoStart AnyMove (adds w) w p (adds_nothing w))

      gives : Orphaning w p u
      gives = left_orphans w p

      by_call : (c : Call) → Contains w.effects.calls c ⊎ (is_special_call c.purpose ≡ false) → MadeFor u.setting u.past u.input u.effects.grants c.op c.purpose
      by_call c (inl old) = absurd (contains_none c (subst (λ cs. Contains cs c) bare old))
      by_call c (inr plain) = made_plain u.setting u.past u.input u.effects.grants c.op c.purpose plain

      by_start : (q : Start) (j : ℕ) → q.job ≡ Some j → Contains w.effects.starts q ⊎ (q.job ≡ None) → StartedFor u.setting u.past u.input u.effects.grants q.process j
      by_start q j its (inl old) = absurd (jobless_awake x wake k.2 q j old its)
      by_start q j its (inr none) = absurd (none_some j (sym none ∙ its))

      by_grant : (g : Grant) → Contains w.effects.grants g ⊎ ((l : Grant) × Contains (holdings (seen w)) l × (leaves_orphan (holdings (seen w)) p l ≡ true) × (orphan_of l ≡ g)) → GivenTo u.past g.process
      by_grant g (inl old) = absurd (contains_none g (subst (λ gs. Contains gs g) (k.0.known.1.waking wake).1 old))
      by_grant g (inr o) = inl (is_orphan_process o.0 g o.3)

-- ---- lines

line_stands : (x : Step) (text : List ℕ) (c : Command) (d : Decision) → KnowsCauses x → x.input ≡ Wake → x.effects.calls ≡ [] → x.setting.read text ≡ Ok c → decided x.setting (seen x) x.reading c ≡ d → reply_at_once d ≡ None
    → AtItsLine x text c d
line_stands x text c d k wake bare says is more =
    record {
      wake = wake;
      fresh = fresh_awake x k wake bare;
      says = says;
      is = is;
      more = more;
      told = λ p names. carried_told x c d p wake is more names;
    }

answered_made : (x : Step) (text : List ℕ) (r : Reply) → KnowsCauses x → x.input ≡ Wake → x.effects.calls ≡ [] → MadeSoFar (answer_line text (next_job x.setting (seen x)) r x)
answered_made x text r k wake bare =
    let w : Step = with_input (Line text) x in
    let z : Step = answer_line text (next_job x.setting (seen x)) r x in
    still_made w z ((adds w).replies w (next_job x.setting (seen x)) r tt (adds_nothing w)) refl (input_made x (Line text) k wake bare)

-- ---- answers

replied_made : (x : Step) (j : ℕ) (r : Reply) → KnowsCauses x → MadeSoFar (add_reply j r x)
replied_made x j r k = on_plainly x (add_reply j r x) k ((adds x).replies x j r tt (adds_nothing x)) refl

delta_made : (x : Step) (s : Session) (n : DeltaNext) → KnowsCauses x → MadeSoFar (carry_delta s n x)
delta_made x s n k =
    on_plainly x (carry_delta s n x) k (delta (Adds x) (Adds x) Anything PlainCall NoStart AnyMove (adds x) x s n (delta_plain x s n) (adds_nothing x)) (delta_ungranting x s n).grants

settled_made : (x : Step) (s : Session) (at : Spot) (n : LeaseNext) → KnowsCauses x → MadeSoFar (carry_lease s at Settling n x)
settled_made x s at n k =
    on_plainly x (carry_lease s at Settling n x) k (lease (Adds x) (Adds x) Anything PlainCall NoStart AnyMove (adds x) x s at Settling n (settling_plain x s at n) (adds_nothing x)) (settling_grants x s at n)

leads_made : (x : Step) (s : Session) (work : Work) (step : LeaseStep) (m : Submitted) (answer : Answer) (aim : Aim) → KnowsCauses x → Hears x s m answer → m.call.purpose ≡ Lease work step → aim_of x.setting (seen x) work ≡ Some aim
    → MadeSoFar (carry_lease s (spot_of_call x.setting.layout m) work (next_of_lease x.setting (seen x) s (spot_of_call x.setting.layout m) aim m step answer) x)
leads_made x s Settling step m answer aim k hears is aims = settled_made x s (spot_of_call x.setting.layout m) (next_of_lease x.setting (seen x) s (spot_of_call x.setting.layout m) aim m step answer) k
leads_made x s (ForJob j) step m answer aim k hears is aims =
    led_made x s m answer j step aim (record { known = k.0.known; fresh = fresh_heard x s m answer k hears; children = k.1.starts; hears = hears; purpose = is; aims = aims })
    (next_of_lease x.setting (seen x) s (spot_of_call x.setting.layout m) aim m step answer) refl

-- ---- all acts

pub makings_are_kept : Acts KnowsCauses MadeSoFar
unfolding after_value_read
makings_are_kept =
    record {
      kills = λ x s has due k.
          on_plainly x (signal_holders Kill s x) k (signalled (Adds x) (Adds x) Anything PlainCall NoStart AnyMove (adds x) refl x Kill s (adds_nothing x)) (signalled_alike x Kill s).grants;
      times_out = λ x j m wake bare runs waits late k.
          let r : Reply = IoTimeout m.call.number m.reading x.reading in
          on_plainly x (refuse j r x) k (refusal (Adds x) (Adds x) Anything PlainCall NoStart AnyMove (adds x) x j r tt (λ z is. tt) (adds_nothing x)) (refused_alike x x j r (same x)).grants;
      hears = λ x number answer wake bare expected k. input_made x (Told number answer) k wake bare;
      counts = λ x text wake bare k. input_made x (Number text) k wake bare;
      exits = λ x p wake bare one k. exit_made x p k wake bare;
      exits_as_none = λ x p wake bare none k. input_made x (Exit p) k wake bare;
      starts = λ x p ok wake bare expected k. input_made x (Spawned p ok) k wake bare;
      fails_to_start = λ x p input k.
          on_plainly x (when_running (job_of_start (seen x) p) SpawnFault (end_holdings p x)) k
          (said (Adds x) (Adds x) Anything PlainCall NoStart AnyMove (adds x) (end_holdings p x) (job_of_start (seen x) p) SpawnFault (λ j is. tt) (ended (Adds x) (Adds x) Anything PlainCall NoStart AnyMove (adds x) x p (adds_nothing x)))
          (said_grants x (end_holdings p x) (job_of_start (seen x) p) SpawnFault (no_grants x p));
      signals_instead = λ x p q input stood k. on_plainly x (add_signal q Term x) k ((adds x).signals x q Term (adds_nothing x)) refl;
      says_started = λ x p j input is runs k. replied_made x j (started_reply (seen x) p) k;
      misreads = λ x text column wake bare says k. answered_made x text (Misread column) k wake bare;
      answers = λ x text c r wake bare says is k. answered_made x text r k wake bare;
      carries = λ x text c d wake bare says is more k. line_made x text c d (line_stands x text c d k wake bare says is more);
      joins_on = λ x s j step m answer hears is runs k. delta_made x s (next_in_joining (delta_of_session x.setting s) (generation_of (seen x) s) (calls_of (seen x) s) x.reading m step answer) k;
      ends_joining = λ x s j step m answer hears is stops k.
          on_plainly x (remove_of_refused s x) k (removal_of_refused (Adds x) (Adds x) Anything PlainCall NoStart AnyMove (adds x) x s tt (adds_nothing x)) (removed_grants x s);
      renewed = λ x s m answer hears is k. delta_made x s (next_after_renewal (is_some (recovery_of x.setting (seen x) s)) m.reading answer) k;
      freed = λ x s j m answer hears is k. delta_made x s (next_after_free j m.call.number answer) k;
      shown = λ x s m bytes hears is joined begins k.
          on_plainly x (signal_and_refuse s None x) k (stopped (Adds x) (Adds x) Anything PlainCall NoStart AnyMove (adds x) refl x s None (λ z g j there. tt) (adds_nothing x)) (stopped_grants x s None);
      sees = λ x s number bytes at g has input held k. on_plainly x (see_request s g x) k ((adds x).calls x s g.path SeeRequest _ (ReadSectors 1) refl (adds_nothing x)) refl;
      leads_on = λ x s work step m answer aim hears is on aims k. leads_made x s work step m answer aim k hears is aims;
      fails = λ x s m j hears lone runs k. replied_made x j (IoFault m.call.number) k;
      has_asked = λ x s m j owner hears is runs k. replied_made x j Done k;
      has_set = λ x s m j hears is runs k. replied_made x j (set_reply m) k;
      asks = λ x s m j bytes c hears is runs reads k. asked_made x s m j bytes c k.0.known.0 (fresh_heard x s m (Read bytes) k hears) hears is reads;
      tells = λ x s m j bytes hears is runs k. replied_made x j (value_reply x.setting.layout bytes) k;
      warns = λ x s m bytes g signal hears is held own says k.
          on_plainly x (send g.process signal x) k (sent (Adds x) (Adds x) Anything PlainCall NoStart AnyMove (adds x) refl x g.process signal (adds_nothing x)) (sent_alike x x g.process signal (same x)).grants;
      joins_in_time = λ x s j has wake is runs k. delta_made x s (next_on_wake (delta_of_session x.setting s) x.reading (calls_of (seen x) s)) k;
      renews = λ x s has wake joined k.
          delta_made x s (next_renewal (delta_of_session x.setting s) x.reading (delta_known x.setting (seen x) s) (bits_due x.setting (calls_of (seen x) s) x.reading)) k;
      settles = λ x s at has wake active aligned none k. settled_made x s at (next_of_settling x.setting (seen x) s at) k;
      parts = λ x s has joined recovers free quiet k.
          on_plainly x (remove_connection s.lockspace x) k (removal (Adds x) (Adds x) Anything PlainCall NoStart AnyMove (adds x) x s.lockspace tt (adds_nothing x)) (removal_alike x x s.lockspace (same x)).grants;
      frees = λ x s has joined well free quiet k. delta_made x s (next_free (delta_of_session x.setting s) x.reading (delta_known x.setting (seen x) s)) k;
    }

pub makings_begin : (st : Setting) (past : Trace) (now : ℕ) → MadeSoFar (begin_recoveries (begin_step st past now))
unfolding begin_recoveries begin_recovery
makings_begin st past now =
    still_made x (begin_recoveries x)
    (for_each_keeps (Adds x) (present_sessions st (seen x)) begin_recovery x
    (λ s there y a. when_keeps (Adds x) (begins_now (seen y) (recovery_of y.setting (seen y) s)) (signal_and_refuse s None) y
    (λ starts f. stopped (Adds x) (Adds x) Anything PlainCall NoStart AnyMove (adds x) refl y s None (λ z g j inside. tt) f) a) (adds_nothing x))
    (for_each_keeps (λ z. z.effects.grants ≡ []) (present_sessions st (seen x)) begin_recovery x
    (λ s there y h. when_keeps (λ z. z.effects.grants ≡ []) (begins_now (seen y) (recovery_of y.setting (seen y) s)) (signal_and_refuse s None) y (λ begins k. stopped_grants y s None ∙ k) h) refl)
    (record { calls = λ c there. absurd (contains_none c there); starts = λ q j there its. absurd (contains_none q there); grants = λ g there. absurd (contains_none g there) })
  where
    x : Step
    x = begin_step st past now
