-- How far a step has come: on a wake nothing is granted or ended, and after the answer to a start the only calls are frees of leavings.
use Rattle.sl_trace.specs.declared.effects.LeaseRead.TheVariants.{OfArea, OfFree}
use Rattle.sl_due_facts.proofs.Acts.EffectsKeep.{delta, lease}
use Rattle.sl_due_facts.proofs.Acts.LoopsKeep.{for_each_keeps, when_keeps}
use Rattle.sl_due_facts.proofs.Acts.PlainActs.{decision_kept, ended, exited, left, line_has, plain_acts}
use Rattle.sl_due_facts.specs.Acts.Acts.{Acts, Has, next_of_settling}
use Rattle.sl_due_facts.specs.Acts.KeptByEffects.{ByEffects}
use Rattle.sl_due.specs.DueCommands.{answer_line, carry_decision}
use Rattle.sl_due.specs.CarriedDelta.{carry_delta, for_joining}
use Rattle.sl_due.specs.DueTimeOuts.{refuse, remove_connection, remove_of_refused}
use Rattle.sl_due.specs.DueRecovery.{send, signal_holders}
use Rattle.sl_due.specs.DueInputs.{end_holdings, leave_holdings, refuse_jobs_of, started_reply, when_running}
use Rattle.sl_due.specs.DueRequests.{after_value_read, bits_due}
use Rattle.sl_due.specs.CarriedLease.{carry_lease}
use Rattle.sl_due.specs.Steps.{Step, add_end, add_move, add_reply, add_signal, add_start, seen, when, with_input, with_some}
use Rattle.sl_due.specs.declared.decision.Decision.{Decision}
use Rattle.sl_due_facts.proofs.Acts.DecisionsAreTheirs.{Of}
use Rattle.sl_due_leases.proofs.Holdings.HoldingsByCalls.{call_added}
use Rattle.sl_due_leases.proofs.Holdings.LeaseNexts.{IsPlainNext, settling_fits}
use Rattle.sl_due_leases.specs.Holdings.Moments.{Moment}
use Rattle.sl_due_leases.specs.Holdings.HoldingLaws.{MomentsAreKept}
use Rattle.sl_trace.specs.KillPrograms.{stopper_of}
use Rattle.sl_trace.specs.Jobs.{job_of_start}
use Rattle.sl_trace.specs.LeaseDecisions.{lease_place}
use Rattle.sl_trace.specs.Leases.{LeaseKnown, known}
use Rattle.sl_trace.specs.declared.lease.LeaseNext.TheVariants.{AnswerJob, BecomeExclusive, BecomeShared, GrantJob, Nothing as No_lease, ReadFor, WriteBlock, WriteLeader}
use Rattle.sl_trace.specs.declared.lease.LeaseNext.{LeaseNext}
use Rattle.sl_words.proofs.Lists.{contains_cases, contains_none}
use Rattle.sl_sector.specs.Bitmaps.{no_bits}
use Rattle.sl_sector.specs.declared.sector.DeltaRec.{DeltaRec}
use Rattle.sl_sector.specs.declared.sector.DeltaState.TheVariants.{Free}
use Rattle.sl_sector.specs.declared.sector.Rec.TheVariants.{DeltaIs}
use Rattle.sl_trace.specs.DeltaDecisions.{delta_known, delta_of_session, delta_record, next_free, next_on_wake, next_renewal, own_offset}
use Rattle.sl_trace.specs.Sessions.{calls_of, free_write, generation_of, has_open_write, holders_of, last_seq, leaving_job, refused_after, session_of_job}
use Rattle.sl_trace.specs.declared.delta.DeltaNext.TheVariants.{Disconnect, EndLeaving, Join, MoveConnection, Nothing, ReadOwn, RefuseJoin, RegisterAndRead, WriteClaim, WriteFirst, WriteFree, WriteRenewal}
use Rattle.sl_trace.specs.declared.delta.DeltaNext.{DeltaNext}
use Rattle.sl_trace.specs.declared.session.Session.{Session}
use Rattle.sl_trace.specs.WatchdogConnections.{is_registered}
use Rattle.sl_trace.specs.Traces.{Job, end_of, holdings, is_running, next_child, next_job}
use Rattle.sl_trace.specs.declared.command.Command.{Command}
use Rattle.sl_trace.specs.declared.effects.Call.{Call}
use Rattle.sl_trace.specs.declared.effects.LeaseStep.TheVariants.{ReadAgain, ReadArea, ReadBeforeFree}
use Rattle.sl_trace.specs.declared.effects.Move.TheVariants.{Unregister}
use Rattle.sl_trace.specs.declared.effects.Op.TheVariants.{WriteRecord}
use Rattle.sl_trace.specs.declared.effects.Purpose.TheVariants.{Leaving}
use Rattle.sl_trace.specs.declared.effects.Signal.TheVariants.{Kill, Term}
use Rattle.sl_trace.specs.declared.effects.Signal.{Signal}
use Rattle.sl_trace.specs.declared.effects.Spot.{Spot}
use Rattle.sl_trace.specs.declared.effects.Work.TheVariants.{Settling}
use Rattle.sl_trace.specs.declared.input.Answer.TheVariants.{Failed, Read, Written}
use Rattle.sl_trace.specs.declared.input.Answer.{Answer}
use Rattle.sl_trace.specs.declared.input.Input.TheVariants.{Answer as Told, Exit, Line, Number, Spawned, Wake}
use Rattle.sl_trace.specs.declared.input.Input.{Input}
use Rattle.sl_trace.specs.declared.reply.Reply.TheVariants.{BadCommand as Misread, IoTimeout, SpawnFault}
use Rattle.sl_trace.specs.declared.reply.Reply.{Reply}
use Rattle.sl_words.proofs.CaseLaws.{true_is_false}
use Rattle.std.proofs.Common.{ap, inl, inr, refl, subst, sym, ◌∙◌}
use Rattle.std.proofs.lemmas.List.Elements.{Contains-append_cases}
use Rattle.std.specs.Prelude.{Bool, Contains, List, None, Option, Some, [], false, filter, is_some, not, option_map, true, ℕ, ◌&&◌, ◌++◌, ◌+◌, ◌==◌, ◌∷◌, ◌≡◌, ◌⊎◌}

-- ---- another input

-- Whether it is a wake, or the answer to a start.
abbrev is_early : Input → Bool
is_early Wake = true
is_early (Spawned p ok) = true
is_early i = false

pub of_other : (z : Step) (i : Input) → z.input ≡ i → is_early i ≡ false → Moment z
of_other z i is other =
    record {
      waking = λ wake. absurd (true_is_false (ap (λ k. is_early k) (sym wake ∙ is) ∙ other));
      starting = λ p ok c start there. absurd (true_is_false (ap (λ k. is_early k) (sym start ∙ is) ∙ other));
      ungranted = λ p ok start. absurd (true_is_false (ap (λ k. is_early k) (sym start ∙ is) ∙ other));
    }

pub input_effects : (i : Input) → ByEffects (λ z. z.input ≡ i)
input_effects i =
    record {
      ends = λ x e h. h;
      signals = λ x p s h. h;
      moves = λ x m h. h;
      grants = λ x g h. h;
      starts = λ x s h. h;
      replies = λ x j r h. h;
      calls = λ x s path p o op has h. h;
    }

pub told_acts : (n : ℕ) (w : Answer) → Acts (λ z. z.input ≡ Told n w) (λ z. z.input ≡ Told n w)
told_acts n w =
    plain_acts (λ z. z.input ≡ Told n w) (record {
      effects = input_effects (Told n w);
      inputs = λ x k wake bare h. absurd (true_is_false (ap (λ i. is_early i) (sym wake ∙ h)));
      begins = λ x text c k a wake bare says is h. absurd (true_is_false (ap (λ i. is_early i) (sym wake ∙ h)));
    })

pub carried : (x : Step) (text : List ℕ) (j : ℕ) (c : Command) (d : Decision) → Of (Has (with_input (Line text) x)) d → (carry_decision j c d (with_input (Line text) x)).input ≡ Line text
unfolding carry_decision
carried x text j c d has = decision_kept (λ z. z.input ≡ Line text) (input_effects (Line text)) (with_input (Line text) x) j c d has (λ n a is. refl) refl

-- ---- what ends and grants nothing, and makes no call

-- The same ends, grants and calls, at the same input.
pub record Alike (x y : Step) : Type 0 where
  pub input : y.input ≡ x.input
  pub ends : y.effects.ends ≡ x.effects.ends
  pub grants : y.effects.grants ≡ x.effects.grants
  pub calls : y.effects.calls ≡ x.effects.calls

pub same : (x : Step) → Alike x x
same x = record { input = refl; ends = refl; grants = refl; calls = refl }

pub alike : (x y : Step) → Alike x y → Moment x → Moment y
alike x y a m =
    record {
      waking = λ wake. (let w = m.waking (sym a.input ∙ wake) in (a.ends ∙ w.0, a.grants ∙ w.1));
      starting = λ p ok c start there. m.starting p ok c (sym a.input ∙ start) (subst (λ cs. Contains cs c) a.calls there);
      ungranted = λ p ok start. a.grants ∙ m.ungranted p ok (sym a.input ∙ start);
    }

again : (x y z : Step) → Alike x y → y.input ≡ z.input → y.effects.ends ≡ z.effects.ends → y.effects.grants ≡ z.effects.grants → y.effects.calls ≡ z.effects.calls → Alike x z
again x y z a i e g c = record { input = sym i ∙ a.input; ends = sym e ∙ a.ends; grants = sym g ∙ a.grants; calls = sym c ∙ a.calls }

told_alike : (x y : Step) (p : ℕ) (o : Option (List ℕ)) → Alike x y
    → Alike x (elim o as (λ z. Step) [ None ↦ add_signal p Term y | Some program ↦ add_start (record { process = next_child (seen y); program = program; job = None; stands_for = Some p }) y ])
told_alike x y p None a = again x y (add_signal p Term y) a refl refl refl refl
told_alike x y p (Some program) a = again x y (add_start (record { process = next_child (seen y); program = program; job = None; stands_for = Some p }) y) a refl refl refl refl

pub sent_alike : (x y : Step) (p : ℕ) (signal : Signal) → Alike x y → Alike x (send p signal y)
sent_alike x y p Term a = told_alike x y p (stopper_of y.setting (seen y) p) a
sent_alike x y p Kill a = again x y (add_signal p Kill y) a refl refl refl refl

pub signalled_alike : (x : Step) (signal : Signal) (s : Session) → Alike x (signal_holders signal s x)
signalled_alike x signal s = for_each_keeps (λ z. Alike x z) (holders_of (seen x) s) (λ p. send p signal) x (λ p there z a. sent_alike x z p signal a) (same x)

pub removal_alike : (x y : Step) (name : List ℕ) → Alike x y → Alike x (remove_connection name y)
removal_alike x y name a = by (is_registered y.setting (seen y) name) where
  by : (b : Bool) → Alike x (elim b as (λ z. Step) [ true ↦ add_move (Unregister name) y | false ↦ y ])
  by true = again x y (add_move (Unregister name) y) a refl refl refl refl
  by false = a

pub refused_alike : (x y : Step) (j : ℕ) (r : Reply) → Alike x y → Alike x (refuse j r y)
unfolding refuse
refused_alike x y j r a = by (session_of_job y.setting (seen y) j) where
  z : Step
  z = add_reply j r y

  there : Alike x z
  there = again x y z a refl refl refl refl

  gone : (s : Session) (b : Bool) → Alike x (when b (remove_connection s.lockspace) z)
  gone s true = removal_alike x z s.lockspace there
  gone s false = there

  by : (o : Option Session) → Alike x (with_some o remove_of_refused z)
  by None = there
  by (Some s) = gone s (is_some (refused_after (seen z) s) && not (has_open_write (seen z) s))

-- ---- what ends and grants nothing

pub record Ungranting (x y : Step) : Type 0 where
  pub ends : y.effects.ends ≡ x.effects.ends
  pub grants : y.effects.grants ≡ x.effects.grants

of_alike : (x y : Step) → Alike x y → Ungranting x y
of_alike x y a = record { ends = a.ends; grants = a.grants }

by_job : (x : Step) (s : Session) (f : ℕ → Step → Step) → ((j : ℕ) → Ungranting x (f j x)) → Ungranting x (for_joining s f x)
by_job x s f keeps = by s.job where
  by : (o : Option ℕ) → Ungranting x (with_some o f x)
  by None = record { ends = refl; grants = refl }
  by (Some j) = keeps j

pub delta_ungranting : (x : Step) (s : Session) (n : DeltaNext) → Ungranting x (carry_delta s n x)
unfolding carry_delta
delta_ungranting x s Nothing = record { ends = refl; grants = refl }
delta_ungranting x s (RefuseJoin r) = by_job x s (λ j. refuse j r) (λ j. of_alike x (refuse j r x) (refused_alike x x j r (same x)))
delta_ungranting x s (ReadOwn step) = by_job x s _ (λ j. record { ends = refl; grants = refl })
delta_ungranting x s (RegisterAndRead step) = by_job x s _ (λ j. record { ends = refl; grants = refl })
delta_ungranting x s (WriteClaim d) = by_job x s _ (λ j. record { ends = refl; grants = refl })
delta_ungranting x s Disconnect = of_alike x (remove_connection s.lockspace x) (removal_alike x x s.lockspace (same x))
delta_ungranting x s (WriteFirst d) = by_job x s _ (λ j. record { ends = refl; grants = refl })
delta_ungranting x s (Join generation renewed) = by_job x s _ (λ j. record { ends = refl; grants = refl })
delta_ungranting x s (MoveConnection renewed) = record { ends = refl; grants = refl }
delta_ungranting x s (WriteRenewal d) = record { ends = refl; grants = refl }
delta_ungranting x s (WriteFree j d) = record { ends = refl; grants = refl }
delta_ungranting x s (EndLeaving j r) = by (is_running (seen x) j) where
  y : Step
  y = remove_connection s.lockspace x

  there : Alike x y
  there = removal_alike x x s.lockspace (same x)

  by : (b : Bool) → Ungranting x (when b (add_reply j r) y)
  by true = record { ends = there.ends; grants = there.grants }
  by false = of_alike x y there

pub settling_ungranting : (x : Step) (s : Session) (at : Spot) (k : LeaseKnown) (n : LeaseNext) → IsPlainNext k n → Ungranting x (carry_lease s at Settling n x)
unfolding carry_lease
settling_ungranting x s at k No_lease h = record { ends = refl; grants = refl }
settling_ungranting x s at k (ReadFor (ReadArea name)) h = record { ends = refl; grants = refl }
settling_ungranting x s at k (ReadFor ReadBeforeFree) h = record { ends = refl; grants = refl }
settling_ungranting x s at k (ReadFor (ReadAgain (OfArea name))) h = record { ends = refl; grants = refl }
settling_ungranting x s at k (ReadFor (ReadAgain OfFree)) h = record { ends = refl; grants = refl }
settling_ungranting x s at k (ReadFor step) h = record { ends = refl; grants = refl }
settling_ungranting x s at k (WriteBlock step b) h = record { ends = refl; grants = refl }
settling_ungranting x s at k (WriteLeader step l) h = record { ends = refl; grants = refl }
settling_ungranting x s at k (AnswerJob r) h = record { ends = refl; grants = refl }
settling_ungranting x s at k (GrantJob mode lver) h = absurd h
settling_ungranting x s at k (BecomeShared lver l) h = absurd h
settling_ungranting x s at k (BecomeExclusive lver b) h = absurd h

-- Of a wake.
waked : (x y : Step) → y.input ≡ Wake → Ungranting x y → x.input ≡ Wake → Moment x → Moment y
waked x y input a wake m =
    record {
      waking = λ now. (let w = m.waking wake in (a.ends ∙ w.0, a.grants ∙ w.1));
      starting = λ p ok c start there. absurd (true_is_false (ap (λ i. is_wake i) (sym input ∙ start)));
      ungranted = λ p ok start. absurd (true_is_false (ap (λ i. is_wake i) (sym input ∙ start)));
    } where
      is_wake : Input → Bool
      is_wake Wake = true
      is_wake i = false

wake_delta : (x : Step) (s : Session) (n : DeltaNext) → Has x s → x.input ≡ Wake → Moment x → Moment (carry_delta s n x)
wake_delta x s n has wake m =
    waked x (carry_delta s n x) (delta (λ z. z.input ≡ Wake) (input_effects Wake) x s has n wake) (delta_ungranting x s n) wake m

-- ---- the free of a leaving

last_call : (x y : Step) (c : Call) (j : ℕ) → y.input ≡ x.input → y.effects.ends ≡ x.effects.ends → y.effects.grants ≡ x.effects.grants → y.effects.calls ≡ x.effects.calls ++ c ∷ [] → c.purpose ≡ Leaving j → Moment x → Moment y
last_call x y c j input ends grants calls leaves m =
    record {
      waking = λ wake. (let w = m.waking (sym input ∙ wake) in (ends ∙ w.0, grants ∙ w.1));
      starting = λ p ok d start there. by d (sym input ∙ start) (Contains-append_cases x.effects.calls (c ∷ []) d (subst (λ cs. Contains cs d) calls there));
      ungranted = λ p ok start. grants ∙ m.ungranted p ok (sym input ∙ start);
    } where
      only : (d : Call) → (c ≡ d) ⊎ Contains [] d → (i : ℕ) × (d.purpose ≡ Leaving i)
      only d (inl is) = (j, ap (λ (k : Call). k.purpose) (sym is) ∙ leaves)
      only d (inr none) = absurd (contains_none d none)

      by : {p : ℕ} {ok : Bool} → (d : Call) → x.input ≡ Spawned p ok → Contains x.effects.calls d ⊎ Contains (c ∷ []) d → (i : ℕ) × (d.purpose ≡ Leaving i)
      by {p} {ok} d start (inl old) = m.starting p ok d start old
      by d start (inr new) = only d (contains_cases c [] d new)

pub freed_moment : (x : Step) (s : Session) → Moment x → Moment (carry_delta s (next_free (delta_of_session x.setting s) x.reading (delta_known x.setting (seen x) s)) x)
unfolding carry_delta
freed_moment x s m = by (option_map (λ (j : Job). j.number) (leaving_job x.setting (seen x) s)) (is_some (free_write (calls_of (seen x) s))) where
  d : DeltaRec
  d = delta_record (delta_of_session x.setting s) Free (generation_of (seen x) s) (last_seq (seen x) s + 1) x.reading no_bits

  by : (o : Option ℕ) (b : Bool) → Moment (carry_delta s (elim o as (λ z. DeltaNext) [ None ↦ Nothing | Some j ↦ elim b as (λ z. DeltaNext) [ true ↦ Nothing | false ↦ WriteFree j d ] ]) x)
  by None b = m
  by (Some j) true = m
  by (Some j) false =
      last_call x (carry_delta s (WriteFree j d) x) (call_added s.number s.path (Leaving j) (own_offset x.setting s) (WriteRecord (DeltaIs d)) x) j refl refl refl refl refl m

-- ---- the whole

by_told : (x y : Step) (n : ℕ) (w : Answer) → y.input ≡ Told n w → Moment y
by_told x y n w is = of_other y (Told n w) is refl

no_calls : (x : Step) (p : ℕ) → (end_holdings p x).effects.calls ≡ x.effects.calls
no_calls x p = for_each_keeps (λ z. z.effects.calls ≡ x.effects.calls) (filter (λ g. g.process == p) (holdings (seen x))) (λ g. add_end (end_of g)) x (λ g there y k. k) refl

said_calls : (x y : Step) (o : Option ℕ) (r : Reply) → y.effects.calls ≡ x.effects.calls → (when_running o r y).effects.calls ≡ x.effects.calls
said_calls x y None r h = h
said_calls x y (Some j) r h = when_keeps (λ z. z.effects.calls ≡ x.effects.calls) (is_running (seen y) j) (add_reply j r) y (λ runs k. k) h

pub no_grants : (x : Step) (p : ℕ) → (end_holdings p x).effects.grants ≡ x.effects.grants
no_grants x p = for_each_keeps (λ z. z.effects.grants ≡ x.effects.grants) (filter (λ g. g.process == p) (holdings (seen x))) (λ g. add_end (end_of g)) x (λ g there y k. k) refl

pub said_grants : (x y : Step) (o : Option ℕ) (r : Reply) → y.effects.grants ≡ x.effects.grants → (when_running o r y).effects.grants ≡ x.effects.grants
said_grants x y None r h = h
said_grants x y (Some j) r h = when_keeps (λ z. z.effects.grants ≡ x.effects.grants) (is_running (seen y) j) (add_reply j r) y (λ runs k. k) h

pub said_input : (i : Input) (y : Step) (o : Option ℕ) (r : Reply) → y.input ≡ i → (when_running o r y).input ≡ i
said_input i y None r h = h
said_input i y (Some j) r h = when_keeps (λ z. z.input ≡ i) (is_running (seen y) j) (add_reply j r) y (λ runs k. k) h

failed : (x : Step) (p : ℕ) → x.input ≡ Spawned p false → Moment x → Moment (when_running (job_of_start (seen x) p) SpawnFault (end_holdings p x))
failed x p input m =
    let y : Step = when_running (job_of_start (seen x) p) SpawnFault (end_holdings p x) in
    let is : y.input ≡ Spawned p false = said_input (Spawned p false) (end_holdings p x) (job_of_start (seen x) p) SpawnFault (ended (λ z. z.input ≡ Spawned p false) (input_effects (Spawned p false)) x p input) in
    record {
      waking = λ wake. absurd (true_is_false (ap (λ i. is_wake i) (sym wake ∙ is)));
      starting = λ q ok c start there.
          m.starting p false c input (subst (λ cs. Contains cs c) (said_calls x (end_holdings p x) (job_of_start (seen x) p) SpawnFault (no_calls x p)) there);
      ungranted = λ q ok start. said_grants x (end_holdings p x) (job_of_start (seen x) p) SpawnFault (no_grants x p) ∙ m.ungranted p false input;
    } where
      is_wake : Input → Bool
      is_wake Wake = true
      is_wake i = false

started : (x : Step) (p : ℕ) (ok : Bool) → x.effects.calls ≡ [] → x.effects.grants ≡ [] → Moment (with_input (Spawned p ok) x)
started x p ok bare none =
    record {
      waking = λ wake. absurd (true_is_false (ap (λ i. is_wake i) (sym wake)));
      starting = λ q b c start there. absurd (contains_none c (subst (λ cs. Contains cs c) bare there));
      ungranted = λ q b start. none;
    } where
      is_wake : Input → Bool
      is_wake Wake = true
      is_wake i = false

pub moments_are_kept : MomentsAreKept
unfolding after_value_read
moments_are_kept =
    record {
      kills = λ x s has due m. alike x (signal_holders Kill s x) (signalled_alike x Kill s) m;
      times_out = λ x j m wake bare runs waits late k. alike x (refuse j (IoTimeout m.call.number m.reading x.reading) x) (refused_alike x x j (IoTimeout m.call.number m.reading x.reading) (same x)) k;
      hears = λ x number answer wake bare expected m. of_other (with_input (Told number answer) x) (Told number answer) refl refl;
      counts = λ x text wake bare m. of_other (with_input (Number text) x) (Number text) refl refl;
      exits = λ x p wake bare one m.
          let y : Step = with_input (Exit p) x in
          of_other (refuse_jobs_of p (leave_holdings p y)) (Exit p)
          (exited (λ z. z.input ≡ Exit p) (input_effects (Exit p)) (leave_holdings p y) p (left (λ z. z.input ≡ Exit p) (input_effects (Exit p)) y p refl)) refl;
      exits_as_none = λ x p wake bare none m. of_other (with_input (Exit p) x) (Exit p) refl refl;
      starts = λ x p ok wake bare expected m. started x p ok bare (m.waking wake).1;
      fails_to_start = λ x p input m. failed x p input m;
      signals_instead = λ x p q input stood m. alike x (add_signal q Term x) (again x x (add_signal q Term x) (same x) refl refl refl refl) m;
      says_started = λ x p j input is runs m. alike x (add_reply j (started_reply (seen x) p) x) (again x x (add_reply j (started_reply (seen x) p) x) (same x) refl refl refl refl) m;
      misreads = λ x text column wake bare says m. of_other (answer_line text (next_job x.setting (seen x)) (Misread column) x) (Line text) refl refl;
      answers = λ x text c r wake bare says is m. of_other (answer_line text (next_job x.setting (seen x)) r x) (Line text) refl refl;
      carries = λ x text c d wake bare says is more m.
          of_other (carry_decision (next_job x.setting (seen x)) c d (with_input (Line text) x)) (Line text)
          (carried x text (next_job x.setting (seen x)) c d (subst (λ z. Of (Has (with_input (Line text) x)) z) is (line_has x text c bare))) refl;
      joins_on = λ x s j step m answer hears is runs k. by_told x _ hears.number answer ((told_acts hears.number answer).joins_on x s j step m answer hears is runs hears.heard);
      ends_joining = λ x s j step m answer hears is stops k. by_told x _ hears.number answer ((told_acts hears.number answer).ends_joining x s j step m answer hears is stops hears.heard);
      renewed = λ x s m answer hears is k. by_told x _ hears.number answer ((told_acts hears.number answer).renewed x s m answer hears is hears.heard);
      freed = λ x s j m answer hears is k. by_told x _ hears.number answer ((told_acts hears.number answer).freed x s j m answer hears is hears.heard);
      shown = λ x s m bytes hears is joined begins k. by_told x _ hears.number (Read bytes) ((told_acts hears.number (Read bytes)).shown x s m bytes hears is joined begins hears.heard);
      sees = λ x s number bytes at g has input held k. by_told x _ number (Read bytes) ((told_acts number (Read bytes)).sees x s number bytes at g has input held input);
      leads_on = λ x s work step m answer aim hears is on at k. by_told x _ hears.number answer ((told_acts hears.number answer).leads_on x s work step m answer aim hears is on at hears.heard);
      fails = λ x s m j hears lone runs k. by_told x _ hears.number Failed ((told_acts hears.number Failed).fails x s m j hears lone runs hears.heard);
      has_asked = λ x s m j owner hears is runs k. by_told x _ hears.number Written ((told_acts hears.number Written).has_asked x s m j owner hears is runs hears.heard);
      has_set = λ x s m j hears is runs k. by_told x _ hears.number Written ((told_acts hears.number Written).has_set x s m j hears is runs hears.heard);
      asks = λ x s m j bytes c hears is runs at k. by_told x _ hears.number (Read bytes) ((told_acts hears.number (Read bytes)).asks x s m j bytes c hears is runs at hears.heard);
      tells = λ x s m j bytes hears is runs k. by_told x _ hears.number (Read bytes) ((told_acts hears.number (Read bytes)).tells x s m j bytes hears is runs hears.heard);
      warns = λ x s m bytes g signal hears is held own says k. by_told x _ hears.number (Read bytes) ((told_acts hears.number (Read bytes)).warns x s m bytes g signal hears is held own says hears.heard);
      joins_in_time = λ x s j has wake is runs m. wake_delta x s (next_on_wake (delta_of_session x.setting s) x.reading (calls_of (seen x) s)) has wake m;
      renews = λ x s has wake joined m. wake_delta x s (next_renewal (delta_of_session x.setting s) x.reading (delta_known x.setting (seen x) s) (bits_due x.setting (calls_of (seen x) s) x.reading)) has wake m;
      settles = λ x s at has wake active aligned none m.
          let n : LeaseNext = next_of_settling x.setting (seen x) s at in
          waked x (carry_lease s at Settling n x) (lease (λ z. z.input ≡ Wake) (input_effects Wake) x s has at Settling n wake)
          (settling_ungranting x s at (known x.setting (seen x) s at) n (settling_fits (lease_place x.setting s) (known x.setting (seen x) s at))) wake m;
      parts = λ x s has joined recovers free quiet m. alike x (remove_connection s.lockspace x) (removal_alike x x s.lockspace (same x)) m;
      frees = λ x s has joined well free quiet m. freed_moment x s m;
    }
