-- What each effect keeps is kept by removals, refusals, signals, grants and delta leases.
use Rattle.sl_due_facts.proofs.Acts.LoopsKeep.{for_each_keeps, when_keeps}
use Rattle.sl_due_facts.specs.Acts.TraceSoFar.{entry_of}
use Rattle.sl_due.specs.CarriedDelta.{carry_delta, for_joining, move_connection, read_own_sector, register, survey, write_own_sector}
use Rattle.sl_due.specs.DueTimeOuts.{refuse, remove_connection, remove_of_refused}
use Rattle.sl_due.specs.DueRecovery.{send, signal_and_refuse, signal_holders}
use Rattle.sl_due.specs.DueInputs.{when_running}
use Rattle.sl_due.specs.CarriedLease.{grant_for, grant_of}
use Rattle.sl_due.specs.Steps.{Step, add_call_of, add_grant, add_move, add_reply, add_signal, add_start, seen, when, with_some}
use Rattle.sl_due_leases.proofs.Holdings.HoldingsByEffects.{SameCalls, later_same}
use Rattle.sl_due_leases.proofs.Holdings.HoldingsByLoops.{AnswersNoJob, jobless_same}
use Rattle.sl_run.specs.LawfulArea.{is_area_work}
use Rattle.sl_due_leases.proofs.Ways.WayFactsHeld.PlainWalks.{DeltaFits}
use Rattle.sl_trace.specs.KillPrograms.{stopper_of}
use Rattle.sl_trace.specs.Jobs.{jobs_of_session}
use Rattle.sl_sector.specs.declared.sector.Rec.TheVariants.{DeltaIs}
use Rattle.sl_trace.specs.DeltaDecisions.{own_offset}
use Rattle.sl_trace.specs.Sessions.{has_open_write, holders_of, is_join_call, last_renewal, refused_after, same_join_step, session_of_job}
use Rattle.sl_trace.specs.declared.delta.DeltaNext.{DeltaNext}
use Rattle.sl_trace.specs.declared.delta.DeltaNext.TheVariants.{Disconnect, EndLeaving, Join, MoveConnection, Nothing, ReadOwn, RefuseJoin, RegisterAndRead, WriteClaim, WriteFirst, WriteFree, WriteRenewal}
use Rattle.sl_trace.specs.declared.session.Session.{Session}
use Rattle.sl_time.specs.Times.{fail}
use Rattle.sl_trace.specs.WatchdogConnections.{is_registered}
use Rattle.sl_trace.specs.Traces.{Job, is_before_input, is_running, next_child}
use Rattle.sl_trace.specs.declared.command.Command.{Command}
use Rattle.sl_trace.specs.declared.command.Command.TheVariants.{Acquire, RunProgram, TakeOver}
use Rattle.sl_trace.specs.declared.effects.Grant.{Grant}
use Rattle.sl_trace.specs.declared.effects.JoinStep.TheVariants.{ClaimWrite, FirstRead, FirstRenewal}
use Rattle.sl_trace.specs.declared.effects.Mode.{Mode}
use Rattle.sl_trace.specs.declared.effects.Move.{Move}
use Rattle.sl_trace.specs.declared.effects.Move.TheVariants.{Register, Renew, Unregister}
use Rattle.sl_trace.specs.declared.effects.Op.{Op}
use Rattle.sl_trace.specs.declared.effects.Op.TheVariants.{ReadSectors, WriteRecord}
use Rattle.sl_trace.specs.declared.effects.Purpose.{Purpose}
use Rattle.sl_trace.specs.declared.effects.Purpose.TheVariants.{Joining, Leaving, Renewal, Survey}
use Rattle.sl_trace.specs.declared.effects.Signal.{Signal}
use Rattle.sl_trace.specs.declared.effects.Signal.TheVariants.{Kill, Term}
use Rattle.sl_trace.specs.declared.effects.Start.{Start}
use Rattle.sl_trace.specs.declared.reply.Reply.{Reply}
use Rattle.sl_trace.specs.declared.reply.Reply.TheVariants.{Generation, Granted, Recovering}
use Rattle.sl_words.specs.Words.{some_is}
use Rattle.std.proofs.Common.{refl}
use Rattle.std.specs.Prelude.{Bool, List, None, Option, Some, false, filter, is_some, not, true, ℕ, ◌&&◌, ◌+◌, ◌==◌, ◌≡◌}

-- A child that is started next.
abbrev pub next_start : Step → List ℕ → Option ℕ → Option ℕ → Start
next_start x program job stood = record { process = next_child (seen x); program = program; job = job; stands_for = stood }

-- What each effect keeps that is neither an end, a grant nor a call: a reply leaves the calls as they are, a child has the next number.
pub record GoesOn (K : Step → Type 0) : Type 0 where
  pub signals : (x : Step) (p : ℕ) (g : Signal) → K x → K (add_signal p g x)
  pub moves : (x : Step) (m : Move) → K x → K (add_move m x)
  pub starts : (x : Step) (program : List ℕ) (job stood : Option ℕ) → K x → K (add_start (next_start x program job stood) x)
  pub replies : (x : Step) (j : ℕ) (r : Reply) → SameCalls x.past (entry_of x) (record { job = j; reply = r }) → K x → K (add_reply j r x)

-- What stands after a call that is no work on an area and begins no session.
abbrev pub CallsOn : (Step → Type 0) → (Step → Type 0) → Type 0
CallsOn K L =
    (x : Step) (s : Session) (path : List ℕ) (p : Purpose) (o : ℕ) (op : Op) → is_area_work p ≡ false → is_join_call FirstRead p ≡ false → K x → L (add_call_of s.number path p o op x)

-- ---- removals and refusals

pub removal_on : (K : Step → Type 0) → GoesOn K → (x : Step) (name : List ℕ) → K x → K (remove_connection name x)
removal_on K g x name h = when_keeps K (is_registered x.setting (seen x) name) (add_move (Unregister name)) x (λ is k. g.moves x (Unregister name) k) h

pub removal_of_refused_on : (K : Step → Type 0) → GoesOn K → (x : Step) (s : Session) → K x → K (remove_of_refused s x)
removal_of_refused_on K g x s h =
    when_keeps K (is_some (refused_after (seen x) s) && not (has_open_write (seen x) s)) (remove_connection s.lockspace) x (λ is k. removal_on K g x s.lockspace k) h

pub refusal_on : (K : Step → Type 0) → GoesOn K → (x : Step) (j : ℕ) (r : Reply) → SameCalls x.past (entry_of x) (record { job = j; reply = r }) → K x → K (refuse j r x)
unfolding refuse
refusal_on K g x j r same h = by (session_of_job x.setting (seen x) j) where
  y : Step
  y = add_reply j r x

  there : K y
  there = g.replies x j r same h

  by : (o : Option Session) → K (with_some o remove_of_refused y)
  by None = there
  by (Some s) = removal_of_refused_on K g y s there

-- ---- signals

told_on : (K : Step → Type 0) → GoesOn K → (y : Step) (p : ℕ) (o : Option (List ℕ)) → K y
    → K (elim o as (λ z. Step) [ None ↦ add_signal p Term y | Some program ↦ add_start (record { process = next_child (seen y); program = program; job = None; stands_for = Some p }) y ])
told_on K g y p None h = g.signals y p Term h
told_on K g y p (Some program) h = g.starts y program None (Some p) h

pub sent_on : (K : Step → Type 0) → GoesOn K → (y : Step) (p : ℕ) (signal : Signal) → K y → K (send p signal y)
sent_on K g y p Term h = told_on K g y p (stopper_of y.setting (seen y) p) h
sent_on K g y p Kill h = g.signals y p Kill h

pub signalled_on : (K : Step → Type 0) → GoesOn K → (y : Step) (signal : Signal) (s : Session) → K y → K (signal_holders signal s y)
signalled_on K g y signal s h = for_each_keeps K (holders_of (seen y) s) (λ p. send p signal) y (λ p there z k. sent_on K g z p signal k) h

-- A stop of a session whose entry answers no job.
pub stopped_on : (K : Step → Type 0) → GoesOn K → (y : Step) (s : Session) (kept : Option ℕ) → AnswersNoJob y.past y.input → K y → K (signal_and_refuse s kept y)
unfolding signal_and_refuse
stopped_on K g y s kept none h =
    let z : Step = signal_holders Term s y in
    let there : K z × AnswersNoJob z.past z.input =
    for_each_keeps (λ w. K w × AnswersNoJob w.past w.input) (holders_of (seen y) s) (λ p. send p Term) y (λ p inside w k. (sent_on K g w p Term k.0, sent_same w p k.1)) (h, none)
    in
    (for_each_keeps (λ w. K w × AnswersNoJob w.past w.input) (filter (λ (j : Job). not (some_is (λ n. n == j.number) kept)) (jobs_of_session z.setting (seen z) s)) (λ j. add_reply j.number (Recovering (last_renewal z.setting (seen z) s))) z
    (λ j inside w k. (
      g.replies w j.number (Recovering (last_renewal z.setting (seen z) s)) (jobless_same w.past (entry_of w) (record { job = j.number; reply = Recovering (last_renewal z.setting (seen z) s) }) k.1) k.0,
      k.1,
    )) there).0
  where
    told_same : (w : Step) (p : ℕ) (o : Option (List ℕ)) → AnswersNoJob w.past w.input → (let u : Step = elim o as (λ z. Step) [
      | None ↦ add_signal p Term w
      | Some program ↦ add_start (record { process = next_child (seen w); program = program; job = None; stands_for = Some p }) w
    ] in AnswersNoJob u.past u.input)
    told_same w p None k = k
    told_same w p (Some program) k = k

    sent_same : (w : Step) (p : ℕ) → AnswersNoJob w.past w.input → AnswersNoJob (send p Term w).past (send p Term w).input
    sent_same w p k = told_same w p (stopper_of w.setting (seen w) p) k

pub said_on : (K : Step → Type 0) → GoesOn K → (x : Step) (o : Option ℕ) (r : Reply) → is_before_input r ≡ false → K x → K (when_running o r x)
said_on K g x None r later h = h
said_on K g x (Some j) r later h = when_keeps K (is_running (seen x) j) (add_reply j r) x (λ runs k. g.replies x j r (later_same x.past (entry_of x) (record { job = j; reply = r }) later) k) h

-- ---- grants

granted_reply : (K : Step → Type 0) → GoesOn K → ((x : Step) (e : Grant) → K x → K (add_grant e x)) → (x : Step) (j lver : ℕ) (e : Grant) → K x → K (add_reply j (Granted lver) (add_grant e x))
granted_reply K g grants x j lver e h =
    let y : Step = add_grant e x in
    g.replies y j (Granted lver) (later_same y.past (entry_of y) (record { job = j; reply = Granted lver }) refl) (grants x e h)

pub granted_on : (K : Step → Type 0) → GoesOn K → ((x : Step) (e : Grant) → K x → K (add_grant e x)) → (x : Step) (s : Session) (j : ℕ) (c : Command) (mode : Mode) (lver : ℕ) → K x → K (grant_for s j c mode lver x)
granted_on K g grants x s j (Acquire r shared p persistent) mode lver h = granted_reply K g grants x j lver (grant_of s r p mode lver persistent) h
granted_on K g grants x s j (TakeOver r shared p persistent) mode lver h = granted_reply K g grants x j lver (grant_of s r p mode lver persistent) h
granted_on K g grants x s j (RunProgram r shared path) mode lver h =
    g.starts (add_grant (grant_of s r (next_child (seen x)) mode lver false) x) path (Some j) None (grants x (grant_of s r (next_child (seen x)) mode lver false) h)
granted_on K g grants x s j c mode lver h = h

-- ---- delta leases

joining_on : (K : Step → Type 0) (x : Step) (s : Session) (f : ℕ → Step → Step) → ((j : ℕ) → K (f j x)) → K x → K (for_joining s f x)
joining_on K x s f each h = by s.job where
  by : (o : Option ℕ) → K (with_some o f x)
  by None = h
  by (Some j) = each j

-- No step but the first begins a session.
abbrev pub BeginsNone : DeltaNext → Type 0
BeginsNone (ReadOwn step) = same_join_step FirstRead step ≡ false
BeginsNone (RegisterAndRead step) = same_join_step FirstRead step ≡ false
BeginsNone n = Unit {0}

-- What is replied must leave the calls as they are.
pub delta_on : (K L : Step → Type 0) → GoesOn K → CallsOn K L → ((z : Step) → K z → L z) → (x : Step) (s : Session) (n : DeltaNext) → BeginsNone n → ((j : ℕ) (r : Reply) → n ≡ RefuseJoin r → SameCalls x.past (entry_of x) (record { job = j; reply = r }))
    → ((r : Reply) (j : ℕ) → n ≡ EndLeaving j r → is_before_input r ≡ false) → K x → L (carry_delta s n x)
unfolding carry_delta
delta_on K L g calls within x s Nothing none same late h = within x h
delta_on K L g calls within x s (RefuseJoin r) none same late h = joining_on L x s (λ j. refuse j r) (λ j. within (refuse j r x) (refusal_on K g x j r (same j r refl) h)) (within x h)
delta_on K L g calls within x s (ReadOwn step) none same late h =
    joining_on L x s (λ j. read_own_sector s (Joining j step)) (λ j. calls x s s.path (Joining j step) (own_offset x.setting s) (ReadSectors 1) refl none h) (within x h)
delta_on K L g calls within x s (RegisterAndRead step) none same late h =
    joining_on L x s (λ j z. read_own_sector s (Joining j step) (register s z))
    (λ j. calls (register s x) s s.path (Joining j step) (own_offset x.setting s) (ReadSectors 1) refl none (g.moves x (Register s.lockspace (x.reading + fail x.setting.timing)) h)) (within x h)
delta_on K L g calls within x s (WriteClaim d) none same late h =
    joining_on L x s (λ j. write_own_sector s (Joining j ClaimWrite) d) (λ j. calls x s s.path (Joining j ClaimWrite) (own_offset x.setting s) (WriteRecord (DeltaIs d)) refl refl h) (within x h)
delta_on K L g calls within x s Disconnect none same late h = within (remove_connection s.lockspace x) (removal_on K g x s.lockspace h)
delta_on K L g calls within x s (WriteFirst d) none same late h =
    joining_on L x s (λ j. write_own_sector s (Joining j FirstRenewal) d) (λ j. calls x s s.path (Joining j FirstRenewal) (own_offset x.setting s) (WriteRecord (DeltaIs d)) refl refl h) (within x h)
delta_on K L g calls within x s (Join generation renewed) none same late h =
    joining_on L x s (λ j z. survey s (add_reply j (Generation generation) (move_connection s renewed z)))
    (λ j.
    let y : Step = move_connection s renewed x in
    calls (add_reply j (Generation generation) y) s s.path Survey s.offset (ReadSectors x.setting.layout.hosts) refl refl
    (g.replies y j (Generation generation) (later_same y.past (entry_of y) (record { job = j; reply = Generation generation }) refl) (g.moves x (Renew s.lockspace (renewed + fail x.setting.timing)) h))) (within x h)
delta_on K L g calls within x s (MoveConnection renewed) none same late h =
    calls (move_connection s renewed x) s s.path Survey s.offset (ReadSectors x.setting.layout.hosts) refl refl (g.moves x (Renew s.lockspace (renewed + fail x.setting.timing)) h)
delta_on K L g calls within x s (WriteRenewal d) none same late h = calls x s s.path Renewal (own_offset x.setting s) (WriteRecord (DeltaIs d)) refl refl h
delta_on K L g calls within x s (WriteFree j d) none same late h = calls x s s.path (Leaving j) (own_offset x.setting s) (WriteRecord (DeltaIs d)) refl refl h
delta_on K L g calls within x s (EndLeaving j r) none same late h = by (is_running (seen x) j) where
  y : Step
  y = remove_connection s.lockspace x

  there : K y
  there = removal_on K g x s.lockspace h

  by : (b : Bool) → L (when b (add_reply j r) y)
  by true = within (add_reply j r y) (g.replies y j r (later_same y.past (entry_of y) (record { job = j; reply = r }) (late r j refl)) there)
  by false = within y there

-- What fits begins no session.
pub fits_begin : (A : Reply → Type 0) (y : Step) (s : Session) (n : DeltaNext) → DeltaFits A y s n → BeginsNone n
fits_begin A y s Nothing h = tt
fits_begin A y s (RefuseJoin r) h = tt
fits_begin A y s (ReadOwn step) h = h
fits_begin A y s (RegisterAndRead step) h = h
fits_begin A y s (WriteClaim d) h = tt
fits_begin A y s Disconnect h = tt
fits_begin A y s (WriteFirst d) h = tt
fits_begin A y s (Join generation renewed) h = tt
fits_begin A y s (MoveConnection renewed) h = tt
fits_begin A y s (WriteRenewal d) h = tt
fits_begin A y s (WriteFree j d) h = tt
fits_begin A y s (EndLeaving j r) h = tt
