-- What a step does before its input: signals, replies and moves.
use Rattle.sl_due.specs.Due.{before_input}
use Rattle.sl_due.specs.DueRecovery.{begin_recoveries, begin_recovery, begins_now, kill_holders, kills, kills_holders, refuse_jobs, send, signal_and_refuse, signal_holders, tell_to_stop}
use Rattle.sl_due.specs.DueTimeOuts.{is_overdue, refuse, remove_connection, remove_of_refused, time_out, time_outs}
use Rattle.sl_due.specs.Steps.{Step, add_move, add_reply, add_signal, add_start, begin_step, for_each, seen, when, with_some}
use Rattle.sl_trace.specs.KillPrograms.{stopper_of}
use Rattle.sl_trace.specs.Jobs.{jobs_of_session}
use Rattle.sl_headline.specs.Quiet.Step.AnswersLeadOn.{IsBare, heard}
use Rattle.sl_trace.specs.declared.session.Session.{Session}
use Rattle.sl_trace.specs.Sessions.{has_open_write, holders_of, last_renewal, present_sessions, recovery_of, refused_after, session_of_job}
use Rattle.sl_trace.specs.WatchdogConnections.{is_registered}
use Rattle.sl_trace.specs.declared.effects.JobReply.{JobReply}
use Rattle.std.specs.List.{AllByRecursion}
use Rattle.sl_trace.specs.Traces.{is_before_input, Job, Setting, Trace, next_child, running_jobs, waiting_call}
use Rattle.sl_trace.specs.declared.effects.Move.TheVariants.{Unregister}
use Rattle.sl_trace.specs.declared.effects.Start.{Start}
use Rattle.sl_trace.specs.declared.effects.Move.{Move}
use Rattle.sl_trace.specs.declared.effects.Signal.TheVariants.{Kill, Term}
use Rattle.sl_trace.specs.declared.effects.Signal.{Signal}
use Rattle.sl_trace.specs.declared.input.Answer.{Answer}
use Rattle.sl_trace.specs.declared.reply.Reply.TheVariants.{IoTimeout, Recovering}
use Rattle.sl_trace.specs.declared.reply.Reply.{Reply}
use Rattle.sl_words.specs.Words.{some_is}
use Rattle.std.proofs.Common.{refl}
use Rattle.std.specs.Prelude.{Bool, List, None, Option, Some, [], false, filter, is_some, not, true, ℕ, ◌&&◌, ◌++◌, ◌==◌, ◌∷◌, ◌≡◌}

-- ---- loops and tests

pub when_keeps : (K : Step → Type 0) (b : Bool) (f : Step → Step) → ((x : Step) → K x → K (f x)) → (x : Step) → K x → K (when b f x)
when_keeps K true f h x k = h x k
when_keeps K false f h x k = k

pub some_keeps : {A : Type 0} (K : Step → Type 0) (o : Option A) (f : A → Step → Step) → ((a : A) (x : Step) → K x → K (f a x)) → (x : Step) → K x → K (with_some o f x)
some_keeps K None f h x k = k
some_keeps K (Some a) f h x k = h a x k

pub each_keeps : {A : Type 0} (K : Step → Type 0) (xs : List A) (f : A → Step → Step) → ((a : A) (x : Step) → K x → K (f a x)) → (x : Step) → K x → K (for_each xs f x)
each_keeps K [] f h x k = k
each_keeps K (a ∷ xs) f h x k = each_keeps K xs f h (f a x) (h a x k)

-- ---- what comes before the input

-- What keeps K.
pub record KeptBefore (K : Step → Type 0) : Type 0 where
  pub signals : (p : ℕ) (g : Signal) (x : Step) → K x → K (add_signal p g x)
  pub replies : (j : ℕ) (r : Reply) (x : Step) → is_before_input r ≡ true → K x → K (add_reply j r x)
  pub moves : (m : Move) (x : Step) → K x → K (add_move m x)
  pub starts : (s : Start) (x : Step) → K x → K (add_start s x)

connection_keeps : (K : Step → Type 0) → KeptBefore K → (name : List ℕ) (x : Step) → K x → K (remove_connection name x)
connection_keeps K b name x k = when_keeps K (is_registered x.setting (seen x) name) (add_move (Unregister name)) (b.moves (Unregister name)) x k

refused_keeps : (K : Step → Type 0) → KeptBefore K → (s : Session) (x : Step) → K x → K (remove_of_refused s x)
refused_keeps K b s x k =
    when_keeps K (is_some (refused_after (seen x) s) && not (has_open_write (seen x) s)) (remove_connection s.lockspace) (connection_keeps K b s.lockspace) x k

refuse_keeps : (K : Step → Type 0) → KeptBefore K → (j : ℕ) (r : Reply) (x : Step) → is_before_input r ≡ true → K x → K (refuse j r x)
unfolding refuse
refuse_keeps K b j r x early k = some_keeps K (session_of_job x.setting (seen x) j) remove_of_refused (refused_keeps K b) (add_reply j r x) (b.replies j r x early k)

stop_keeps : (K : Step → Type 0) → KeptBefore K → (p : ℕ) (x : Step) → K x → K (tell_to_stop p x)
stop_keeps K b p x k =
    elim (stopper_of x.setting (seen x) p) as (λ o. K (elim o [
      | None ↦ add_signal p Term x
      | Some program ↦ add_start (record { process = next_child (seen x); program = program; job = None; stands_for = Some p }) x
    ])) [
      | None ↦ b.signals p Term x k
      | Some program ↦ b.starts (record { process = next_child (seen x); program = program; job = None; stands_for = Some p }) x k
    ]

send_keeps : (K : Step → Type 0) → KeptBefore K → (p : ℕ) (g : Signal) (x : Step) → K x → K (send p g x)
send_keeps K b p Term x k = stop_keeps K b p x k
send_keeps K b p Kill x k = b.signals p Kill x k

holders_keeps : (K : Step → Type 0) → KeptBefore K → (g : Signal) (s : Session) (x : Step) → K x → K (signal_holders g s x)
holders_keeps K b g s x k = each_keeps K (holders_of (seen x) s) (λ p. send p g) (λ p. send_keeps K b p g) x k

jobs_keeps : (K : Step → Type 0) → KeptBefore K → (s : Session) (kept : Option ℕ) (x : Step) → K x → K (refuse_jobs s kept x)
jobs_keeps K b s kept x k =
    each_keeps K (filter (λ (j : Job). not (some_is (λ n. n == j.number) kept)) (jobs_of_session x.setting (seen x) s))
    (λ j. add_reply j.number (Recovering (last_renewal x.setting (seen x) s))) (λ j y h. b.replies j.number (Recovering (last_renewal x.setting (seen x) s)) y refl h) x k

recovery_keeps : (K : Step → Type 0) → KeptBefore K → (s : Session) (x : Step) → K x → K (begin_recovery s x)
unfolding begin_recovery signal_and_refuse
recovery_keeps K b s x k =
    when_keeps K (begins_now (seen x) (recovery_of x.setting (seen x) s)) (signal_and_refuse s None)
    (λ y h. jobs_keeps K b s None (signal_holders Term s y) (holders_keeps K b Term s y h)) x k

kill_keeps : (K : Step → Type 0) → KeptBefore K → (s : Session) (x : Step) → K x → K (kill_holders s x)
unfolding kill_holders
kill_keeps K b s x k = when_keeps K (kills_holders x.setting (seen x) s) (signal_holders Kill s) (holders_keeps K b Kill s) x k

time_keeps : (K : Step → Type 0) → KeptBefore K → (j : Job) (x : Step) → K x → K (time_out j x)
unfolding time_out
time_keeps K b j x k =
    some_keeps K (waiting_call (seen x) j.number) (λ m. when (is_overdue x.setting x.reading m) (refuse j.number (IoTimeout m.call.number m.reading x.reading)))
    (λ m y h. when_keeps K (is_overdue x.setting x.reading m) (refuse j.number (IoTimeout m.call.number m.reading x.reading))
    (λ z g. refuse_keeps K b j.number (IoTimeout m.call.number m.reading x.reading) z refl g) y h) x k

pub before_keeps : (K : Step → Type 0) → KeptBefore K → (x : Step) → K x → K (before_input x)
unfolding before_input begin_recoveries kills time_outs
before_keeps K b x k =
    let begun : Step = begin_recoveries x in
    let killed : Step = kills begun in
    each_keeps K (running_jobs killed.setting (seen killed)) time_out (time_keeps K b) killed
    (each_keeps K (present_sessions begun.setting (seen begun)) kill_holders (kill_keeps K b) begun
    (each_keeps K (present_sessions x.setting (seen x)) begin_recovery (recovery_keeps K b) x k))

-- ---- so it is bare

bare_kept : (st : Setting) (past : Trace) (now : ℕ) → KeptBefore (IsBare st past now)
bare_kept st past now = record {
  signals = λ p g x h. record { setting = h.setting; before = h.before; reading = h.reading; calls = h.calls; grants = h.grants; ends = h.ends };
  replies = λ j r x early h. record { setting = h.setting; before = h.before; reading = h.reading; calls = h.calls; grants = h.grants; ends = h.ends };
  starts = λ s x h. record { setting = h.setting; before = h.before; reading = h.reading; calls = h.calls; grants = h.grants; ends = h.ends };
  moves = λ m x h. record { setting = h.setting; before = h.before; reading = h.reading; calls = h.calls; grants = h.grants; ends = h.ends };
}

pub bare_before : (st : Setting) (past : Trace) (now : ℕ) → IsBare st past now (before_input (begin_step st past now))
bare_before st past now =
    before_keeps (IsBare st past now) (bare_kept st past now) (begin_step st past now)
    (record { setting = refl; before = refl; reading = refl; calls = refl; grants = refl; ends = refl })

pub bare_heard : (st : Setting) (past : Trace) (now n : ℕ) (a : Answer) → IsBare st past now (heard st past now n a)
bare_heard st past now n a =
    let h = bare_before st past now in
    record { setting = h.setting; before = h.before; reading = h.reading; calls = h.calls; grants = h.grants; ends = h.ends }

-- ---- what it replies

one_more : (xs : List JobReply) (a : JobReply) → is_before_input a.reply ≡ true → AllByRecursion (λ b. is_before_input b.reply ≡ true) xs
    → AllByRecursion (λ b. is_before_input b.reply ≡ true) (xs ++ a ∷ [])
one_more [] a is h = (is, tt)
one_more (x ∷ xs) a is h = (h.0, one_more xs a is h.1)

pub early : (st : Setting) (past : Trace) (now n : ℕ) (a : Answer) → AllByRecursion (λ b. is_before_input b.reply ≡ true) (heard st past now n a).effects.replies
early st past now n a =
    before_keeps (λ x. AllByRecursion (λ b. is_before_input b.reply ≡ true) x.effects.replies)
    (record { signals = λ p g x h. h; replies = λ j r x is h. one_more x.effects.replies (record { job = j; reply = r }) is h; moves = λ m x h. h; starts = λ s x h. h })
    (begin_step st past now) tt
