-- Calls that took too long: their jobs are refused.
use Rattle.sl_due.specs.Steps.{Step, add_move, add_reply, for_each, seen, when, with_some}
use Rattle.sl_trace.specs.Sessions.{has_open_write, refused_after, session_of_job}
use Rattle.sl_trace.specs.declared.session.Session.{Session}
use Rattle.sl_trace.specs.WatchdogConnections.{is_registered}
use Rattle.sl_trace.specs.Traces.{Job, Setting, Submitted, running_jobs, waiting_call}
use Rattle.sl_trace.specs.declared.effects.Move.TheVariants.{Unregister}
use Rattle.sl_trace.specs.declared.reply.Reply.TheVariants.{IoTimeout}
use Rattle.sl_trace.specs.declared.reply.Reply.{Reply}
use Rattle.std.specs.Prelude.{Bool, List, is_some, nat_le, not, ℕ, ◌&&◌, ◌+◌}

-- A connection that stands is removed.
abbrev pub remove_connection : List ℕ → Step → Step
remove_connection name x = when (is_registered x.setting (seen x) name) (add_move (Unregister name)) x

-- A refused joining removes its connection at once, unless a write of it is unanswered.
abbrev pub remove_of_refused : Session → Step → Step
remove_of_refused s x = when (is_some (refused_after (seen x) s) && not (has_open_write (seen x) s)) (remove_connection s.lockspace) x

-- A job is refused, and with it a joining.
unfoldable pub refuse : ℕ → Reply → Step → Step
refuse job r x = with_some (session_of_job x.setting (seen x) job) remove_of_refused (add_reply job r x)

-- Whether a call has been unanswered for `io` or longer.
abbrev pub is_overdue : Setting → ℕ → Submitted → Bool
is_overdue st now m = nat_le (m.reading + st.timing.io) now

-- A job whose call is overdue is refused; the call stays outstanding.
unfoldable pub time_out : Job → Step → Step
time_out j x =
    with_some (waiting_call (seen x) j.number) (λ m.
    when (is_overdue x.setting x.reading m) (refuse j.number (IoTimeout m.call.number m.reading x.reading))) x

-- Of all jobs, by number.
unfoldable pub time_outs : Step → Step
time_outs x = for_each (running_jobs x.setting (seen x)) time_out x
