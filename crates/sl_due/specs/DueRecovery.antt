-- Recovery that is due: terms and kill programs at its start, kills once the grace has passed.
use Rattle.sl_due.specs.Steps.{Step, add_reply, add_signal, add_start, for_each, seen, when}
use Rattle.sl_trace.specs.KillPrograms.{stopper_of}
use Rattle.sl_trace.specs.Jobs.{jobs_of_session}
use Rattle.sl_trace.specs.Sessions.{holders_of, is_joined, last_renewal, leaving_of, present_sessions, recovery_of}
use Rattle.sl_trace.specs.declared.session.Begun.{Begun}
use Rattle.sl_trace.specs.declared.session.Session.{Session}
use Rattle.sl_trace.specs.Traces.{Setting, Trace, last_reading, next_child}
use Rattle.sl_trace.specs.declared.effects.Signal.TheVariants.{Kill, Term}
use Rattle.sl_trace.specs.declared.effects.Signal.{Signal}
use Rattle.sl_trace.specs.declared.reply.Reply.TheVariants.{Recovering}
use Rattle.sl_words.specs.Words.{some_is}
use Rattle.std.specs.Prelude.{Bool, None, Option, Some, false, filter, length, nat_le, nat_lt, not, [], ℕ, ◌&&◌, ◌+◌, ◌==◌, ◌||◌, ◌∷◌}

-- A process is told to stop: its kill program is started as a child that holds nothing; where it has none, or no child number is left,
-- it is sent term.
abbrev pub tell_to_stop : ℕ → Step → Step
tell_to_stop p x =
    elim (stopper_of x.setting (seen x) p) [
      | None ↦ add_signal p Term x
      | Some program ↦ add_start (record { process = next_child (seen x); program = program; job = None; stands_for = Some p }) x
    ]

-- A process is sent this signal, or told to stop.
abbrev pub send : ℕ → Signal → Step → Step
send p Term x = tell_to_stop p x
send p Kill x = add_signal p Kill x

-- Each holder is sent this signal, or told to stop, by number.
abbrev pub signal_holders : Signal → Session → Step → Step
signal_holders signal s x = for_each (holders_of (seen x) s) (λ p. send p signal) x

-- Each running job of the session but `kept` is refused, by number.
abbrev pub refuse_jobs : Session → Option ℕ → Step → Step
refuse_jobs s kept x =
    for_each (filter (λ j. not (some_is (λ k. k == j.number) kept)) (jobs_of_session x.setting (seen x) s))
    (λ j. add_reply j.number (Recovering (last_renewal x.setting (seen x) s))) x

-- A recovery or a leaving begins: the session's holders are told to stop, its running jobs refused but one that is kept.
unfoldable pub signal_and_refuse : Session → Option ℕ → Step → Step
signal_and_refuse s kept x = refuse_jobs s kept (signal_holders Term s x)

-- Whether a recovery or a leaving began in the newest entry.
abbrev pub begins_now : Trace → Option Begun → Bool
begins_now es begun = some_is (λ b. b.at + 1 == length es) begun

-- Of a session whose recovery begins in this step; at the head of a step that is by time alone.
unfoldable pub begin_recovery : Session → Step → Step
begin_recovery s x = when (begins_now (seen x) (recovery_of x.setting (seen x) s)) (signal_and_refuse s None) x

-- Of all sessions, by lockspace name.
unfoldable pub begin_recoveries : Step → Step
begin_recoveries x = for_each (present_sessions x.setting (seen x)) begin_recovery x

-- Whether the newest entry is the first, from the start's on, whose reading is at least this. (Readings never fall.)
abbrev pub is_first_at : Setting → ℕ → ℕ → Trace → Bool
is_first_at st from reading [] = false
is_first_at st from reading (e ∷ es) =
    nat_le from (length es) && nat_le reading e.reading && not (nat_lt from (length es) && nat_le reading (last_reading st es))

-- Whether the kills of a recovery or a leaving are due in the newest entry: at the first whose reading is grace above its start's.
abbrev pub is_kill_due : Setting → Trace → Option Begun → Bool
is_kill_due st es begun = some_is (λ b. is_first_at st b.kills_from (b.reading + st.grace) es) begun

-- Whether the session's holders are to be killed: a leaving and a recovery that began in it each have a list of kills; a process that
-- is due in both is signalled once.
abbrev pub kills_holders : Setting → Trace → Session → Bool
kills_holders st es s =
    is_joined es s && (is_kill_due st es (recovery_of st es s) || is_kill_due st es (leaving_of st es s))

-- Each holder still there is signalled.
unfoldable pub kill_holders : Session → Step → Step
kill_holders s x = when (kills_holders x.setting (seen x) s) (signal_holders Kill s) x

-- Of all sessions, by lockspace name.
unfoldable pub kills : Step → Step
kills x = for_each (present_sessions x.setting (seen x)) kill_holders x
