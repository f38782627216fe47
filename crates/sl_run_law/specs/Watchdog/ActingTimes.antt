-- For how long a session may act: its connection's expiry counts from the entry that last registered it, and once it has joined from the
-- submission of its last renewal that was answered ok outside recovery.
use Rattle.sl_run_law.specs.Course.CallStamps.{stamp_in}
use Rattle.sl_run.specs.Worlds.{Daemon, Stamp}
use Rattle.sl_trace.specs.Sessions.{is_call_of, is_joined, is_renewal, joined_after, last_renewal, recovery_of, shows_other}
use Rattle.sl_trace.specs.declared.session.Session.{Session}
use Rattle.sl_time.specs.Times.{fail}
use Rattle.sl_trace.specs.WatchdogConnections.{registers}
use Rattle.sl_trace.specs.Traces.{Setting, Submitted, Trace, call_numbered}
use Rattle.sl_trace.specs.declared.effects.Entry.{Entry}
use Rattle.sl_trace.specs.declared.input.Answer.TheVariants.{Written}
use Rattle.sl_trace.specs.declared.input.Input.TheVariants.{Answer as Told}
use Rattle.sl_trace.specs.declared.input.Input.{Input}
use Rattle.sl_words.specs.Words.{choose}
use Rattle.std.specs.List.{list_any}
use Rattle.std.specs.Prelude.{List, None, Option, Some, false, length, nat_le, option_and_then, true, [], ℕ, ◌&&◌, ◌+◌, ◌∷◌}

-- The entry that last registered this name, by its place in the trace.
abbrev pub registering_entry : Trace → List ℕ → Option ℕ
registering_entry [] name = None
registering_entry (e ∷ es) name = elim (list_any (registers name) e.effects.moves) [ true ↦ Some (length es) | false ↦ registering_entry es name ]

-- The renewal of the session that the input answers ok.
abbrev pub renewal_told : Trace → Session → Input → Option Submitted
renewal_told es s (Told call Written) =
    option_and_then (λ m. choose (is_call_of s m && is_renewal m.call.purpose) m) (call_numbered es call)
renewal_told es s i = None

-- The renewal that counts by the entry after these: none in recovery, nor where the entry begins one.
abbrev pub renewal_in : Setting → Trace → Session → Entry → Option Submitted
renewal_in st es s e =
    elim (recovery_of st es s) [
      | Some b ↦ None
      | None ↦ elim (is_joined es s && nat_le (last_renewal st es s + fail st.timing) e.reading) [
        | true ↦ None
        | false ↦ elim (is_joined es s && shows_other st es s e.input) [ true ↦ None | false ↦ renewal_told es s e.input ]
      ]
    ]

-- The entry that submitted the last renewal that counts, if one does.
abbrev pub renewal_entry : Setting → Trace → Session → Option ℕ
renewal_entry st [] s = None
renewal_entry st (e ∷ es) s = elim (renewal_in st es s e) [ Some m ↦ Some m.at | None ↦ renewal_entry st es s ]

-- The stamp from which the session's connection counts. A session that was joined before its daemon began counts from that beginning.
abbrev pub acting_stamp : Daemon → Session → Option Stamp
acting_stamp d s =
    elim (joined_after d.trace s) [
      | Some k ↦ elim (renewal_entry d.setting d.trace s) [ Some i ↦ stamp_in d.stamps i | None ↦ Some d.begun ]
      | None ↦ option_and_then (stamp_in d.stamps) (registering_entry d.trace s.lockspace)
    ]
