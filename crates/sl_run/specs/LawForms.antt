-- How laws are said: of each entry of a trace with those before it, and of each call with what stood when it was submitted.
use Rattle.sl_trace.specs.Sessions.{session_numbered, sessions}
use Rattle.sl_trace.specs.declared.session.Session.{Session}
use Rattle.sl_trace.specs.Traces.{Answered, Setting, Submitted, Trace, new_call}
use Rattle.sl_trace.specs.declared.effects.Call.{Call}
use Rattle.sl_trace.specs.declared.effects.Effects.{Effects}
use Rattle.sl_trace.specs.declared.effects.Entry.{Entry}
use Rattle.sl_trace.specs.declared.effects.Move.{Move}
use Rattle.sl_trace.specs.declared.input.Answer.{Answer}
use Rattle.std.specs.Prelude.{Contains, List, Some, drop, length, slice_get, take, [], ℕ, ◌∷◌, ◌≡◌}

-- The entry with only its first k calls; its other effects stand before all its calls.
abbrev pub cut_at : ℕ → Entry → Entry
cut_at k e = let fx : Effects = e.effects in record e { effects = record fx { calls = take k fx.calls } }

-- What is said of each call of an entry: of the trace as it stood, the call's session, and the call.
abbrev pub EachCall : Setting → (Trace → Session → Submitted → Type 0) → Trace → Entry → Type 0
EachCall st P past e =
    (k : ℕ) (c : Call) (s : Session) → slice_get e.effects.calls k ≡ Some c → session_numbered st (e ∷ past) c.session ≡ Some s →
    P (cut_at k e ∷ past) s (new_call (length past) e.reading c)

-- The entry after so many others brings this answer to the call.
abbrev pub IsAnsweredAt : ℕ → Submitted → Answer → Type 0
IsAnsweredAt at m answer = (a : Answered) × (m.answer ≡ Some a) × (a.at ≡ at) × (a.answer ≡ answer)

-- What is said of each session after an entry.
abbrev pub EachSession : Setting → (Session → Type 0) → Trace → Type 0
EachSession st P es = (s : Session) → Contains (sessions st es) s → P s

-- The trace without its newest entry.
abbrev pub older : Trace → Trace
older es = drop 1 es

-- The moves of the newest entry.
abbrev pub newest_moves : Trace → List Move
newest_moves [] = []
newest_moves (e ∷ es) = e.effects.moves
