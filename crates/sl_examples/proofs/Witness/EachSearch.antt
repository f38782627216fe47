-- Searches for what is said of each entry of a trace, of each call of an entry, of each session, and that a list is a trace.
use Rattle.sl_run.specs.LawForms.{EachCall, EachSession, cut_at}
use Rattle.sl_trace.specs.Sessions.{session_numbered, sessions}
use Rattle.sl_trace.specs.declared.session.Session.{Session}
use Rattle.sl_trace.specs.Traces.{EachEntry, FollowsTrace, Setting, Submitted, Trace, is_expected, last_reading, new_call, next_call}
use Rattle.sl_trace.specs.declared.effects.Call.{Call}
use Rattle.sl_trace.specs.declared.effects.Entry.{Entry}
use Rattle.sl_examples.proofs.Witness.ProofSearch.{seek_all, seek_at, seek_for, seek_le, seek_lt, seek_text, seek_true, ◌>>=◌}
use Rattle.sl_words.specs.Bounds.{moments}
use Rattle.std.specs.List.{range_with_len}
use Rattle.std.specs.Prelude.{Option, Some, length, map, slice_get, [], ℕ, ◌∷◌, ◌≡◌}

abbrev pub seek_each_entry : (P : Trace → Entry → Type 0) → ((past : Trace) (e : Entry) → Option (P past e)) → (es : Trace) → Option (EachEntry P es)
seek_each_entry P f [] = Some tt
seek_each_entry P f (e ∷ es) = do
  p ← f es e
  ps ← seek_each_entry P f es
  Some (p, ps)

-- What is said of a call where it is submitted.
abbrev pub OfCall : Setting → (Trace → Session → Submitted → Type 0) → Trace → Entry → ℕ → Call → Type 0
OfCall st P past e k c = (s : Session) → session_numbered st (e ∷ past) c.session ≡ Some s → P (cut_at k e ∷ past) s (new_call (length past) e.reading c)

pub each_by_place : (st : Setting) (P : Trace → Session → Submitted → Type 0) (past : Trace) (e : Entry)
    → ((k : ℕ) (c : Call) → slice_get e.effects.calls k ≡ Some c → OfCall st P past e k c) → EachCall st P past e
each_by_place st P past e h k c s at named = h k c at s named

abbrev pub seek_each_call : (st : Setting) (P : Trace → Session → Submitted → Type 0) → ((es : Trace) (s : Session) (c : Submitted) → Option (P es s c))
    → (past : Trace) (e : Entry) → Option (EachCall st P past e)
seek_each_call st P f past e = do
  h ← seek_at (OfCall st P past e)
      (λ k c. seek_for (λ s. P (cut_at k e ∷ past) s (new_call (length past) e.reading c)) (session_numbered st (e ∷ past) c.session)
      (λ s. f (cut_at k e ∷ past) s (new_call (length past) e.reading c))) e.effects.calls
  Some (each_by_place st P past e h)

abbrev pub seek_each_session : (st : Setting) (P : Session → Type 0) → ((s : Session) → Option (P s)) → (es : Trace) → Option (EachSession st P es)
seek_each_session st P f es = seek_all P f (sessions st es)

-- ---- a trace

abbrev pub seek_follows : (st : Setting) (past : Trace) (e : Entry) → Option (FollowsTrace st past e)
seek_follows st past e = do
  time ← seek_le (last_reading st past) e.reading
  below ← seek_lt e.reading moments
  expected ← seek_true (is_expected st past e.input)
  numbered ← seek_text (map (λ c. c.number) e.effects.calls) (range_with_len (next_call st past) (length e.effects.calls))
  Some (record { time = time; below = below; expected = expected; numbered = numbered })
