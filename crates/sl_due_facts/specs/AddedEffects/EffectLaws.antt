-- What each question to a trace becomes by one more effect, what an effect that comes after a call leaves of its laws, and what one more
-- call leaves of all laws.
use Rattle.sl_run.specs.Lawful.{Orderly}
use Rattle.sl_due_facts.specs.AddedEffects.CallIsLawful.{CallIsLawful}
use Rattle.sl_due_facts.specs.AddedEffects.OneMoreEffect.{JoinedCall, with_end, with_grant, with_move, with_reply, with_start}
use Rattle.sl_trace.specs.Sessions.{calls_of, is_join_call, sessions}
use Rattle.sl_trace.specs.declared.session.Session.{Session}
use Rattle.sl_trace.specs.WatchdogConnections.{after_move, connections, unregisters}
use Rattle.sl_trace.specs.TraceLaws.{with_call}
use Rattle.sl_trace.specs.Traces.{Setting, Submitted, Trace, children, holdings, is_ended_by, is_running, new_call, new_child, next_call, reply_to}
use Rattle.sl_trace.specs.declared.effects.Call.{Call}
use Rattle.sl_trace.specs.declared.effects.End.{End}
use Rattle.sl_trace.specs.declared.effects.Entry.{Entry}
use Rattle.sl_trace.specs.declared.effects.Grant.{Grant}
use Rattle.sl_trace.specs.declared.effects.JobReply.{JobReply}
use Rattle.sl_trace.specs.declared.effects.JoinStep.TheVariants.{FirstRead}
use Rattle.sl_trace.specs.declared.effects.Move.{Move}
use Rattle.sl_trace.specs.declared.effects.Start.{Start}
use Rattle.sl_trace.specs.declared.input.Input.TheVariants.{Wake}
use Rattle.sl_words.specs.Words.{some_is}
use Rattle.std.specs.Prelude.{Some, false, filter, length, not, true, [], ℕ, ◌++◌, ◌+◌, ◌==◌, ◌∷◌, ◌≡◌}

-- What the questions become that an effect is asked for; by a call they are its session's calls.
pub record EffectsAreTold : Type 0 where
  pub ends : (x : End) (e : Entry) (past : Trace) → holdings (with_end x e ∷ past)
      ≡ filter (λ g. not (is_ended_by (x ∷ []) g)) (filter (λ g. not (is_ended_by e.effects.ends g)) (holdings past)) ++ e.effects.grants
  pub grants : (g : Grant) (e : Entry) (past : Trace) → holdings (with_grant g e ∷ past) ≡ holdings (e ∷ past) ++ g ∷ []
  pub starts : (x : Start) (e : Entry) (past : Trace) → children (with_start x e ∷ past) ≡ children (e ∷ past) ++ new_child x ∷ []
  pub moves : (st : Setting) (m : Move) (e : Entry) (past : Trace) → connections st (with_move m e ∷ past) ≡ after_move (connections st (e ∷ past)) m
  pub replies : (a : JobReply) (e : Entry) (past : Trace) → is_running (e ∷ past) a.job ≡ true →
      reply_to (with_reply a e ∷ past) a.job ≡ Some (record { at = length past; reply = a.reply })
  pub other_replies : (a : JobReply) (e : Entry) (past : Trace) (job : ℕ) → (a.job == job) ≡ false → reply_to (with_reply a e ∷ past) job ≡ reply_to (e ∷ past) job
  pub calls : (c : Call) (e : Entry) (past : Trace) (s : Session) → (c.session == s.number) ≡ true →
      calls_of (with_call c e ∷ past) s ≡ new_call (length past) e.reading c ∷ calls_of (e ∷ past) s
  pub other_calls : (c : Call) (e : Entry) (past : Trace) (s : Session) → (c.session == s.number) ≡ false → calls_of (with_call c e ∷ past) s ≡ calls_of (e ∷ past) s
  pub next_call : (st : Setting) (e : Entry) (past : Trace) → next_call st (e ∷ past) ≡ next_call st past + length e.effects.calls
  pub sessions : (st : Setting) (c : Call) (e : Entry) (past : Trace) → is_join_call FirstRead c.purpose ≡ false → sessions st (with_call c e ∷ past) ≡ sessions st (e ∷ past)

-- A move that doesn't remove the session's connection leaves its call lawful. (Whether a first read is alone in its lockspace is asked
-- of the other sessions too.).
abbrev pub MovesLeaveCalls : Type 0
MovesLeaveCalls =
    (st : Setting) (m : Move) (e : Entry) (past : Trace) (s : Session) (c : Submitted) → unregisters s.lockspace m ≡ false →
    is_join_call FirstRead c.call.purpose ≡ false → CallIsLawful st (e ∷ past) s c → CallIsLawful st (with_move m e ∷ past) s c

-- So does a reply to another job than that of its joining, on a wake. (With an answer a refusal could say how that was heeded, with a
-- line that no leaving has begun.).
abbrev pub RepliesLeaveCalls : Type 0
RepliesLeaveCalls =
    (st : Setting) (a : JobReply) (e : Entry) (past : Trace) (s : Session) (c : Submitted) → some_is (λ j. a.job == j) s.job ≡ false → e.input ≡ Wake →
    is_join_call FirstRead c.call.purpose ≡ false → CallIsLawful st (e ∷ past) s c → CallIsLawful st (with_reply a e ∷ past) s c

-- One more call of a joined session leaves the trace orderly.
abbrev pub JoinedCallsKeepOrder : Type 0
JoinedCallsKeepOrder =
    (st : Setting) (past : Trace) (e : Entry) (c : Call) (s : Session) → JoinedCall st past e c s → Orderly st (e ∷ past) → Orderly st (with_call c e ∷ past)
