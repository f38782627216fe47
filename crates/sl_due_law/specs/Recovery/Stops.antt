-- What a step has done so far of what a recovery or a leaving asks, and how joined sessions ended in it.
use Rattle.sl_due_facts.specs.Acts.TraceSoFar.{entry_of}
use Rattle.sl_due.specs.CarriedDelta.{begins_by_read}
use Rattle.sl_due.specs.Steps.{Step, seen}
use Rattle.sl_run.specs.LawfulRecovery.{StopsSession}
use Rattle.sl_trace.specs.Sessions.{is_call_of, is_free_purpose, is_joined, leaving_job, recovery_of, sessions}
use Rattle.sl_trace.specs.declared.session.Begun.{Begun}
use Rattle.sl_trace.specs.declared.session.Session.{Session}
use Rattle.sl_trace.specs.WatchdogConnections.{unregisters}
use Rattle.sl_trace.specs.EffectTexts.{is_ok_reply}
use Rattle.sl_trace.specs.Traces.{Job, Submitted, submitted}
use Rattle.sl_trace.specs.declared.effects.JobReply.{JobReply}
use Rattle.sl_trace.specs.declared.input.Answer.{Answer}
use Rattle.sl_trace.specs.declared.input.Input.TheVariants.{Answer as Told, Wake}
use Rattle.std.specs.List.{list_any}
use Rattle.std.specs.Prelude.{Contains, IsFalse, None, Option, Some, false, find, is_some, length, suc, true, ℕ, ◌&&◌, ◌≡◌, ◌⊎◌}

-- Each session whose recovery or leaving began in this step has been stopped, but where recovery begins by the read whose answer was heard.
pub record Stops (x : Step) (heard : Option ℕ) : Type 0 where
  pub recovers : (s : Session) (b : Begun) → Contains (sessions x.setting x.past) s → recovery_of x.setting (seen x) s ≡ Some b → b.at ≡ length x.past →
      (is_some heard && begins_by_read (seen x) (Some b)) ≡ false → StopsSession x.setting x.past (entry_of x) s None
  pub leaves : (s : Session) (j : Job) → Contains (sessions x.setting x.past) s → leaving_job x.setting (seen x) s ≡ Some j → j.at ≡ length x.past →
      StopsSession x.setting x.past (entry_of x) s (Some j.number)

-- Before the input is looked at, and on a wake, no job is answered ok.
abbrev pub Denies : Step → Type 0
Denies x = x.input ≡ Wake → (a : JobReply) → Contains x.effects.replies a → IsFalse (is_ok_reply a.reply)

-- When an answer has just been heard: each session whose recovery begins by the read that it brings is still joined, and no job has
-- been answered ok.
pub record JustHeard (x : Step) : Type 0 where
  pub stands : (s : Session) (b : Begun) → Contains (sessions x.setting x.past) s → recovery_of x.setting (seen x) s ≡ Some b → b.kills_from ≡ suc (length x.past) →
      is_joined (seen x) s ≡ true
  pub denies : (a : JobReply) → Contains x.effects.replies a → IsFalse (is_ok_reply a.reply)

-- The input answers the session's free, which an entry before has written.
pub record FreeTold (x : Step) (s : Session) : Type 0 where
  pub number : ℕ
  pub answer : Answer
  pub told : x.input ≡ Told number answer
  pub call : Submitted
  pub free : find (λ m. is_call_of s m && is_free_purpose m.call.purpose) (submitted x.past) ≡ Some call
  pub its : call.call.number ≡ number

-- The connection of a joined session is removed in recovery or at its free's answer.
abbrev pub Partings : Step → Type 0
Partings x =
    (s : Session) → Contains (sessions x.setting x.past) s → is_joined x.past s ≡ true → list_any (unregisters s.lockspace) x.effects.moves ≡ true →
    (is_some (recovery_of x.setting (seen x) s) ≡ true) ⊎ FreeTold x s

-- A joined session whose free's answer came in this step has ended.
abbrev pub FreesEnd : Step → Type 0
FreesEnd x = (s : Session) → Contains (sessions x.setting x.past) s → is_joined x.past s ≡ true → FreeTold x s → is_joined (seen x) s ≡ false
