-- What is kept by each act of a step, and true once a step has begun: whose the replies are, and that they have their causes.
use Rattle.sl_due_facts.specs.Acts.Acts.{Acts, Hears}
use Rattle.sl_due_law.specs.Causes.CausedSoFar.{CausedSoFar, RepliedSoFar, StaysCaused}
use Rattle.sl_due.specs.Due.{IsHostTrace}
use Rattle.sl_due.specs.DueRecovery.{begin_recoveries}
use Rattle.sl_run.specs.Caused.{IsCaused}
use Rattle.sl_run.specs.Lawful.{IsSetting}
use Rattle.sl_due.specs.Steps.{Step, begin_step}
use Rattle.sl_due_law.specs.Causes.CauseFacts.{CauseFacts}
use Rattle.sl_due_facts.specs.Facts.AllFacts.{WholeTrace}
use Rattle.sl_due_leases.specs.Holdings.Moments.{Known}
use Rattle.sl_due_leases.specs.Holdings.HoldingLaws.{Begins}
use Rattle.sl_trace.specs.declared.session.Session.{Session}
use Rattle.sl_trace.specs.Traces.{FollowsTrace, Setting, Submitted, Trace}
use Rattle.sl_trace.specs.declared.effects.Entry.{Entry}
use Rattle.sl_trace.specs.declared.effects.Purpose.TheVariants.{Leaving}
use Rattle.sl_trace.specs.declared.input.Answer.TheVariants.{Written}
use Rattle.sl_trace.specs.declared.input.Input.{Input}
use Rattle.sl_trace.specs.declared.reply.Reply.TheVariants.{Done}
use Rattle.sl_trace.specs.declared.reply.Reply.{Reply}
use Rattle.std.specs.Prelude.{Bool, ℕ, ◌≡◌}

-- ---- whose the replies are

abbrev pub RepliesRun : Type 0
RepliesRun = Acts (λ x. Known x × RepliedSoFar x) RepliedSoFar

abbrev pub RepliesRunBegin : Type 0
RepliesRunBegin = Begins RepliedSoFar

-- ---- what their causes stand on

-- Of each trace of steps that are due.
abbrev pub CausesStand : Type 0
CausesStand = (st : Setting) (es : Trace) → IsSetting st → IsHostTrace st es → CauseFacts st es

-- ---- their causes

-- Of these replies.
abbrev pub CausesAreKept : (Input → Reply → Bool) → Type 0
CausesAreKept these = Acts (λ x. Known x × CausedSoFar these x) (CausedSoFar these)

abbrev pub CausesBegin : (Input → Reply → Bool) → Type 0
CausesBegin these =
    (st : Setting) (past : Trace) (e : Entry) → FollowsTrace st past e → WholeTrace st past → CauseFacts st past → CausedSoFar these (begin_recoveries (begin_step st past e.reading))

-- Of that a leaving is done, which its free's answer says.
abbrev pub LeavingsAreCaused : Type 0
LeavingsAreCaused =
    (x : Step) (s : Session) (m : Submitted) (j : ℕ) → Known x → Hears x s m Written → m.call.purpose ≡ Leaving j → StaysCaused x (record { job = j; reply = Done })

-- ---- all of it

-- Each reply of each entry has its cause.
abbrev pub TracesAreCaused : Type 0
TracesAreCaused = (st : Setting) (es : Trace) → IsSetting st → IsHostTrace st es → IsCaused st es
