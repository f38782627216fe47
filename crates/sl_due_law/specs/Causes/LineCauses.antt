-- What a line is answered at once, by what stood before it.
use Rattle.sl_due_law.specs.Causes.CausedSoFar.{CausedSoFar, IsAtOnce, is_explained}
use Rattle.sl_due.specs.Due.{IsDue, before_input, due_step}
use Rattle.sl_due.specs.DueCommands.{decided}
use Rattle.sl_due.specs.DueWake.{finish}
use Rattle.sl_due.specs.declared.decision.Decision.TheVariants.{Replies}
use Rattle.sl_due.specs.declared.decision.Decision.{Decision}
use Rattle.sl_due.specs.Steps.{Step, begin_step, seen}
use Rattle.sl_run.specs.Caused.{Answering, CausedBy, IsAtCommand, before_entry}
use Rattle.sl_trace.specs.Sessions.{is_joined, sessions}
use Rattle.sl_trace.specs.declared.session.Session.{Session}
use Rattle.sl_due_facts.specs.Facts.AllFacts.{WholeTrace}
use Rattle.sl_trace.specs.WatchdogConnections.{unregisters}
use Rattle.sl_trace.specs.Traces.{Job, Setting, Trace, is_before_input, job_numbered, next_job, no_effects}
use Rattle.sl_trace.specs.declared.command.Command.{Command}
use Rattle.sl_trace.specs.declared.effects.Entry.{Entry}
use Rattle.sl_trace.specs.declared.effects.JobReply.{JobReply}
use Rattle.sl_trace.specs.declared.effects.Move.{Move}
use Rattle.sl_trace.specs.declared.effects.Sent.{Sent}
use Rattle.sl_trace.specs.declared.effects.Start.{Start}
use Rattle.sl_trace.specs.declared.input.Input.TheVariants.{Line, Wake}
use Rattle.sl_trace.specs.declared.reply.Limited.TheVariants.{Turn as TurnLimit}
use Rattle.sl_trace.specs.declared.reply.Reply.TheVariants.{Done, Granted, Limit as LimitReached, Recovering}
use Rattle.sl_trace.specs.declared.reply.Reply.{Reply}
use Rattle.std.specs.List.{list_any}
use Rattle.std.specs.Prelude.{Contains, List, Ok, Some, [], false, filter, is_some, true, ℕ, ◌<◌, ◌∷◌, ◌≡◌}

-- The entry, after a trace with all its facts, brings this command.
pub record AtLine (y : Answering) (c : Command) : Type 0 where
  pub whole : WholeTrace y.setting y.past
  pub command : y.job.command ≡ Ok c
  pub at : IsAtCommand y

-- What the command came to is answered with its cause, if it is answered.
abbrev pub WellDecided : Answering → Decision → Type 0
WellDecided y (Replies r) = CausedBy y r
WellDecided y d = Unit {0}

-- Each reply that a command is given at once has its cause, where it was decided on what stood before the entry's input.
abbrev pub LinesAreCaused : Type 0
LinesAreCaused = (y : Answering) (c : Command) → AtLine y c → WellDecided y (decided y.setting (before_entry y) y.entry.reading c)

-- ---- before the input

-- An entry before its input: it has refused jobs, started programs, moved connections and sent signals.
abbrev pub stirred_entry : ℕ → List Start → List JobReply → List Move → List Sent → Entry
stirred_entry now ks rs ms gs = record { reading = now; input = Wake; effects = record no_effects { starts = ks; replies = rs; moves = ms; signals = gs } }

-- The moves remove the connection of no joined session.
abbrev pub LeavesJoined : Setting → Trace → List Move → Type 0
LeavesJoined st past ms = (s : Session) → Contains (sessions st past) s → is_joined past s ≡ true → list_any (unregisters s.lockspace) ms ≡ false

-- So what a command comes to then is what it comes to where there are neither moves nor signals.
abbrev pub DecisionsOverlook : Type 0
DecisionsOverlook =
    (st : Setting) (past : Trace) (now : ℕ) (ks : List Start) (rs : List JobReply) (ms : List Move) (gs : List Sent) → LeavesJoined st past ms → (reading : ℕ) (c : Command)
    → decided st (stirred_entry now ks rs ms gs ∷ past) reading c ≡ decided st (stirred_entry now ks rs [] [] ∷ past) reading c

-- A step before its input: it has made no call, granted and ended nothing, and removed the connection of no joined session.
pub record IsEarly (x : Step) : Type 0 where
  pub wake : x.input ≡ Wake
  pub uncalled : x.effects.calls ≡ []
  pub ungranted : x.effects.grants ≡ []
  pub unended : x.effects.ends ≡ []
  pub leaves : LeavesJoined x.setting x.past x.effects.moves

-- The entry answers the line's job after this step.
pub record AnswersAfter (x : Step) (y : Answering) : Type 0 where
  pub setting : y.setting ≡ x.setting
  pub past : y.past ≡ x.past
  pub reading : y.entry.reading ≡ x.reading
  -- what it has of before its input is what the step had
  pub starts : filter (λ k. is_some k.stands_for) y.entry.effects.starts ≡ x.effects.starts
  pub replies : filter (λ a. is_before_input a.reply) y.entry.effects.replies ≡ x.effects.replies

-- What a command is answered at once has its cause.
abbrev pub AnswersAreCaused : Type 0
AnswersAreCaused =
    (x : Step) (y : Answering) (c : Command) (r : Reply) → IsEarly x → AnswersAfter x y → AtLine y c → decided x.setting (seen x) x.reading c ≡ Replies r → CausedBy y r

-- What the session's recovery or leaving refuses at once, which in the entry looks as if it had been refused before the input, has its
-- cause too, whatever else the entry does.
abbrev pub StoppedAreCaused : Type 0
StoppedAreCaused =
    (x : Step) (y : Answering) (c : Command) (t : ℕ) → IsEarly x → y.setting ≡ x.setting → y.past ≡ x.past → y.entry.reading ≡ x.reading
    → filter (λ k. is_some k.stands_for) x.effects.starts ≡ x.effects.starts → filter (λ a. is_before_input a.reply) x.effects.replies ≡ x.effects.replies
    → AtLine y c → decided x.setting (seen x) x.reading c ≡ Replies (Recovering t) → CausedBy y (Recovering t)

-- ---- at the real head of a step

-- A step of this setting after these entries at this reading, before its input: it is early, has started kill programs alone, and has refused
-- jobs by recoveries and by time alone.
pub record IsBeforeInput (st : Setting) (past : Trace) (now : ℕ) (x : Step) : Type 0 where
  pub setting : x.setting ≡ st
  pub before : x.past ≡ past
  pub reading : x.reading ≡ now
  pub early : IsEarly x
  pub starts : (k : Start) → Contains x.effects.starts k → is_some k.stands_for ≡ true
  pub replies : (a : JobReply) → Contains x.effects.replies a → is_before_input a.reply ≡ true
  pub numbers : (a : JobReply) → Contains x.effects.replies a → a.job < next_job st past

-- Each step is so where its input is looked at.
abbrev pub HeadsAreEarly : Type 0
HeadsAreEarly = (st : Setting) (past : Trace) (now : ℕ) → WholeTrace st past → IsBeforeInput st past now (before_input (begin_step st past now))

-- The step has started, answered, granted and ended what the other has, and nothing else.
pub record IsSilent (x y : Step) : Type 0 where
  pub starts : y.effects.starts ≡ x.effects.starts
  pub replies : y.effects.replies ≡ x.effects.replies
  pub grants : y.effects.grants ≡ x.effects.grants
  pub ends : y.effects.ends ≡ x.effects.ends

-- What comes last in a step starts nothing, answers nobody, and grants and ends nothing.
abbrev pub LastIsSilent : Type 0
LastIsSilent = (x : Step) → IsSilent x (finish x)

-- The job that an entry's line begins, answered by it.
abbrev pub at_its_line : Setting → Trace → Entry → Job → Answering
at_its_line st past e j = record { setting = st; past = past; entry = e; job = j }

-- So what a command is answered at once has its cause in the entry that is due.
abbrev pub LinesAreWell : Type 0
LinesAreWell =
    (st : Setting) (past : Trace) (e : Entry) (text : List ℕ) (c : Command) (r : Reply) (j : Job) → WholeTrace st past → IsDue st past e → e.input ≡ Line text → st.read text ≡ Ok c
    → decided st (seen (before_input (begin_step st past e.reading))) e.reading c ≡ Replies r → job_numbered st (e ∷ past) (next_job st past) ≡ Some j
    → CausedBy (at_its_line st past e j) r

-- And so has each reply that an entry that is due gives at once to its own line.
abbrev pub AtOnceAreCaused : Type 0
AtOnceAreCaused =
    (st : Setting) (past : Trace) (e : Entry) (a : JobReply) (j : Job) → WholeTrace st past → IsDue st past e → Contains e.effects.replies a → IsAtOnce (due_step st past e.reading e.input) a
    → job_numbered st (e ∷ past) a.job ≡ Some j → CausedBy (at_its_line st past e j) a.reply

-- Whom the step of a line refuses as in recovery, at its head, at once, or as others of a session that leaves by the line, is so with its cause.
abbrev pub RefusedAtLines : Type 0
RefusedAtLines =
    (st : Setting) (past : Trace) (e : Entry) (text : List ℕ) (a : JobReply) (t : ℕ) (j : Job) → WholeTrace st past → IsDue st past e → e.input ≡ Line text
    → CausedSoFar is_explained (before_input (begin_step st past e.reading)) → Contains e.effects.replies a → a.reply ≡ Recovering t → job_numbered st (e ∷ past) a.job ≡ Some j
    → CausedBy (at_its_line st past e j) (Recovering t)

-- What a line is granted, beside a holding or by taking one over, is granted with its cause.
abbrev pub GrantedAtLines : Type 0
GrantedAtLines =
    (st : Setting) (past : Trace) (e : Entry) (text : List ℕ) (a : JobReply) (lver : ℕ) (j : Job) → WholeTrace st past → IsDue st past e → e.input ≡ Line text → Contains e.effects.replies a
    → a.reply ≡ Granted lver → job_numbered st (e ∷ past) a.job ≡ Some j → CausedBy (at_its_line st past e j) (Granted lver)

-- What a line is answered where the turn of its block would pass its limit is so with its cause.
abbrev pub LimitedAtLines : Type 0
LimitedAtLines =
    (st : Setting) (past : Trace) (e : Entry) (text : List ℕ) (a : JobReply) (j : Job) → WholeTrace st past → IsDue st past e → e.input ≡ Line text → Contains e.effects.replies a
    → a.reply ≡ LimitReached TurnLimit → job_numbered st (e ∷ past) a.job ≡ Some j → CausedBy (at_its_line st past e j) (LimitReached TurnLimit)

-- What a line is answered as done is so with its cause: a kill program is set, or a holding was given up beside others of the lease.
abbrev pub DoneAtLines : Type 0
DoneAtLines =
    (st : Setting) (past : Trace) (e : Entry) (text : List ℕ) (a : JobReply) (j : Job) → WholeTrace st past → IsDue st past e → e.input ≡ Line text → Contains e.effects.replies a
    → a.reply ≡ Done → job_numbered st (e ∷ past) a.job ≡ Some j → CausedBy (at_its_line st past e j) Done
