-- What is shown of every daemon that does what is due.
use Rattle.sl_due.specs.Due.{IsDue, IsHostTrace, due_step}
use Rattle.sl_due.specs.DueCommands.{decided}
use Rattle.sl_due.specs.Steps.{seen}
use Rattle.sl_due.specs.declared.decision.Decision.TheVariants.{ConvertsTo, GetsValue, GivesUp, Joins, Leaves, ReadsArea, Replies, Requests, SetsValue, Shares, TakesOver}
use Rattle.sl_due.specs.declared.decision.Decision.{Decision}
use Rattle.sl_trace.specs.Sessions.{present_sessions, session_numbered, sessions}
use Rattle.sl_trace.specs.declared.session.Session.{Session}
use Rattle.sl_trace.specs.Traces.{EachEntry, Setting, Trace}
use Rattle.sl_trace.specs.declared.command.Command.TheVariants.{AddLockspace}
use Rattle.sl_trace.specs.declared.command.Command.{Command}
use Rattle.sl_trace.specs.declared.effects.Call.{Call}
use Rattle.sl_trace.specs.declared.effects.Entry.{Entry}
use Rattle.std.specs.Prelude.{Contains, IsSome, length, ℕ, ◌∷◌, ◌≡◌}

-- A step at its end is the trace with the entry that is due.
abbrev pub DueIsSeen : Type 0
DueIsSeen = (st : Setting) (past : Trace) (e : Entry) → IsDue st past e → seen (due_step st past e.reading e.input) ≡ e ∷ past

-- The session is one that the trace has, and is present.
abbrev pub IsPresent : Setting → Trace → Session → Type 0
IsPresent st es s = Contains (present_sessions st es) s

-- What a command may come to: what joins is its lockspace, with the next session's number; all else is of a session that is present.
abbrev pub IsDecidedFor : Setting → Trace → Command → Decision → Type 0
IsDecidedFor st es c (Replies r) = Unit {0}
IsDecidedFor st es c (Joins n a) = (c ≡ AddLockspace a) × (n ≡ length (sessions st es))
IsDecidedFor st es c (Leaves s) = IsPresent st es s
IsDecidedFor st es c (ReadsArea s r) = IsPresent st es s
IsDecidedFor st es c (Shares s lver) = IsPresent st es s
IsDecidedFor st es c (GivesUp s g) = IsPresent st es s
IsDecidedFor st es c (TakesOver s g) = IsPresent st es s
IsDecidedFor st es c (ConvertsTo s r mode) = IsPresent st es s
IsDecidedFor st es c (Requests s r) = IsPresent st es s
IsDecidedFor st es c (SetsValue s at v) = IsPresent st es s
IsDecidedFor st es c (GetsValue s at) = IsPresent st es s

-- Each decision is of a session that is present, or of one that begins with it.
abbrev pub DecisionsAreTheirs : Type 0
DecisionsAreTheirs = (st : Setting) (es : Trace) (now : ℕ) (c : Command) → IsDecidedFor st es c (decided st es now c)

-- Each call is of a session.
abbrev pub HostsOwnTheirCalls : Type 0
HostsOwnTheirCalls =
    (st : Setting) (es : Trace) → IsHostTrace st es → EachEntry (λ past e. (c : Call) → Contains e.effects.calls c → IsSome (session_numbered st (e ∷ past) c.session)) es
