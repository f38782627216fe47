-- The causes of the replies of a step so far.
use Rattle.sl_due_facts.specs.Acts.TraceSoFar.{entry_of}
use Rattle.sl_due.specs.Steps.{Step, seen}
use Rattle.sl_run.specs.Caused.{Answering, CausedBy}
use Rattle.sl_trace.specs.Leases.{is_lease_call, is_on}
use Rattle.sl_trace.specs.Sessions.{calls_of, generation_in, sessions}
use Rattle.sl_trace.specs.Sightings.{evidence_in}
use Rattle.sl_trace.specs.declared.session.Session.{Session}
use Rattle.sl_due_law.specs.Causes.CauseFacts.{CauseFacts}
use Rattle.sl_due_facts.specs.Facts.HeardCall.{heard_by}
use Rattle.sl_due_facts.specs.Facts.AllFacts.{WholeTrace}
use Rattle.sl_trace.specs.Traces.{Job, Setting, Submitted, is_running, job_numbered, next_job, reply_to, submitted}
use Rattle.sl_trace.specs.declared.command.Command.{Command}
use Rattle.sl_trace.specs.declared.effects.LeaseStep.{LeaseStep}
use Rattle.sl_trace.specs.declared.effects.Purpose.TheVariants.{Lease}
use Rattle.sl_trace.specs.declared.effects.Spot.{Spot}
use Rattle.sl_trace.specs.declared.effects.Work.TheVariants.{ForJob}
use Rattle.sl_trace.specs.declared.effects.Grant.{Grant}
use Rattle.sl_trace.specs.declared.effects.JobReply.{JobReply}
use Rattle.sl_trace.specs.declared.effects.Start.{Start}
use Rattle.sl_trace.specs.declared.input.Input.TheVariants.{Line, Wake}
use Rattle.sl_trace.specs.declared.input.Input.{Input}
use Rattle.sl_trace.specs.declared.reply.Limited.TheVariants.{Turn as TurnLimit}
use Rattle.sl_trace.specs.declared.reply.Reply.TheVariants.{Done, Granted, Limit as LimitReached, Recovering}
use Rattle.sl_trace.specs.declared.reply.Reply.{Reply}
use Rattle.std.specs.Prelude.{AllPairs, Bool, Contains, List, None, Ok, Some, [], false, filter, not, true, ℕ, ◌&&◌, ◌++◌, ◌≡◌, ◌≢◌}

-- Each reply so far is of a job that a line brought and that nobody answered before the step; no two are of one job.
pub record RepliedSoFar (x : Step) : Type 0 where
  pub running : (a : JobReply) → Contains x.effects.replies a → (j : Job) × (job_numbered x.setting (seen x) a.job ≡ Some j) × (reply_to x.past a.job ≡ None)
  pub once : AllPairs (λ a b. a.job ≢ b.job) x.effects.replies

-- Where the step as it is answers this job.
abbrev pub answering : Step → Job → Answering
answering x j = record { setting = x.setting; past = x.past; entry = entry_of x; job = j }

-- The reply has its cause in the step as it is.
abbrev pub HasCause : Step → JobReply → Type 0
HasCause x a = (j : Job) → job_numbered x.setting (seen x) a.job ≡ Some j → CausedBy (answering x j) a.reply

-- The answer of a lease's call was heard, and its job has its reply: the lease does nothing more in this entry.
pub record IsConcluded (x : Step) : Type 0 where
  pub call : Submitted
  pub there : Contains (submitted (seen x)) call
  pub heard : heard_by x.input ≡ Some call.call.number
  pub job : ℕ
  pub step : LeaseStep
  pub purpose : call.call.purpose ≡ Lease (ForJob job) step
  pub over : is_running (seen x) job ≡ false

-- The calls of a lease among these.
abbrev pub on_lease : Setting → Spot → List Submitted → List Submitted
on_lease st at ms = filter (λ m. is_lease_call m && is_on st.layout at m.call) ms

-- What a session's calls say of its leases stays, from these calls to those.
pub record KeepsLeases (st : Setting) (s : Session) (ms ns : List Submitted) : Type 0 where
  pub leases : (at : Spot) → on_lease st at ns ≡ on_lease st at ms
  pub generation : generation_in s ns ≡ generation_in s ms
  pub shown : (id n : ℕ) → evidence_in st ns id n ≡ evidence_in st ms id n

-- Where an input has been seen it stays, and so does each call.
pub record IsCarried (x z : Step) : Type 0 where
  pub input : z.input ≡ x.input
  pub more : List Submitted
  pub calls : submitted (seen z) ≡ more ++ submitted (seen x)
  pub answered : (n : ℕ) → is_running (seen x) n ≡ false → is_running (seen z) n ≡ false
  pub granted : (g : Grant) → Contains x.effects.grants g → Contains z.effects.grants g
  pub quiet : IsConcluded x → (s : Session) → Contains (sessions x.setting x.past) s → KeepsLeases x.setting s (calls_of (seen x) s) (calls_of (seen z) s)

-- A step that the other may have come to, in the same entry.
pub record IsLater (x z : Step) : Type 0 where
  pub setting : z.setting ≡ x.setting
  pub before : z.past ≡ x.past
  pub reading : z.reading ≡ x.reading
  pub carried : (x.input ≡ Wake → ⊥) → IsCarried x z

-- The reply has its cause whatever else the entry does.
abbrev pub StaysCaused : Step → JobReply → Type 0
StaysCaused x a = (z : Step) → IsLater x z → HasCause z a

-- The reply is that of the step's own line, which says a command, and nothing was granted or ended for it: it was decided by what stood
-- before the line.
pub record IsAtOnce (x : Step) (a : JobReply) : Type 0 where
  pub text : List ℕ
  pub line : x.input ≡ Line text
  pub command : Command
  pub says : x.setting.read text ≡ Ok command
  pub own : a.job ≡ next_job x.setting x.past
  pub ungranted : x.effects.grants ≡ []
  pub unended : x.effects.ends ≡ []

-- After a trace with all its facts each reply so far but that has its cause, if it is one of these in an entry with this input.
pub record CausedSoFar (these : Input → Reply → Bool) (x : Step) : Type 0 where
  pub before : WholeTrace x.setting x.past
  pub facts : CauseFacts x.setting x.past
  pub causes : (a : JobReply) → Contains x.effects.replies a → these x.input a.reply ≡ true → (IsAtOnce x a → ⊥) → StaysCaused x a
  -- until an input is seen only kill programs are started
  pub jobless : x.input ≡ Wake → (k : Start) → Contains x.effects.starts k → k.job ≡ None

-- Whether the input is a line.
abbrev pub is_line : Input → Bool
is_line (Line text) = true
is_line i = false

-- The replies of which that is shown: all but what a line refuses as in recovery or by the limit of turns, what it is granted, and what it is
-- answered as done.
abbrev pub is_explained : Input → Reply → Bool
is_explained i (Recovering t) = not (is_line i)
is_explained i Done = not (is_line i)
is_explained i (Granted lver) = not (is_line i)
is_explained i (LimitReached TurnLimit) = not (is_line i)
is_explained i r = true
