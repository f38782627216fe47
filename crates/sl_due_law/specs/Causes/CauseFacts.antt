-- What the causes of later replies stand on, of a trace at the end of an entry: what stands behind the calls of requests and values, what a
-- release has ended, what a joining looked at first, and what a child to be started holds.
use Rattle.sl_due_law.specs.LawfulTraces.JobLore.{AllSuit}
use Rattle.sl_due_facts.specs.Connections.WatchFacts.{WatchFacts}
use Rattle.sl_run.specs.Caused.{IsAccepted}
use Rattle.sl_trace.specs.Jobs.{command_numbered, process_named}
use Rattle.sl_trace.specs.Leases.{value_written}
use Rattle.sl_sector.specs.declared.sector.Rec.TheVariants.{RequestIs}
use Rattle.sl_sector.specs.declared.sector.Request.{Request as RequestRec}
use Rattle.sl_sector.specs.declared.sector.ValueRec.{ValueRec}
use Rattle.sl_trace.specs.Sessions.{calls_of, is_join_call, sessions}
use Rattle.sl_trace.specs.declared.session.Session.{Session}
use Rattle.sl_trace.specs.CountLimits.{most_processes}
use Rattle.sl_trace.specs.Traces.{Child, Job, Setting, Submitted, Trace, child_numbered, children, entry_at, gave, holdings, is_running, is_shared, job_numbered, job_of, no_process, record_of, same_place, submitted}
use Rattle.sl_trace.specs.declared.command.Command.{Command}
use Rattle.sl_trace.specs.declared.command.Command.TheVariants.{Release, ReleaseOrphan, Request, RunProgram, SetLvb}
use Rattle.sl_trace.specs.declared.command.ResourceArg.{ResourceArg}
use Rattle.sl_trace.specs.declared.effects.Entry.{Entry}
use Rattle.sl_trace.specs.declared.effects.Grant.{Grant}
use Rattle.sl_trace.specs.declared.effects.JoinStep.TheVariants.{FirstRead}
use Rattle.sl_trace.specs.declared.effects.LeaseStep.{LeaseStep}
use Rattle.sl_trace.specs.declared.effects.Purpose.{Purpose}
use Rattle.sl_trace.specs.declared.effects.Purpose.TheVariants.{Lease, RequestRead, RequestWrite, ValueWrite}
use Rattle.sl_trace.specs.declared.effects.Work.TheVariants.{ForJob}
use Rattle.std.specs.List.{list_any}
use Rattle.std.specs.Prelude.{Bool, Contains, IsTrue, List, None, Ok, Some, find, true, ℕ, ◌&&◌, ◌==◌, ◌≡◌, ◌≤◌, ◌⊎◌}

-- ---- calls of requests and values

-- The job's read of leader and request let its request pass, and the call writes that.
abbrev pub StandsBehindRequest : Setting → Trace → Submitted → ℕ → ℕ → ℕ → Type 0
StandsBehindRequest st t m j asked force =
    ((d : Submitted) × (bytes : List ℕ) × Contains (submitted t) d × (d.call.purpose ≡ RequestRead j) × (gave d ≡ Some bytes) × IsAccepted st.layout bytes asked force)
    × ((q : RequestRec) × (record_of m.call.op ≡ Some (RequestIs q)) × (q.lver ≡ asked) × (q.force ≡ force))

-- By what the call is for.
abbrev pub StandsBehind : Setting → Trace → Submitted → Command → Purpose → Type 0
StandsBehind st t m (Request r asked force) (RequestWrite j owner) = StandsBehindRequest st t m j asked force
StandsBehind st t m (SetLvb r p bytes) (ValueWrite j) = (v : ValueRec) × (value_written m ≡ Some v) × (v.bytes ≡ bytes)
StandsBehind st t m c p = Unit {0}

-- ---- releases

-- The process's holding of the resource ended in the entry of the job.
abbrev pub HasEnded : Trace → Job → ResourceArg → ℕ → Type 0
HasEnded t j r p = (e : Entry) × (entry_at t j.at ≡ Some e) × IsTrue (list_any (λ d. d.process == p && same_place d.path d.offset r.path r.offset) e.effects.ends)

-- What a release that runs has ended.
abbrev pub EndedAsAsked : Trace → Job → Command → Type 0
EndedAsAsked t j (Release r p) = HasEnded t j r p
EndedAsAsked t j (ReleaseOrphan r) = HasEnded t j r no_process
EndedAsAsked t j c = Unit {0}

-- ---- children

-- The process is no child, or one of which it was told that it was started.
abbrev pub IsTold : Trace → ℕ → Type 0
IsTold t p = (p ≤ most_processes) ⊎ ((k : Child) × (child_numbered t p ≡ Some k) × (k.answer ≡ Some true))

-- What the command of its job asks is held by a process, before all else that it holds.
pub record HoldsAsAsked (st : Setting) (t : Trace) (p j : ℕ) : Type 0 where
  pub resource : ResourceArg
  pub shared : Bool
  pub path : List ℕ
  pub command : command_numbered st t j ≡ Some (RunProgram resource shared path)
  pub holding : Grant
  pub first : find (λ g. g.process == p) (holdings t) ≡ Some holding
  pub place : IsTrue (same_place holding.path holding.offset resource.path resource.offset)
  pub named : holding.lockspace ≡ resource.lockspace
  pub mode : is_shared holding.mode ≡ shared

-- A call of a lease for a job, without an answer.
pub record WaitsFor (t : Trace) (m : Submitted) (j : ℕ) : Type 0 where
  pub there : Contains (submitted t) m
  pub opens : m.answer ≡ None
  pub step : LeaseStep
  pub purpose : m.call.purpose ≡ Lease (ForJob j) step

pub record ChildFacts (st : Setting) (t : Trace) : Type 0 where
  -- a job has one child, and none while its lease is at work
  pub lone : (k l : Child) (j : ℕ) → Contains (children t) k → Contains (children t) l → k.job ≡ Some j → l.job ≡ Some j → k.process ≡ l.process
  pub childless : (m : Submitted) (j : ℕ) (k : Child) → WaitsFor t m j → Contains (children t) k → k.job ≡ Some j → ⊥
  -- a child does nothing before it is told that it was started
  pub told : (m : Submitted) (j : ℕ) (c : Command) (p : ℕ) → WaitsFor t m j → command_numbered st t j ≡ Some c → process_named c ≡ Some p → IsTold t p
  -- meanwhile it holds what its job's command asks
  pub holds : (p j : ℕ) (k : Child) → child_numbered t p ≡ Some k → k.job ≡ Some j → k.answer ≡ None → is_running t j ≡ true → HoldsAsAsked st t p j

-- ---- all of it

pub record CauseFacts (st : Setting) (t : Trace) : Type 0 where
  pub watches : WatchFacts st t None
  -- each call serves what its job's command asks
  pub suit : AllSuit st t
  -- a session that a job began has looked at its sector
  pub looked : (s : Session) (j : ℕ) → Contains (sessions st t) s → s.job ≡ Some j →
      (m : Submitted) × Contains (calls_of t s) m × IsTrue (is_join_call FirstRead m.call.purpose)
  pub behind : (m : Submitted) (j : ℕ) (c : Command) → Contains (submitted t) m → job_of m.call.purpose ≡ Some j →
      command_numbered st t j ≡ Some c → StandsBehind st t m c m.call.purpose
  pub ended : (n : ℕ) (j : Job) (c : Command) → job_numbered st t n ≡ Some j → j.command ≡ Ok c → is_running t n ≡ true → EndedAsAsked t j c
  pub starts : ChildFacts st t
