-- A quiet event that answers the acquire's call: what the answer shows, and how the acquire goes on from it.
use Rattle.sl_trace.specs.Jobs.{command_numbered}
use Rattle.sl_headline.specs.Quiet.Events.CarriedStages.{Asked, OnCourse, Stage, stage_next}
use Rattle.sl_headline.specs.Quiet.Events.AreaGoesOn.{IsHeard, IsLineOf, IsWellMade}
use Rattle.sl_headline.specs.Quiet.Events.CourseLeads.{Hears, ShowsAt}
use Rattle.sl_run.specs.Quiet.{GrantsQuietly, IsGrantedQuietly, QuietStep}
use Rattle.sl_run.specs.Runs.{EachDaemon, Happening}
use Rattle.sl_run.specs.Safety.{LawfulRun, world_at}
use Rattle.sl_run.specs.Worlds.{Daemon, Machine, Program, World, machine_at, reading_now}
use Rattle.sl_run.specs.declared.event.Event.TheVariants.{Crash, Reset}
use Rattle.sl_run.specs.declared.header.Header.{Header}
use Rattle.sl_run.specs.declared.header.ResourceLine.{ResourceLine}
use Rattle.sl_trace.specs.Traces.{reply_to}
use Rattle.sl_trace.specs.declared.command.Command.TheVariants.{Acquire}
use Rattle.sl_trace.specs.declared.effects.Entry.{Entry}
use Rattle.sl_trace.specs.declared.input.Input.TheVariants.{Answer as Told}
use Rattle.sl_trace.specs.declared.reply.Reply.TheVariants.{Granted}
use Rattle.std.specs.Prelude.{List, None, Some, [], ℕ, ◌++◌, ◌+◌, ◌∷◌, ◌≡◌}

-- What is said of a quiet event that answers the call of an acquire on its course.
abbrev pub OfAnswers : ((w v : World) (q : Asked) (stage : Stage) (c : OnCourse w q stage) → IsHeard v q c.daemon (c.host).call.call.number → Type 0) → Type 0
OfAnswers P =
    (p : Program) (h : Header) (now : List Happening) (x : Happening) → LawfulRun p h (now ++ x ∷ []) → EachDaemon IsWellMade (world_at p h (now ++ x ∷ [])) → (q : Asked) (stage : Stage) (line : ResourceLine)
    → IsLineOf h q.resource line → (c : OnCourse (world_at p h now) q stage)
    → QuietStep (world_at p h now) x (world_at p h (now ++ x ∷ [])) q.machine q.job q.resource q.shared q.process q.session.number
    → (k : IsHeard (world_at p h (now ++ x ∷ [])) q c.daemon (c.host).call.call.number) → P (world_at p h now) (world_at p h (now ++ x ∷ [])) q stage c k

-- The entry that hears.
abbrev pub heard_entry : (v : World) (q : Asked) (d : Daemon) (number : ℕ) → IsHeard v q d number → Entry
heard_entry v q d number k = record { reading = reading_now k.machine; input = Told number k.answer; effects = k.effects }

-- The answer is ok, in time, and shows what the lease needs.
abbrev pub AnswersShow : Type 0
AnswersShow = OfAnswers (λ w v q stage c k. Hears c.daemon.setting c.daemon.trace (heard_entry v q c.daemon (c.host).call.call.number k) q (c.host).call k.answer
    × ShowsAt c.daemon.setting c.daemon.trace (reading_now k.machine) q (c.host).call k.answer stage)

-- So the acquire comes to its next stage.
abbrev pub CourseComesOn : Type 0
CourseComesOn = OfAnswers (λ w v q stage c k. (next : Stage) → stage_next q.shared stage ≡ Some next → OnCourse v q next)

-- The acquire is granted: the daemon that runs has replied so, in the entry that answers its last call.
pub record IsGrantedThere (v : World) (q : Asked) : Type 0 where
  pub machine : Machine
  pub daemon : Daemon
  pub at : (machine_at v q.machine ≡ Some machine) × (machine.daemon ≡ Some daemon)
  pub place : ℕ
  pub command : command_numbered daemon.setting daemon.trace q.job ≡ Some (Acquire q.resource q.shared q.process q.persistent)
  pub reply : reply_to daemon.trace q.job ≡ Some (record { at = place; reply = Granted (q.leader.lver + 1) })
  pub grants : GrantsQuietly daemon q.job place (q.leader.lver + 1) q.resource q.shared q.persistent q.process

-- Or it is granted, after its last stage.
abbrev pub CourseIsGranted : Type 0
CourseIsGranted = OfAnswers (λ w v q stage c k. stage_next q.shared stage ≡ None → IsGrantedThere v q)

-- The grant stays: the reply is given once, and a job that has its reply makes no other call.
abbrev pub GrantsStay : Type 0
GrantsStay =
    (p : Program) (h : Header) (now : List Happening) (x : Happening) → LawfulRun p h (now ++ x ∷ []) → EachDaemon IsWellMade (world_at p h (now ++ x ∷ [])) → (q : Asked) → IsGrantedThere (world_at p h now) q
    → (x.0 ≡ Crash q.machine → ⊥) → (x.0 ≡ Reset q.machine → ⊥) → IsGrantedThere (world_at p h (now ++ x ∷ [])) q

-- While the acquire is at a call of its course it has no reply, and waits for an answer; once granted it has what is promised.
pub record CourseIsQuiet : Type 0 where
  pub waits : (w : World) (q : Asked) (stage : Stage) → (c : OnCourse w q stage) → IsGrantedQuietly c.daemon q.job (q.leader.lver + 1) q.resource q.shared q.persistent q.process
  pub granted : (v : World) (q : Asked) → (g : IsGrantedThere v q) → IsGrantedQuietly g.daemon q.job (q.leader.lver + 1) q.resource q.shared q.persistent q.process
