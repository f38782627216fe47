-- A run in which an acquire has all that it needs to be granted, and is: so what is proved of such acquires is proved of something.
use Rattle.sl_examples.specs.CheapDigest.{cheap_program}
use Rattle.sl_report.specs.DueRuns.{due_run}
use Rattle.sl_run.specs.Quiet.{QuietStart, StaysQuiet, job_calls}
use Rattle.sl_run.specs.Runs.{EachDaemon}
use Rattle.sl_run.specs.Safety.{LawfulRun, world_at}
use Rattle.sl_run.specs.Worlds.{Daemon, Machine, machine_at}
use Rattle.sl_run.specs.declared.event.Event.TheVariants.{Do, GiveCommand}
use Rattle.sl_run.specs.declared.event.Event.{Event}
use Rattle.sl_run.specs.Lawful.{Lawful}
use Rattle.sl_trace.specs.Traces.{next_job, reply_to}
use Rattle.sl_trace.specs.declared.command.ResourceArg.{ResourceArg}
use Rattle.sl_trace.specs.declared.reply.Reply.TheVariants.{Granted}
use Rattle.sl_examples.specs.Witness.Witness.{witness_header, witness_world}
use Rattle.std.specs.Prelude.{Bool, List, Some, codes, false, length, true, [], ℕ, ◌∷◌, ◌≡◌}

-- The resource, as commands name it.
abbrev pub quiet_resource : ResourceArg
quiet_resource = record { lockspace = codes "ls"; name = codes "r"; path = codes "/d"; offset = 1048576 }

-- Machine 1 acquires it, exclusive or shared.
abbrev pub exclusive_text : List ℕ
exclusive_text = codes "acquire -r ls:r:/d:1048576 -p 7"

abbrev pub shared_text : List ℕ
shared_text = codes "acquire -r ls:r:/d:1048576:SH -p 7"

abbrev pub exclusive_events : List Event
exclusive_events = GiveCommand 1 exclusive_text ∷ Do 1 1 ∷ Do 1 2 ∷ Do 1 3 ∷ Do 1 4 ∷ Do 1 5 ∷ Do 1 6 ∷ []

abbrev pub shared_events : List Event
shared_events = GiveCommand 1 shared_text ∷ Do 1 1 ∷ Do 1 2 ∷ Do 1 3 ∷ Do 1 4 ∷ Do 1 5 ∷ Do 1 6 ∷ Do 1 7 ∷ Do 1 8 ∷ []

-- These events from the header's world on, each daemon doing what is due: the run is lawful; the acquire begins quietly and stays so, and by its
-- first job, with so many calls, it is granted under instance 1.
pub record IsQuietlyGranted (es : List Event) (text : List ℕ) (shared : Bool) (calls : ℕ) : Type 0 where
  pub lawful : LawfulRun cheap_program witness_header (due_run witness_world es)
  pub each : EachDaemon Lawful (world_at cheap_program witness_header (due_run witness_world es))
  pub start : QuietStart witness_world 1 text quiet_resource shared 7
  pub job : next_job start.daemon.setting start.daemon.trace ≡ 1
  pub session : start.session.number ≡ 0
  pub stays : StaysQuiet witness_world (due_run witness_world es) 1 1 quiet_resource shared 7 0
  pub machine : Machine
  pub daemon : Daemon
  pub after : (machine_at (world_at cheap_program witness_header (due_run witness_world es)) 1 ≡ Some machine) × (machine.daemon ≡ Some daemon)
  pub count : length (job_calls daemon.trace 1) ≡ calls
  -- in the entry that brought the answer to the last of them
  pub granted : reply_to daemon.trace 1 ≡ Some (record { at = calls; reply = Granted 1 })

-- An exclusive acquire by six calls; a shared one by eight.
pub record QuietAcquiresAreShown : Type 0 where
  pub exclusive : IsQuietlyGranted exclusive_events exclusive_text false 6
  pub shared : IsQuietlyGranted shared_events shared_text true 8
