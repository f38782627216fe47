-- The first read of a joining: with it its session begins.
use Rattle.sl_host_law.specs.Calls.MemberCalls.{is_idle_job}
use Rattle.sl_due.specs.Steps.{Step, add_call_of}
use Rattle.sl_host_state.specs.KeptState.{HostState}
use Rattle.sl_host_state.specs.MadeEffects.{with_joining}
use Rattle.sl_host_state.specs.NewHost.{IsOfProgram}
use Rattle.sl_host_state.specs.HostStands.{Stands}
use Rattle.sl_trace.specs.declared.command.Command.TheVariants.{AddLockspace}
use Rattle.sl_trace.specs.declared.command.LockspaceArg.{LockspaceArg}
use Rattle.sl_trace.specs.declared.effects.JoinStep.TheVariants.{FirstRead}
use Rattle.sl_trace.specs.declared.effects.Op.TheVariants.{ReadSectors}
use Rattle.sl_trace.specs.declared.effects.Purpose.TheVariants.{Joining}
use Rattle.sl_trace.specs.declared.input.Input.TheVariants.{Line}
use Rattle.std.specs.Prelude.{IsTrue, List, Ok, [], ℕ, ◌+◌, ◌≡◌}

-- The step's line says to join this lockspace, its job waits for no call, and the step has made none yet; areas are laid out as the
-- program does.
pub record JoiningFits (h : HostState) (job : ℕ) (text : List ℕ) (a : LockspaceArg) : Type 0 where
  pub says : h.config.read text ≡ Ok (AddLockspace a)
  pub number : h.next_job ≡ job + 1
  pub runs : IsTrue (is_idle_job h job)
  pub bare : h.made.calls ≡ []
  pub program : IsOfProgram h.config.layout

-- Then the session begins with the read.
abbrev pub JoiningsAreTaken : Type 0
JoiningsAreTaken =
    (h : HostState) (x : Step) (job : ℕ) (text : List ℕ) (a : LockspaceArg) (offset sectors : ℕ) → JoiningFits h job text a → Stands (Line text) h x
    → Stands (Line text) (with_joining job a (Joining job FirstRead) offset (ReadSectors sectors) h)
    (add_call_of h.born a.path (Joining job FirstRead) offset (ReadSectors sectors) x)
