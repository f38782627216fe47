-- What is kept by each single effect.
use Rattle.sl_due_facts.specs.Acts.Acts.{Has}
use Rattle.sl_due.specs.DueCommands.{carry_decision, decided}
use Rattle.sl_due.specs.Steps.{Step, add_call_of, add_end, add_grant, add_move, add_reply, add_signal, add_start, seen, with_input}
use Rattle.sl_due.specs.declared.decision.Decision.TheVariants.{Joins}
use Rattle.sl_trace.specs.declared.session.Session.{Session}
use Rattle.sl_trace.specs.Traces.{next_job}
use Rattle.sl_trace.specs.declared.command.Command.{Command}
use Rattle.sl_trace.specs.declared.command.LockspaceArg.{LockspaceArg}
use Rattle.sl_trace.specs.declared.effects.End.{End}
use Rattle.sl_trace.specs.declared.effects.Grant.{Grant}
use Rattle.sl_trace.specs.declared.effects.Move.{Move}
use Rattle.sl_trace.specs.declared.effects.Op.{Op}
use Rattle.sl_trace.specs.declared.effects.Purpose.{Purpose}
use Rattle.sl_trace.specs.declared.effects.Signal.{Signal}
use Rattle.sl_trace.specs.declared.effects.Start.{Start}
use Rattle.sl_trace.specs.declared.input.Input.TheVariants.{Line, Wake}
use Rattle.sl_trace.specs.declared.input.Input.{Input}
use Rattle.sl_trace.specs.declared.reply.Reply.{Reply}
use Rattle.std.specs.Prelude.{List, Ok, [], ℕ, ◌≡◌}

pub record ByEffects (K : Step → Type 0) : Type 0 where
  pub ends : (x : Step) (e : End) → K x → K (add_end e x)
  pub signals : (x : Step) (p : ℕ) (s : Signal) → K x → K (add_signal p s x)
  pub moves : (x : Step) (m : Move) → K x → K (add_move m x)
  pub grants : (x : Step) (g : Grant) → K x → K (add_grant g x)
  pub starts : (x : Step) (s : Start) → K x → K (add_start s x)
  pub replies : (x : Step) (j : ℕ) (r : Reply) → K x → K (add_reply j r x)
  -- a call of a session that the trace has
  pub calls : (x : Step) (s : Session) (path : List ℕ) (p : Purpose) (o : ℕ) (op : Op) → Has x s → K x → K (add_call_of s.number path p o op x)

pub record Plainly (K : Step → Type 0) : Type 0 where
  pub effects : ByEffects K
  -- before any call the input is seen
  pub inputs : (x : Step) (i : Input) → x.input ≡ Wake → x.effects.calls ≡ [] → K x → K (with_input i x)
  -- a session begins with its first call
  pub begins : (x : Step) (text : List ℕ) (c : Command) (n : ℕ) (a : LockspaceArg) → x.input ≡ Wake → x.effects.calls ≡ [] → x.setting.read text ≡ Ok c →
      decided x.setting (seen x) x.reading c ≡ Joins n a → K x → K (carry_decision (next_job x.setting (seen x)) c (Joins n a) (with_input (Line text) x))
