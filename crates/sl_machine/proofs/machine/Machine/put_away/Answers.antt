use Rattle.sl_world_state.specs.Daemons.{IsSoundOp}
use Rattle.sl_machine.proofs.machine.Machine.put_away.Goals as goal
use Rattle.sl_trace.specs.declared.effects.Call.{Call}
use Rattle.std.proofs.Common.{List, subst, sym}
use Rattle.std.specs.Prelude.{Contains}

pub push_calls-requires-clause-sound : goal.push_calls-requires-clause-sound
push_calls-requires-clause-sound g c = subst (λ (xs : List Call). (x : Call) → Contains xs x → IsSoundOp x.op) (sym c.as_slice-3.ensures) c.requires.room.sound
