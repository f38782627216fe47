use Rattle.sl_host_state.specs.KeptState.{state_of}
use Rattle.sl_host_state.specs.MadeEffects.{with_move}
use Rattle.sl_host_work.proofs.delta.connect.Goals as goal
use Rattle.sl_trace.specs.declared.effects.Move.TheVariants.{Renew}
use Rattle.sl_host.proofs.HostStands.{none_ended}
use Rattle.std.proofs.Common.{ap, sym, ◌∙◌}
use Rattle.std.specs.Prelude.{Err}

pub returns-clause-state : goal.returns-clause-state
returns-clause-state c read =
    c.move_on.ensures.state read ∙ ap (λ n. with_move (Renew c.args.who.now.lockspace n) (state_of read c.args.host.now.kept)) c.expiry-expiry.ensures

-- None is ended by such a move.
pub returns-clause-members : goal.returns-clause-members
returns-clause-members c = ap (λ h. h.members) (c.move_on.ensures.state (λ text. Err 0)) ∙ sym (none_ended c.args.host.now.kept.members)
