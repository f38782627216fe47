use Rattle.sl_host_passes.proofs.LastActs.{nothing_last}
use Rattle.sl_host_passes.proofs.session_finish.finish_member.Goals as goal
use Rattle.sl_host_state.specs.KeptState.{state_of}
use Rattle.std.proofs.Common.{sym, ◌∙◌}

pub returns-else-may_end_at-clause-state : goal.returns-else-may_end_at-clause-state
returns-else-may_end_at-clause-state c read = nothing_last (state_of read c.args.host.now.kept) c.args.number (sym c.may_end_at.ensures ∙ c.if-may_end_at.false)
