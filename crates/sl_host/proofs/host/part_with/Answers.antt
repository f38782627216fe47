use Rattle.sl_host_state.specs.MadeEffects.{is_ended_by_move}
use Rattle.sl_host.proofs.HostStands.{none_ended}
use Rattle.sl_host.proofs.host.part_with.Goals as goal
use Rattle.std.proofs.Common.{ap, filter, not, sym, ◌∙◌}

pub returns-in-Register-clause-members : goal.returns-in-Register-clause-members
returns-in-Register-clause-members c = none_ended c.args.members.now.members ∙ sym (ap (λ v. filter (λ m. not (is_ended_by_move v m)) c.args.members.now.members) c.in-Register.is)

pub returns-in-Renew-clause-members : goal.returns-in-Renew-clause-members
returns-in-Renew-clause-members c = none_ended c.args.members.now.members ∙ sym (ap (λ v. filter (λ m. not (is_ended_by_move v m)) c.args.members.now.members) c.in-Renew.is)
