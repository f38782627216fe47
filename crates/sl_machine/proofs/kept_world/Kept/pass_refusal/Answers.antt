use Rattle.sl_world_state.specs.Refusals.{pass_tests_in}
use Rattle.sl_machine.proofs.PassLaws.{same_reasons}
use Rattle.sl_machine.proofs.kept_world.Kept.pass_refusal.Goals as goal
use Rattle.std.proofs.Common.{◌∙◌}

pub returns : goal.returns
unfolding pass_tests_in
returns g c =
    c.first_reason.ensures ∙ same_reasons _ _ _ _ _ _ _ _ c.is_past_limit.ensures c.drifts_off.ensures c.starves.ensures c.is_overdue.ensures
