-- Both words are read, or one of them is none.
use Rattle.sl_cli.proofs.ActionTexts.{both_chosen}
use Rattle.sl_cli.proofs.OptionValueLaws.{no_first, no_second}
use Rattle.sl_cli.proofs.parsed_command.new_resource.Goals as goal
use Rattle.sl_direct.specs.declared.action.Action.TheVariants.{InitResource}
use Rattle.std.proofs.Common.{sym, ◌∙◌}

pub returns : goal.returns
returns c =
    both_chosen _ _ _ _ _ _ (λ a g. InitResource a g) (sym c.resource_of.ensures ∙ c.in_ok-resource_of.was) (sym c.sizes_for.ensures ∙ c.in_ok-sizes_for.was)

pub returns-in_err-resource_of : goal.returns-in_err-resource_of
returns-in_err-resource_of c = c.from_residual.ensures ∙ sym (no_first _ _ _ _ (sym c.resource_of.ensures ∙ c.in_err-resource_of.was))

pub returns-in_err-sizes_for : goal.returns-in_err-sizes_for
returns-in_err-sizes_for c = c.from_residual-in_err-sizes_for.ensures ∙ sym (no_second _ _ _ _ (sym c.sizes_for.ensures ∙ c.in_err-sizes_for.was))
