-- Arguments that are added to a command one by one.
use Rattle.clap.specs.Simple.{App, app_of, with_rule}
use Rattle.clap.specs.Walk.{Rule}
use Rattle.clap.specs.declared.builder.command.Command.{Command}
use Rattle.std.proofs.Common.{ap, subst, ◌∙◌, ◌≡◌}
use Rattle.std.specs.Prelude.{IfOk, Result}

-- Three of them.
pub three_added : {E : Type 0} (a b c : App) (p q r : Rule) (made : Result Command E) → b ≡ with_rule a p → c ≡ with_rule b q
    → IfOk made (λ d. app_of d ≡ with_rule c r) → IfOk made (λ d. app_of d ≡ with_rule (with_rule (with_rule a p) q) r)
three_added a b c p q r made first second third =
    subst (λ (x : App). IfOk made (λ d. app_of d ≡ with_rule x r)) (second ∙ ap (λ (x : App). with_rule x q) first) third
