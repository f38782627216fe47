-- One text behind another.
use Rattle.sl_generate.proofs.TextLaws.{text_so}
use Rattle.sl_generate.proofs.texts.command_text.Goals as goal
use Rattle.std.proofs.Common.{ap, ap₂, ◌*◌, ◌++◌, ◌∙◌}
use Rattle.std.specs.Prelude.{codes, decimal}

pub returns : goal.returns
returns c =
    c.new.ensures ∙ c.in_ok-push_text-4.ensures
    ∙ ap₂ (λ x y. x ++ y)
    (c.in_ok-push_text-3.ensures
    ∙ ap (λ x. x ++ c.args.mode.now)
    (c.in_ok-push_text-2.ensures
    ∙ ap₂ (λ x y. x ++ y) (c.in_ok-push_text.ensures ∙ ap (λ x. x ++ c.args.verb.now) c.new-text.ensures.items) (c.as_bytes.ensures.value ∙ c.in_ok-front.ensures.ok)))
    (c.as_bytes-2.ensures.value ∙ c.in_ok-back.ensures.ok)
    ∙ text_so c.args.verb.now (codes " -r ls:r") (decimal c.args.k) (codes ":/d:") (decimal (c.args.k * 1048576)) c.args.mode.now (codes " -p ") (decimal c.args.process)
