-- Three keys, one behind the other.
use Rattle.sl_drawing.specs.declared.classes.Class.TheVariants as class
use Rattle.sl_picture.proofs.page.push_shapes.Goals as goal
use Rattle.sl_picture.specs.Page.{key_text}
use Rattle.std.proofs.Common.{List, ap, ℕ, ◌++◌, ◌∙◌, ◌≡◌}
use Rattle.std.proofs.lemmas.List.{append_assoc}
use Rattle.std.specs.Prelude.{codes}

joined : (old a b c first second third : List ℕ) → first ≡ old ++ a → second ≡ first ++ b → third ≡ second ++ c → third ≡ old ++ (a ++ b ++ c)
joined old a b c first second third one two three = three ∙ ap (λ text. text ++ c) (two ∙ ap (λ text. text ++ b) one ∙ append_assoc old a b) ∙ append_assoc old (a ++ b) c

pub returns-clause-text : goal.returns-clause-text
returns-clause-text c =
    joined _ _ _ _ _ _ _ c.in_ok-push_key.ensures.text c.in_ok-fails.ensures.text
    (c.in_ok-end.ensures.text ∙ ap (λ x. c.push_key-2.new.out.items ++ key_text class.Expired x (codes "watchdog's test fails")) c.in_ok-fails.ensures.end)
