-- Texts put together.
use Rattle.std.proofs.Common.{List, [], ap, append_assoc, sym, ℕ, ◌++◌, ◌∙◌, ◌≡◌}

pub text_so : (v a b c d m e f : List ℕ) → ((([] ++ v) ++ (a ++ (b ++ (c ++ d)))) ++ m) ++ (e ++ f) ≡ v ++ a ++ b ++ c ++ d ++ m ++ e ++ f
text_so v a b c d m e f =
    ap (λ x. (x ++ m) ++ (e ++ f)) (sym (append_assoc v a (b ++ (c ++ d))) ∙ sym (append_assoc (v ++ a) b (c ++ d)) ∙ sym (append_assoc (v ++ a ++ b) c d))
    ∙ sym (append_assoc (v ++ a ++ b ++ c ++ d ++ m) e f)
