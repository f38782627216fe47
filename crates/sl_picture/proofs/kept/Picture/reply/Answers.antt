-- A reply's words are what is answered.
use Rattle.sl_picture.proofs.PushedTexts.{on_ok}
use Rattle.sl_picture.proofs.kept.Picture.reply.Goals as goal
use Rattle.sl_picture.specs.Kept.{Kept, answered}
use Rattle.std.proofs.Common.{Bool, List, ap, ℕ, ◌∙◌, ◌≡◌}
use Rattle.std.specs.Prelude.{bytes_eq, codes}

alike : (m m' n n' : ℕ) (ok ok' : Bool) (t t' : List ℕ) (k : Kept) → m ≡ m' → n ≡ n' → ok ≡ ok' → t ≡ t' → answered m n ok t k ≡ answered m' n' ok' t' k
alike m m' n n' ok ok' t t' k machine number is text =
    ap (λ (x : ℕ). answered x n ok t k) machine ∙ ap (λ (x : ℕ). answered m' x ok t k) number ∙ ap (λ (x : Bool). answered m' n' x t k) is
    ∙ ap (λ (x : List ℕ). answered m' n' ok' x k) text

pub returns : goal.returns
returns c =
    let is = c.is.ensures ∙ ap (λ (word : List ℕ). bytes_eq word (codes "ok")) c.word_at.ensures in
    on_ok _ _ c.answer.result (λ done. done ∙ alike _ _ _ _ _ _ _ _ c.args.self.now c.number_at.ensures c.number_at-2.ensures is c.text_behind.ensures) c.answer.ensures
