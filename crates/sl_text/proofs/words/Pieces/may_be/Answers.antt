use Rattle.sl_text.proofs.PieceLaws.{same_piece}
use Rattle.sl_text.proofs.words.Pieces.may_be.Goals as goal
use Rattle.sl_text.specs.Forms.{exactly, pieces}
use Rattle.sl_words.specs.Words.{first_of_list, some_is}
use Rattle.std.proofs.Common.{List, eqb, length, rules, subst, sym, ℕ, ◌≡◌, ◌∙◌}

pub returns-in-Some-clause-same : goal.returns-in-Some-clause-same
returns-in-Some-clause-same g c begins =
    let text = c.args.text.now in
    let words : c.args.self.now.words ≡ pieces g.row.SEPARATOR c.in-Some.left.now = search rules in
    subst (λ (ws : List (List ℕ)). some_is (exactly text) (first_of_list ws) ≡ some_is (λ w. eqb (length w) (length text)) (first_of_list ws)) (sym words)
    (same_piece g.row.SEPARATOR text c.in-Some.left.now (sym c.begins_with.ensures ∙ begins))
