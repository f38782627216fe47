-- One word after another is passed.
use Rattle.sl_picture.proofs.said.words_behind.Goals as goal
use Rattle.sl_text.specs.Forms.{words_of}
use Rattle.sl_text.specs.Walks.{Unread}
use Rattle.std.proofs.Common.{ap, drop, ◌∙◌}
use Rattle.std.proofs.lemmas.List.{drop-drop}

pub loop-preserved : goal.loop-preserved
loop-preserved c =
    ap (λ (u : Unread). u.words) c.next_piece.ensures.left ∙ ap (λ ws. drop 1 ws) c.loop.invariant ∙ drop-drop 1 c.loop.counter (words_of c.args.line.now)
