-- What stands above it, the ground, the layers, the words, and the ends of both groups.
use Rattle.sl_drawing.specs.Elements.{tail_text}
use Rattle.sl_picture.proofs.PushedTexts.{on_ok, six_texts}
use Rattle.sl_picture.proofs.kept.Picture.push_planned.Goals as goal
use Rattle.sl_picture.specs.Captions.{above_text}
use Rattle.sl_picture.specs.Page.{ground_text, layers_text, words_text}

pub returns : goal.returns
returns c =
    on_ok _ _ c.push_tail-2.result
    (λ tail. six_texts c.args.out.now.items (above_text c.args.layout.now c.args.caption.now) (ground_text c.args.self.now c.args.layout.now)
    (layers_text c.args.self.now c.args.layout.now c.args.bars.now) (words_text c.args.self.now c.args.layout.now c.args.bars.now c.args.last.now) tail_text tail_text
    c.push_above.new.out.items c.push_ground.new.out.items c.push_layers.new.out.items c.push_labels.new.out.items c.push_tail.new.out.items c.push_tail-2.new.out.items
    c.in_ok-push_above.ensures c.in_ok-push_ground.ensures c.in_ok-push_layers.ensures c.in_ok-push_labels.ensures c.in_ok-push_tail.ensures tail)
    c.push_tail-2.ensures
