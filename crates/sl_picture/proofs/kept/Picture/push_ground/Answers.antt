-- The resources, the other keys, the lanes.
use Rattle.sl_picture.proofs.PushedTexts.{on_ok, three_texts}
use Rattle.sl_picture.proofs.kept.Picture.push_ground.Goals as goal
use Rattle.sl_picture.specs.Page.{keys_text}
use Rattle.std.proofs.Common.{ap, ◌++◌, ◌∙◌}

pub returns : goal.returns
returns c =
    let keys = c.in_ok-push_keys.ensures ∙ ap (λ x. c.push_resources.new.out.items ++ keys_text c.args.self.now x) c.in_ok-x.ensures.end in
    on_ok _ _ c.push_lanes.result (λ lanes. three_texts _ _ _ _ _ _ _ c.in_ok-x.ensures.text keys lanes) c.push_lanes.ensures
