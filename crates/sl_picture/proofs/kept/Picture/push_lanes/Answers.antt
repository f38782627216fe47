-- One lane more.
use Rattle.sl_picture.proofs.PushedTexts.{text_more}
use Rattle.sl_picture.proofs.kept.Picture.push_lanes.Goals as goal
use Rattle.sl_picture.specs.Page.{lanes_to}
use Rattle.std.proofs.Common.{arith, subst, suc, ℕ, ◌++◌, ◌+◌, ◌≡◌}

pub loop-index-preserved : goal.loop-index-preserved
loop-index-preserved c =
    let n : ℕ = c.loop-index.index in
    let next : suc n ≡ n + 1 = omega arith in
    subst (λ (k : ℕ). c.push_lane_at.new.out.items ≡ c.args.out.now.items ++ lanes_to c.args.layout.now k) next
    (text_more _ _ _ _ _ c.loop-index.invariant c.in_ok-push_lane_at.ensures)
