use Rattle.sl_text.proofs.SameTexts.{all_same}
use Rattle.sl_text.proofs.same.is_same.Goals as goal
use Rattle.std.proofs.Common.{arith, length, sym, ◌≡◌, ◌≤◌}
use Rattle.std.proofs.lemmas.Bool.Decides.{nat_tests}

pub returns : goal.returns
returns c =
    let end : length c.args.a.now ≤ c.loop-index.index = omega arith in
    let same : length c.args.a.now ≡ length c.args.b.now = grind (arith, nat_tests) in
    let other : length c.args.b.now ≤ c.loop-index.index = omega (arith, end, same) in
    sym (all_same c.args.a.now c.args.b.now c.loop-index.index end other c.loop-index.invariant)
