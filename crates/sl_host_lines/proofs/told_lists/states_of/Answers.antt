use Rattle.sl_host_lines.proofs.ListsAreTold.{one_more_state}
use Rattle.sl_host_lines.proofs.told_lists.states_of.Goals as goal
use Rattle.sl_host_lines.specs.ToldSessions.{state_seen}
use Rattle.std.proofs.Common.{[], ap, arith, length, length-append, ◌++◌, ◌+◌, ◌∙◌, ◌∷◌, ◌≡◌}

pub loop-before-preserved : goal.loop-before-preserved
loop-before-preserved c =
    let i = c.loop-before.invariant in
    let m = c.args.member.now.state in
    let list = c.loop-before.states.items in
    let next = c.push_reserved.new.self.items in
    let more : next ≡ list ++ state_seen c.args.now m (c.loop-before.before + 1) ∷ [] = c.push_reserved.ensures.items ∙ ap (λ s. list ++ s ∷ []) c.state_of.ensures in
    let long : length next ≡ length list + 1 = ap length more ∙ length-append list (state_seen c.args.now m (c.loop-before.before + 1) ∷ []) in
    record {
      made = one_more_state c.args.now m c.loop-before.before list next more i.made;
      long = omega (arith, long, i.long);
      room = omega (arith, i.room, c.push_reserved.ensures.capacity);
    }
