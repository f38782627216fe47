use Rattle.sl_live_lines.proofs.EventLaws.{one_told}
use Rattle.sl_live_lines.proofs.event_texts.push_recoveries.Goals as goal
use Rattle.sl_live_lines.specs.EventTexts.{recovery_text}

pub loop-place-preserved : goal.loop-place-preserved
loop-place-preserved c =
    one_told (recovery_text c.args.machine c.args.before c.args.now) c.args.connections.now.connections c.loop-place.place c.get.result c.args.out.now.items
    c.loop-place.out.items c.push_if_expired.new.out.items c.get.ensures c.loop-place.invariant c.in_ok-push_if_expired.ensures
