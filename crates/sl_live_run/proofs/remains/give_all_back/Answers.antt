-- What one machine more left is back.
use Rattle.sl_live_run.proofs.LentLaws.{back_pushed}
use Rattle.sl_live_run.proofs.remains.give_all_back.Goals as goal
use Rattle.sl_live_run.specs.Lent.{AreAllBack}
use Rattle.sl_live_run.specs.Runs.{remains_of}
use Rattle.std.proofs.Common.{map, subst, sym, ◌∙◌}
use Rattle.std.proofs.lemmas.Iterator.Adapters.{YieldsList-from_vec}
use Rattle.std.proofs.lemmas.Iterator.Consumers.{YieldsList-end}
use Rattle.std.proofs.lemmas.List.{map-id}

pub loop-left-preserved : goal.loop-left-preserved
loop-left-preserved g c =
    back_pushed g.V.Area.Area.content g.V.Area.Area.faults g.V.Spawner.Spawner.acts c.loop-left.yielded c.in-Some.left _ _ _ c.loop-left.invariant c.give_left.ensures

pub returns : goal.returns
returns g c =
    let from = c.into_iter-left-iterator.ensures.into_iter_gives in
    let all = YieldsList-end (YieldsList-from_vec c.args.remains.items from.0 (from.1 ∙ c.args.remains.ok.0)) c.loop-left.yielded c.loop-left.left-iterator c.loop-left.yielded_by c.next.result c.next.new.self c.in-None.is
    c.next.ensures.steps in
    subst (λ rs. AreAllBack g.V.Area.Area.content g.V.Area.Area.faults g.V.Spawner.Spawner.acts (map remains_of rs) (g.V.Devices.lendings c.args.devices.now) (g.V.Devices.lendings c.loop-left.devices))
    (sym (map-id c.loop-left.yielded) ∙ all.0) c.loop-left.invariant
