use Rattle.sl_live_run.proofs.RunLaws.{ran_more, rans_all}
use Rattle.sl_live_run.proofs.ends.take_apart.Goals as goal
use Rattle.std.proofs.Common.{sym, ◌∙◌}
use Rattle.std.proofs.lemmas.Iterator.Adapters.{YieldsList-from_vec}
use Rattle.std.proofs.lemmas.Iterator.Consumers.{YieldsList-end}
use Rattle.std.proofs.lemmas.List.{map-id}

pub loop-machine-preserved-in_ok-push : goal.loop-machine-preserved-in_ok-push
loop-machine-preserved-in_ok-push g c =
    ran_more c.loop-machine.yielded c.in-Some.machine c.loop-machine.rans.items c.push.new.self.items c.in-Some-ran.ran c.loop-machine.invariant c.in-Some-ran.is
    c.in_ok-push.ensures.items

pub returns : goal.returns
returns g c =
    let from = c.into_iter-machine-iterator.ensures.into_iter_gives in
    let all = YieldsList-end (YieldsList-from_vec c.args.machines.items from.0 (from.1 ∙ c.args.machines.ok.0)) c.loop-machine.yielded c.loop-machine.machine-iterator c.loop-machine.yielded_by c.next.result c.next.new.self c.in-None.is
    c.next.ensures.steps in
    rans_all c.loop-machine.yielded c.args.machines.items c.loop-machine.rans.items c.loop-machine.invariant (sym (map-id c.loop-machine.yielded) ∙ all.0)
