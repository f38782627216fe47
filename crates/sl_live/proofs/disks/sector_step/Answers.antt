use Rattle.sl_live.proofs.ServedLaws.{made_at, made_on}
use Rattle.sl_live.proofs.disks.sector_step.Goals as goal
use Rattle.sl_live.specs.ServedCalls.{disk_at}
use Rattle.std.proofs.Common.{ap, get_or}
use Rattle.std.proofs.lemmas.Result.{IfOk-weaker}
use Rattle.std.specs.List.{slice_set}

pub returns-clause-made : goal.returns-clause-made
returns-clause-made g c = λ can.
    let disks = c.args.disks.now in
    let before = get_or disks c.in-Some.k c.index-disks-k.result in
    made_at g.A.Area.content g.A.Area.faults c.args.geometry.now.sector c.args.call.now disks (slice_set disks c.in-Some.k (record before { area = c.serve.new.area })) c.in-Some.k
    (disk_at c.args.call.now.path disks) c.serve.result c.in-Some.ensures.exact
    (IfOk-weaker c.serve.result _ _ (λ a s. made_on g.A.Area.content g.A.Area.faults c.args.geometry.now.sector c.args.call.now disks c.in-Some.k before c.serve.new.area c.in-Some-place_of.at a
    c.in-Some.ensures.within (ap (λ d. get_or disks c.in-Some.k d) c.index-disks-k.is) c.in-Some-place_of.ensures.some.1 s) c.serve.ensures.ok)
