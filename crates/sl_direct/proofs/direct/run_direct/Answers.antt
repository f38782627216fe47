-- What was acted was put out.
use Rattle.sl_direct.proofs.ActLaws.{directs}
use Rattle.sl_direct.proofs.direct.run_direct.Goals as goal

pub returns : goal.returns
returns g c =
    directs c.args.action.now _ _ _ _ _ _ _ _ _ c.deref.result.now c.act-went.result _ c.act-went.ensures.acted c.deref.ensures.value c.act-went.ensures.cause c.act-went.ensures.later
    c.put_out.ensures
