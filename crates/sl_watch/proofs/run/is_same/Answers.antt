use Rattle.sl_watch.proofs.ToldLaws.{by_records}
use Rattle.sl_watch.proofs.run.is_same.Goals as goal

pub returns-clause-exact : goal.returns-clause-exact
returns-clause-exact c = by_records c.same_record.result c.args.a.now c.args.b.now c.same_record.ensures
