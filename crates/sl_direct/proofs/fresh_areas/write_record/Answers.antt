use Rattle.sl_direct.proofs.FreshLaws.{write_failed}
use Rattle.sl_direct.proofs.fresh_areas.write_record.Goals as goal

pub returns-clause-failed : goal.returns-clause-failed
returns-clause-failed g c = write_failed _ _ _ _ _ _ c.requires.size c.requires.rules c.write.ensures.failed
