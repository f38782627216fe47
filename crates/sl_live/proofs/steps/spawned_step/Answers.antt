use Rattle.sl_live.proofs.steps.spawned_step.Goals as goal

pub returns-in-Err-clause-err : goal.returns-in-Err-clause-err
returns-in-Err-clause-err g c = (c.take_in-ok.result, record { taken = c.take_in-ok.new.self; takes = c.take_in-ok.ensures; turn = c.in-Err.ensures.err })
