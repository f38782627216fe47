use Rattle.sl_trace.proofs.TraceFacts.{each_entry-front}
use Rattle.sl_trace.proofs.laws.traces_have_fronts.Goals as goal
use Rattle.sl_trace.specs.Traces.{FollowsTrace}

pub returns : goal.returns
returns c = λ st later es h. each_entry-front (FollowsTrace st) later es h
