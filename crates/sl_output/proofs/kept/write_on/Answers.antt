use Rattle.std.proofs.Common.{subst}
use Rattle.sl_output.proofs.OutputLaws.{put_all, put_part}
use Rattle.sl_output.proofs.kept.write_on.Goals as goal
use Rattle.sl_output.specs.Outputs.{IsPut}

pub returns-in-Ok : goal.returns-in-Ok
returns-in-Ok g c = λ before faults ps by put.
    let taken = g.K.Sink.taken c.args.sink.now in
    let had = g.K.Sink.faults c.args.sink.now in
    put_all before taken (g.K.Sink.taken c.write_all.new.sink) faults had (g.K.Sink.faults c.write_all.new.sink) by ps c.args.text.now
    (subst (λ b. IsPut before taken faults had ps b) c.if-cut.false put) c.in-Ok.ensures.all c.write_all.ensures.cause.later

pub returns-in-Err : goal.returns-in-Err
returns-in-Err g c = λ before faults ps by put.
    let taken = g.K.Sink.taken c.args.sink.now in
    let had = g.K.Sink.faults c.args.sink.now in
    let front = c.write_all.ensures.front in
    put_part before taken (g.K.Sink.taken c.write_all.new.sink) faults had (g.K.Sink.faults c.write_all.new.sink) by front.0 ps c.args.text.now
    (subst (λ b. IsPut before taken faults had ps b) c.if-cut.false put) front.2 c.write_all.ensures.cause.later c.in-Err.ensures.cause.failed
