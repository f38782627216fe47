use Rattle.sl_host_state.specs.KeptState.{state_of}
use Rattle.sl_host.proofs.LinesHeard.{leaving_heard, staying_heard}
use Rattle.sl_host.proofs.host.Host.hear_line.Goals as goal
use Rattle.sl_host.specs.LineParts.{leaving_begins, line_begun}
use Rattle.std.proofs.Common.{ap, ◌∙◌}

pub returns-in-Some-clause-state : goal.returns-in-Some-clause-state
returns-in-Some-clause-state c read =
    let h = state_of read c.args.self.now.kept in
    c.begin_leaving.ensures.state read
    ∙ (ap (leaving_begins c.in-Some.lockspace c.next_job-job.result) (c.begin_line.ensures.state read)
    ∙ (ap (λ j. leaving_begins c.in-Some.lockspace j (line_begun c.args.command.now h)) c.next_job-job.ensures
    ∙ leaving_heard c.args.command.now c.in-Some.lockspace h c.in-Some.ensures))

pub returns-in-None-clause-state : goal.returns-in-None-clause-state
returns-in-None-clause-state c read = c.begin_line.ensures.state read ∙ staying_heard c.args.command.now (state_of read c.args.self.now.kept) c.in-None.ensures
