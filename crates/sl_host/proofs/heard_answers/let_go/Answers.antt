use Rattle.sl_host_state.specs.declared.kept_parts.JobState.{JobState}
use Rattle.sl_tables.specs.Jobs.{JobsState}
use Rattle.sl_host.proofs.AnswersHeard.{jobs_heard, no_job_heard}
use Rattle.sl_host.proofs.heard_answers.let_go.Goals as goal
use Rattle.std.proofs.Common.{List, ap, sym, ◌∙◌}

pub returns-in-Some : goal.returns-in-Some
returns-in-Some c =
    let v : JobsState = c.args.jobs.now in
    c.set_waits.ensures ∙ ap (λ (js : List JobState). record v { jobs = js }) (jobs_heard c.args.call.now c.in-Some.job v.jobs (sym c.in-Some.ensures) c.requires)

pub returns-in-None : goal.returns-in-None
returns-in-None c =
    let v : JobsState = c.args.jobs.now in ap (λ (js : List JobState). record v { jobs = js }) (no_job_heard c.args.call.now v.jobs (sym c.in-None.ensures) c.requires)
