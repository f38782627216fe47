use Rattle.sl_host_law.specs.Answers.RefusalsFollow.{timing_out}
use Rattle.sl_host_law.specs.StepParts.Signals.{over}
use Rattle.sl_host_law.specs.Steps.Passes.{at_job}
use Rattle.sl_host_state.specs.KeptState.{state_of}
use Rattle.sl_host_passes.proofs.WholePasses.{all_chosen}
use Rattle.sl_host_passes.proofs.due_before_input.time_out_all.Goals as goal
use Rattle.std.proofs.Common.{ap, ◌∙◌}

pub returns-clause-state : goal.returns-clause-state
returns-clause-state c read =
    let first = c.args.host.now.kept in
    c.time_out_noted.ensures.state read
    ∙ (ap (λ v. over c.note_jobs.new.notes.items (λ n. at_job n timing_out) (state_of read v.kept)) c.note_jobs.ensures.same
    ∙ (ap (λ v. over v.items (λ n. at_job n timing_out) (state_of read first)) c.note_jobs.ensures.notes
    ∙ ap (λ ns. over ns (λ n. at_job n timing_out) (state_of read first)) (all_chosen first.jobs)))
