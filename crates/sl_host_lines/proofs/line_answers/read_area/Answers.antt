use Rattle.sl_host_state.specs.HeardInputs.{heard_line}
use Rattle.sl_host_state.specs.KeptState.{HostState, state_of}
use Rattle.sl_host_state.specs.MadeEffects.{with_call}
use Rattle.sl_host_lines.proofs.line_answers.read_area.Goals as goal
use Rattle.sl_trace.specs.declared.effects.LeaseStep.TheVariants.{ReadArea}
use Rattle.sl_trace.specs.declared.effects.Op.TheVariants.{ReadSectors}
use Rattle.sl_trace.specs.declared.effects.Purpose.TheVariants.{Lease}
use Rattle.sl_trace.specs.declared.effects.Work.TheVariants.{ForJob}
use Rattle.std.proofs.Common.{ap, ℕ, ◌∙◌}

pub returns-clause-state : goal.returns-clause-state
returns-clause-state c read =
    let h = state_of read c.args.host.now.kept in
    let s = c.args.session.now.number in
    let r = c.args.resource.now in
    let F : ℕ → ℕ → HostState → HostState = λ j n g. with_call s r.path (Lease (ForJob j) (ReadArea r.name)) r.offset (ReadSectors n) g in
    c.call.ensures.state read
    ∙ (ap (λ g. F c.begin-job.result c.area_sectors-sectors.result g) (c.begin-job.ensures.state read)
    ∙ (ap (λ j. F j c.area_sectors-sectors.result (heard_line c.args.command.now h)) c.begin-job.ensures.job
    ∙ ap (λ n. F h.next_job n (heard_line c.args.command.now h)) c.area_sectors-sectors.ensures))
