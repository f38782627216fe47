use Rattle.sl_host_lines.proofs.HeardKnown.{count_heard, new_heard}
use Rattle.sl_host_lines.proofs.SeatsStand.{seat_heard}
use Rattle.sl_host_lines.proofs.line_sessions.join.Goals as goal
use Rattle.sl_host_state.specs.HeardInputs.{heard_line}
use Rattle.sl_host_state.specs.KeptState.{HostState, state_of}
use Rattle.sl_host_state.specs.MadeEffects.{with_joining}
use Rattle.sl_trace.specs.declared.effects.JoinStep.TheVariants.{FirstRead}
use Rattle.sl_trace.specs.declared.effects.Op.TheVariants.{ReadSectors}
use Rattle.sl_trace.specs.declared.effects.Purpose.TheVariants.{Joining}
use Rattle.std.proofs.Common.{ap, arith, ℕ, ◌∙◌}

pub join-requires-clause-run : goal.join-requires-clause-run
join-requires-clause-run c =
    (seat_heard c.args.command.now c.args.host.now c.begin-job.new.host c.begin-job.ensures.state c.begin-job.ensures.run c.begin-job.ensures.calls c.begin-job.result c.begin-job.ensures.job c.args.lockspace.now c.args.seat c.requires.seat).run

pub join-requires-clause-blank : goal.join-requires-clause-blank
join-requires-clause-blank c =
    (seat_heard c.args.command.now c.args.host.now c.begin-job.new.host c.begin-job.ensures.state c.begin-job.ensures.run c.begin-job.ensures.calls c.begin-job.result c.begin-job.ensures.job c.args.lockspace.now c.args.seat c.requires.seat).blank

pub join-requires-clause-room : goal.join-requires-clause-room
join-requires-clause-room c =
    (seat_heard c.args.command.now c.args.host.now c.begin-job.new.host c.begin-job.ensures.state c.begin-job.ensures.run c.begin-job.ensures.calls c.begin-job.result c.begin-job.ensures.job c.args.lockspace.now c.args.seat c.requires.seat).room

pub join-requires-clause-new : goal.join-requires-clause-new
join-requires-clause-new c = new_heard c.args.command.now c.args.host.now c.begin-job.new.host c.begin-job.ensures.state c.requires.new

pub join-requires-clause-few : goal.join-requires-clause-few
join-requires-clause-few c =
    let same = count_heard c.args.command.now c.args.host.now c.begin-job.new.host c.begin-job.ensures.state in
    omega (arith, same, c.requires.few)

pub returns-clause-state : goal.returns-clause-state
returns-clause-state c n read =
    let h = state_of read c.args.host.now.kept in
    let a = c.args.lockspace.now in
    let F : ℕ → ℕ → HostState → HostState = λ j o z. with_joining j a (Joining j FirstRead) o (ReadSectors 1) z in
    c.join.ensures.state read
    ∙ (ap (λ z. F c.begin-job.result c.id_sector-offset.result z) (c.begin-job.ensures.state read)
    ∙ (ap (λ j. F j c.id_sector-offset.result (heard_line c.args.command.now h)) c.begin-job.ensures.job
    ∙ ap (λ o. F h.next_job o (heard_line c.args.command.now h)) c.id_sector-offset.ensures))
