use Rattle.sl_host_law.specs.StepParts.Recoveries.{recovering_in}
use Rattle.sl_host_law.specs.StepParts.Signals.{over}
use Rattle.sl_host_law.specs.Steps.Passes.{at_member, for_members}
use Rattle.sl_host_passes.proofs.LessIsLeft.{lessened, no_more}
use Rattle.sl_host_passes.proofs.PartsLessen.{by_recovering, for_all}
use Rattle.sl_host_passes.proofs.RefusedJobsGo.{holders_as_among}
use Rattle.sl_host_passes.proofs.due_before_input.recover_all.Goals as goal
use Rattle.sl_host_passes.specs.PassesLessen.{holders_among}
use Rattle.sl_host_state.specs.KeptState.{state_of}
use Rattle.std.proofs.Common.{ap, arith, ◌∙◌}

pub recover_noted-requires-clause-left : goal.recover_noted-requires-clause-left
recover_noted-requires-clause-left c =
    let first = c.args.host.now.kept in
    let same = ap (λ v. holders_among v.items first.holdings) c.note_members.ensures in
    let all = holders_as_among first.members first.holdings in
    let few = c.few_holders.ensures in
    omega (arith, same, all, few, c.requires.left)

pub returns-clause-state : goal.returns-clause-state
returns-clause-state c read =
    c.recover_noted.ensures.state read ∙ ap (λ v. over v.items (λ n. at_member n recovering_in) (state_of read c.args.host.now.kept)) c.note_members.ensures

pub returns-clause-left : goal.returns-clause-left
returns-clause-left c =
    let first = c.args.host.now.kept in
    let same = ap (λ v. holders_among v.items first.holdings) c.note_members.ensures in
    let all = holders_as_among first.members first.holdings in
    let few = c.few_holders.ensures in
    (omega (arith, same, all, few, c.recover_noted.ensures.left.0), c.recover_noted.ensures.left.1)

pub returns-clause-fewer : goal.returns-clause-fewer
returns-clause-fewer c =
    no_more c.args.host.now.kept c.recover_noted.new.host.kept
    (lessened c.args.host.now c.recover_noted.new.host (for_members recovering_in) (for_all recovering_in by_recovering)
    (λ read. c.recover_noted.ensures.state read ∙ ap (λ v. over v.items (λ n. at_member n recovering_in) (state_of read c.args.host.now.kept)) c.note_members.ensures))
