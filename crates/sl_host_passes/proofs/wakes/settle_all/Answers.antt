use Rattle.sl_host_law.specs.StepParts.Signals.{over}
use Rattle.sl_host_law.specs.Steps.Passes.{at_member}
use Rattle.sl_host_law.specs.Steps.WakePasses.{settling_all}
use Rattle.sl_host_passes.proofs.wakes.settle_all.Goals as goal
use Rattle.sl_host_passes.specs.PassesLessen.{leases_among}
use Rattle.sl_host_state.specs.KeptState.{state_of}
use Rattle.std.proofs.Common.{ap, arith, ◌∙◌}

pub settle_members-requires-clause-left : goal.settle_members-requires-clause-left
settle_members-requires-clause-left c =
    let same = ap (λ v. leases_among v.items c.args.host.now.kept.members) c.note_members.ensures in omega (arith, same, c.few_leases.ensures, c.requires.left)

pub settle_members-requires-clause-calls : goal.settle_members-requires-clause-calls
settle_members-requires-clause-calls c =
    let same = ap (λ v. leases_among v.items c.args.host.now.kept.members) c.note_members.ensures in omega (arith, same, c.few_leases.ensures, c.requires.calls)

pub returns-clause-state : goal.returns-clause-state
returns-clause-state c read = c.settle_members.ensures.state read ∙ ap (λ v. over v.items (λ n. at_member n settling_all) (state_of read c.args.host.now.kept)) c.note_members.ensures

pub returns-clause-left : goal.returns-clause-left
returns-clause-left c =
    let same = ap (λ v. leases_among v.items c.args.host.now.kept.members) c.note_members.ensures in
    (omega (arith, same, c.few_leases.ensures, c.settle_members.ensures.left.0), omega (arith, same, c.few_leases.ensures, c.settle_members.ensures.left.1))
