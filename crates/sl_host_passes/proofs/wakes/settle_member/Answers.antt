use Rattle.sl_host_law.specs.StepParts.Signals.{over}
use Rattle.sl_host_law.specs.Steps.Passes.{at_member}
use Rattle.sl_host_law.specs.Steps.WakePasses.{settling_here}
use Rattle.sl_host_passes.proofs.SettlingCalls.{noted_areas, noted_few, noted_has, settles_all}
use Rattle.sl_host_passes.proofs.wakes.settle_member.Goals as goal
use Rattle.sl_host_passes.specs.PassPremises.{AreAreas, HasLeases}
use Rattle.sl_host_state.specs.KeptState.{state_of}
use Rattle.std.proofs.Common.{ap, arith, subst, sym, ◌∙◌}
use Rattle.std.specs.Prelude.{length}

pub settle_noted-requires-clause-has : goal.settle_noted-requires-clause-has
settle_noted-requires-clause-has c =
    let k = c.args.host.now.kept in subst (λ v. HasLeases c.args.number v.items k.members) (sym c.note_spots.ensures) (noted_has c.args.number k.members)

pub settle_noted-requires-clause-areas : goal.settle_noted-requires-clause-areas
settle_noted-requires-clause-areas c =
    let k = c.args.host.now.kept in subst (λ v. AreAreas k.config.sizes v.items) (sym c.note_spots.ensures) (noted_areas k c.args.number c.requires.known)

pub settle_noted-requires-clause-left : goal.settle_noted-requires-clause-left
settle_noted-requires-clause-left c =
    let many = ap (λ v. length v.items) c.note_spots.ensures in let few = noted_few c.args.number c.args.host.now.kept.members in omega (arith, many, few, c.requires.left)

pub settle_noted-requires-clause-calls : goal.settle_noted-requires-clause-calls
settle_noted-requires-clause-calls c =
    let many = ap (λ v. length v.items) c.note_spots.ensures in let few = noted_few c.args.number c.args.host.now.kept.members in omega (arith, many, few, c.requires.calls)

pub returns-clause-state : goal.returns-clause-state
returns-clause-state c read =
    let h = state_of read c.args.host.now.kept in
    c.settle_noted.ensures.state read ∙ (ap (λ v. over v.items (λ at. at_member c.args.number (settling_here at)) h) c.note_spots.ensures ∙ settles_all c.args.number h)

pub returns-clause-left : goal.returns-clause-left
returns-clause-left c =
    let many = ap (λ v. length v.items) c.note_spots.ensures in
    let few = noted_few c.args.number c.args.host.now.kept.members in
    (omega (arith, many, few, c.settle_noted.ensures.left.0), omega (arith, many, few, c.settle_noted.ensures.left.1))
