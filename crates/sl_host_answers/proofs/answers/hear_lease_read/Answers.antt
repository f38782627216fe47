use Rattle.sl_host_answers.proofs.WholeAnswersStand.{finished, known_then, told_known}
use Rattle.sl_host_answers.proofs.answers.hear_lease_read.Goals as goal
use Rattle.sl_host_answers.specs.WholeAnswers.{due_for}
use Rattle.sl_host_state.specs.KeptState.{HostKept}
use Rattle.sl_trace.specs.declared.effects.Purpose.TheVariants.{Lease}
use Rattle.sl_trace.specs.declared.input.Answer.TheVariants.{Read}
use Rattle.std.proofs.Common.{None, ap, ◌∙◌}

pub hear_lease_read-told-requires-clause-reads : goal.hear_lease_read-told-requires-clause-reads
hear_lease_read-told-requires-clause-reads g c = (c.requires.fits.lease c.args.work c.args.step c.requires.purpose).1

pub hear_lease_read-told-requires-clause-many : goal.hear_lease_read-told-requires-clause-many
hear_lease_read-told-requires-clause-many g c = (c.requires.fits.lease c.args.work c.args.step c.requires.purpose).2

pub answer_lease_read-requires-clause-known : goal.answer_lease_read-requires-clause-known
answer_lease_read-requires-clause-known g c =
    let bytes = g.S.Sectors.bytes c.args.sectors.now in
    let call = c.args.call.now in
    let old : HostKept = c.args.host.now.kept in
    let heard : HostKept = c.hear_lease_read-told.new.self.kept in (
      bytes,
      told_known old heard call c.args.work c.args.step bytes c.hear_lease_read-told.result c.hear_lease_read-told.new.blocks.blocks c.as_slice.result.now c.hear_lease_read-told.ensures.run.0
          c.as_slice.ensures.exact c.hear_lease_read-told.ensures.told
          (known_then old heard call (Read bytes) (Lease c.args.work c.args.step) c.requires.may c.requires.purpose c.hear_lease_read-told.ensures.state),
    )

pub returns-clause-state : goal.returns-clause-state
returns-clause-state g c read =
    let bytes = g.S.Sectors.bytes c.args.sectors.now in
    let p = Lease c.args.work c.args.step in
    let call = c.args.call.now in
    let old : HostKept = c.args.host.now.kept in
    let heard : HostKept = c.hear_lease_read-told.new.self.kept in
    c.answer_lease_read.ensures.state bytes
    (told_known old heard call c.args.work c.args.step bytes c.hear_lease_read-told.result c.hear_lease_read-told.new.blocks.blocks c.as_slice.result.now c.hear_lease_read-told.ensures.run.0 c.as_slice.ensures.exact
    c.hear_lease_read-told.ensures.told (known_then old heard call (Read bytes) p c.requires.may c.requires.purpose c.hear_lease_read-told.ensures.state))
    read
    ∙ (ap (due_for p call (Read bytes) None) (c.hear_lease_read-told.ensures.state read) ∙ finished read old call (Read bytes) c.requires.may p c.requires.purpose)
