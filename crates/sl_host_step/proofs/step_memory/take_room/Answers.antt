use Rattle.sl_host_passes.specs.PassesLessen.{leases_in}
use Rattle.sl_host_step.proofs.RoomsStand.{counted_all, few_counted, room_taken}
use Rattle.sl_host_step.proofs.step_memory.take_room.Goals as goal
use Rattle.sl_host_step.specs.StepMemory.{counts_within, room_end}
use Rattle.sl_host_step.specs.declared.step_memory.Counts.{Counts}
use Rattle.std.proofs.Common.{ap, subst, sym, ◌∙◌}
use Rattle.std.specs.Prelude.{◌<◌}

pub reserve-requires-clause-jobs : goal.reserve-requires-clause-jobs
reserve-requires-clause-jobs c =
    let counts = c.of-counts.result in
    let few = few_counted counts.jobs counts.holdings counts.leases counts.seats (sym c.are_many.ensures ∙ c.if-are_many.false) in
    subst (λ (n : Counts). n.jobs < room_end) c.of-counts.ensures few.0

pub reserve-requires-clause-leases : goal.reserve-requires-clause-leases
reserve-requires-clause-leases c =
    let counts = c.of-counts.result in
    let few = few_counted counts.jobs counts.holdings counts.leases counts.seats (sym c.are_many.ensures ∙ c.if-are_many.false) in
    counted_all (leases_in c.args.host.now.kept.members) counts.leases (ap (λ (n : Counts). n.leases) c.of-counts.ensures) few.1

pub returns-clause-ok : goal.returns-clause-ok
returns-clause-ok c =
    let old = c.args.host.now in
    let near = c.within-near.ensures ∙ ap (λ (n : Counts). counts_within c.args.reach n) c.of-counts.ensures in
    let taken = c.in_ok-reserve-2.ensures in (
      room_taken c.args.reach old c.reserve-2.new.self c.within-near.result c.effects.result c.calls.result near c.effects.ensures taken.few.0 c.calls.ensures taken.few.1 taken.ok taken.entries,
      c.in_ok-reserve.ensures.ok,
    )
