use Rattle.sl_disks.specs.Disks.{DisksState}
use Rattle.sl_world_state.specs.KeptWorld.{sector_of_call}
use Rattle.sl_machine.proofs.PlainRanges.{flat_more}
use Rattle.sl_machine.proofs.calls.gather.Goals as goal
use Rattle.std.proofs.Common.{ap₂, sym, ℕ, ◌++◌, ◌∙◌}

pub loop-done-preserved : goal.loop-done-preserved
loop-done-preserved c = (
  c.in_ok-push_some.ensures
      ∙ ap₂ (λ xs ys. xs ++ ys) c.loop-done.invariant.0
      (c.in_ok-image.ensures.bytes ∙ ap₂ (λ (d : DisksState) (n : ℕ). sector_of_call d.sectors c.args.place n) c.loop-done.invariant.1 c.in_ok-number_of.ensures)
      ∙ sym (flat_more (sector_of_call c.args.disks.now.sectors c.args.place) c.args.first c.loop-done.done),
  c.sector_at.ensures.same ∙ c.loop-done.invariant.1,
)
