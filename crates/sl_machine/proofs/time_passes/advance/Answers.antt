use Rattle.sl_world_state.specs.Refusals.{reads_past}
use Rattle.sl_machine.proofs.PlainNumbered.{goes_one, gone_all, may_go}
use Rattle.sl_machine.proofs.time_passes.advance.Goals as goal
use Rattle.sl_machine.specs.Machines.{machine_state}
use Rattle.sl_machine.specs.ClocksGoOn.{clock_later}
use Rattle.std.proofs.Common.{ap, arith, ◌+◌, ◌∙◌}

pub go_on-requires : goal.go_on-requires
go_on-requires g c =
    let l = c.args.machines.now.ok in
    let st = machine_state g.L.LockTable.locks in
    ap (λ a. reads_past c.args.time c.args.growths.now (c.loop-index.index + 1, st a)) c.index_mut.ensures.value
    ∙ may_go (clock_later c.args.time c.args.growths.now) (λ p. reads_past c.args.time c.args.growths.now (p.0 + 1, st p.1)) c.args.machines.now.items c.loop-index.machines.items
    c.loop-index.index _ c.loop-index.invariant.0 c.requires (omega (arith, l))

pub loop-index-preserved : goal.loop-index-preserved
loop-index-preserved g c =
    let l = c.args.machines.now.ok in (
      goes_one (clock_later c.args.time c.args.growths.now) c.args.machines.now.items c.loop-index.machines.items c.loop-index.index c.index_mut.result.now c.go_on.new.self
          c.loop-index.invariant.0 (omega (arith, l)) (c.go_on.ensures ∙ ap (λ a. clock_later c.args.time c.args.growths.now (c.loop-index.index, a)) c.index_mut.ensures.value),
      c.loop-index.invariant.1,
    )

pub returns : goal.returns
returns g c =
    let l = c.args.machines.now.ok in
    gone_all (clock_later c.args.time c.args.growths.now) c.args.machines.now.items c.loop-index.machines.items c.loop-index.index c.loop-index.invariant.0 (omega (arith, l))
