use Rattle.sl_world_state.specs.Changes.{disowned}
use Rattle.sl_wdmd.proofs.MappedLists.{mapped_all, mapped_one}
use Rattle.sl_machine.proofs.flights.disown_all.Goals as goal
use Rattle.std.proofs.Common.{arith}

pub index_mut-requires : goal.index_mut-requires
index_mut-requires c = let l = c.loop-index.invariant.1 in omega (arith, l)

pub loop-index-preserved : goal.loop-index-preserved
loop-index-preserved c =
    let l = c.args.items.now.ok in (
      mapped_one disowned c.args.items.now.items c.loop-index.items.items c.loop-index.index _ c.disown.new.self c.loop-index.invariant.0 (omega (arith, l)) c.index_mut.ensures.value
          c.disown.ensures,
      c.loop-index.invariant.1,
    )

pub returns : goal.returns
returns c =
    let l = c.args.items.now.ok in
    mapped_all disowned c.args.items.now.items c.loop-index.items.items c.loop-index.index c.loop-index.invariant.0 (omega (arith, l))
