use Rattle.indexmap.specs.IndexMap.{get, spare}
use Rattle.sl_tables.proofs.HoldingsStand.{index_same, room_kept}
use Rattle.sl_tables.proofs.holdings.Holdings.reserve.Goals as goal
use Rattle.sl_tables.specs.Holdings.{is_held_at, is_of_process}
use Rattle.sl_trace.specs.Traces.{same_spot}
use Rattle.std.proofs.Common.{arith, nat_eq, refl}

pub invariant_of-self : goal.invariant_of-self
invariant_of-self c =
    let held = c.self.inside.held in
    let i = c.self.invariant in (
      index_same is_held_at (get same_spot c.self.inside.areas) (get same_spot c.reserve_index.new.firsts) (spare c.self.inside.areas) (spare c.reserve_index.new.firsts) held held c.reserve_index.ensures.firsts refl refl
          (omega (arith, i.0.2, c.reserve_index.ensures.room)) i.0,
      i.1,
    )

pub invariant_of-self-in_err-reserve_index-2 : goal.invariant_of-self-in_err-reserve_index-2
invariant_of-self-in_err-reserve_index-2 c =
    let held = c.self.inside.held in
    let i = c.self.invariant in (
      index_same is_held_at (get same_spot c.self.inside.areas) (get same_spot c.reserve_index.new.firsts) (spare c.self.inside.areas) (spare c.reserve_index.new.firsts) held held c.reserve_index.ensures.firsts refl refl
          (omega (arith, i.0.2, c.reserve_index.ensures.room)) i.0,
      index_same is_of_process (get nat_eq c.self.inside.processes) (get nat_eq c.reserve_index-2.new.firsts) (spare c.self.inside.processes) (spare c.reserve_index-2.new.firsts) held held c.reserve_index-2.ensures.firsts refl refl
          (omega (arith, i.1.2, c.reserve_index-2.ensures.room)) i.1,
    )

pub invariant_of-self-2 : goal.invariant_of-self-2
invariant_of-self-2 c =
    let held = c.self.inside.held in
    let after = c.reserve.new.self in
    let i = c.self.invariant in (
      index_same is_held_at (get same_spot c.self.inside.areas) (get same_spot c.reserve_index.new.firsts) (spare c.self.inside.areas) (spare c.reserve_index.new.firsts) held after c.reserve_index.ensures.firsts
          c.reserve.ensures.items.0 c.reserve.ensures.items.1
          (room_kept c.reserve.result held.room c.args.room after.room (spare c.self.inside.areas) (spare c.reserve_index.new.firsts) c.reserve.ensures.ok c.reserve.ensures.err i.0.2 c.reserve_index.ensures.room c.in_ok-reserve_index.ensures.ok)
          i.0,
      index_same is_of_process (get nat_eq c.self.inside.processes) (get nat_eq c.reserve_index-2.new.firsts) (spare c.self.inside.processes) (spare c.reserve_index-2.new.firsts) held after c.reserve_index-2.ensures.firsts
          c.reserve.ensures.items.0 c.reserve.ensures.items.1
          (room_kept c.reserve.result held.room c.args.room after.room (spare c.self.inside.processes) (spare c.reserve_index-2.new.firsts) c.reserve.ensures.ok c.reserve.ensures.err i.1.2 c.reserve_index-2.ensures.room
          c.in_ok-reserve_index-2.ensures.ok)
          i.1,
    )
