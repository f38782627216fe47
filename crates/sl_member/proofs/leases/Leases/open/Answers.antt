use Rattle.sl_host_state.specs.MadeEffects.{new_lease}
use Rattle.sl_member.proofs.LeasesByPlace.{gap_in, gap_rises, room_for, with_new, with_there}
use Rattle.sl_member.proofs.leases.Leases.open.Goals as goal
use Rattle.sl_member.specs.Leases.{AreByPlace, LeasesState}
use Rattle.std.proofs.Common.{ap, arith, insert, subst, sym, ◌<◌, ◌∙◌}

pub overflow_sub-self : goal.overflow_sub-self
overflow_sub-self c =
    let some : 0 < c.self.inside.room =
    room_for c.args.at c.args.self.now c.deref.result.now c.self.inside.items.items c.self.inside.room c.in-Err.place c.self.invariant.0 c.deref.ensures.value
    c.in-Err.ensures.gap c.self.view_is c.requires
    in
    omega (arith, some)

pub unreachable-requires : goal.unreachable-requires
unreachable-requires c =
    let some : 0 < c.self.inside.room =
    room_for c.args.at c.args.self.now c.deref.result.now c.self.inside.items.items c.self.inside.room c.in-Err.place c.self.invariant.0 c.deref.ensures.value
    c.in-Err.ensures.gap c.self.view_is c.requires
    in
    omega (arith, some, c.self.invariant.1, c.in-Err-insert.ensures.full)

pub invariant_of-self-in-Ok-insert : goal.invariant_of-self-in-Ok-insert
invariant_of-self-in-Ok-insert c =
    let i = c.self.invariant in
    let items = c.self.inside.items.items in
    let some : 0 < c.self.inside.room =
    room_for c.args.at c.args.self.now c.deref.result.now items c.self.inside.room c.in-Err.place i.0 c.deref.ensures.value c.in-Err.ensures.gap c.self.view_is c.requires
    in
    let e = c.in-Ok-insert.ensures in (
      subst AreByPlace (sym (e.items ∙ ap (insert items c.in-Err.place) c.new.ensures))
          (gap_rises (new_lease c.args.at) items c.in-Err.place i.0 (gap_in c.args.at _ items c.in-Err.place c.deref.ensures.value c.in-Err.ensures.gap)),
      omega (arith, some, i.1, e.len, e.capacity),
    )

pub returns-in-Ok-clause-leases : goal.returns-in-Ok-clause-leases
returns-in-Ok-clause-leases c =
    ap (λ (w : LeasesState). w.leases) c.self.view_is
    ∙ (with_there c.args.at c.args.self.now c.deref.result.now c.self.inside.items.items c.self.inside.room c.in-Ok.place c.deref.ensures.value c.in-Ok.ensures.found c.self.view_is).0

pub returns-in-Ok-clause-room : goal.returns-in-Ok-clause-room
returns-in-Ok-clause-room c =
    ap (λ (w : LeasesState). w.room) c.self.view_is
    ∙ (with_there c.args.at c.args.self.now c.deref.result.now c.self.inside.items.items c.self.inside.room c.in-Ok.place c.deref.ensures.value c.in-Ok.ensures.found c.self.view_is).1

pub returns-in-Ok-insert-clause-leases : goal.returns-in-Ok-insert-clause-leases
returns-in-Ok-insert-clause-leases c =
    c.in-Ok-insert.ensures.items ∙ ap (insert c.self.inside.items.items c.in-Err.place) c.new.ensures
    ∙ (with_new c.args.at c.args.self.now c.deref.result.now c.self.inside.items.items c.self.inside.room c.in-Err.place c.self.invariant.0 c.deref.ensures.value
    c.in-Err.ensures.gap c.self.view_is).0

pub returns-in-Ok-insert-clause-room : goal.returns-in-Ok-insert-clause-room
returns-in-Ok-insert-clause-room c =
    (with_new c.args.at c.args.self.now c.deref.result.now c.self.inside.items.items c.self.inside.room c.in-Err.place c.self.invariant.0 c.deref.ensures.value c.in-Err.ensures.gap
    c.self.view_is).1
