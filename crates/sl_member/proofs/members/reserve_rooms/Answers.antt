use Rattle.sl_member.proofs.MembersTogether.{roomier_itself, roomier_set}
use Rattle.sl_member.proofs.members.reserve_rooms.Goals as goal
use Rattle.sl_member.specs.Members.{MemberKept}
use Rattle.std.proofs.Common.{ap, arith, slice_index_or, ℕ, ◌≡◌, ◌≤◌}
use Rattle.std.proofs.lemmas.List.Elements.{AllWithin-more_set}

pub loop-member-init : goal.loop-member-init
loop-member-init c = record { kept = roomier_itself c.args.items.now; done = λ k d from to. absurd (omega (arith, to)) }

pub loop-member-preserved : goal.loop-member-preserved
loop-member-preserved c =
    let items = c.loop-member.items in
    let i : ℕ = c.loop-member.member-index in
    let x : MemberKept = slice_index_or items i c.member-item.result in
    let y : MemberKept = c.reserve.new.self in
    let made = c.in_ok-reserve.ensures.ok in
    let room : y.room ≡ _ = ap (λ (w : MemberKept). w.room) made in
    record {
      kept = roomier_set c.args.items.now items i x y c.loop-member.invariant.kept (ap (λ (d : MemberKept). slice_index_or items i d) c.member-item.is)
          (ap (λ (w : MemberKept). w.run) made) (ap (λ (w : MemberKept). w.state) made) (omega (arith, room));
      done = AllWithin-more_set items i y (omega (arith, c.loop-member-test.true)) (λ (m : MemberKept). c.args.room ≤ m.room) c.loop-member.invariant.done (omega (arith, room));
    }
