use Rattle.sl_host_state.specs.KeptState.{MemberState}
use Rattle.sl_member.proofs.MembersTogether.{all_taken, on_err, roomier_kept, roomier_length, roomier_members, roomier_states, roomy_members}
use Rattle.sl_member.proofs.MembersByNumber.{members_as, states}
use Rattle.sl_member.proofs.members.Members.reserve.Goals as goal
use Rattle.sl_member.specs.Members.{MemberKept, RunOf}
use Rattle.sl_member.specs.HostMembers.{AreMembers, AreRoomier, MembersState}
use Rattle.std.proofs.Common.{List, ap, arith, drop, length, max, subst, sym, take, ℕ, ◌++◌, ◌≡◌, ◌∙◌}

pub invariant_of-self-in_err-reserve_more : goal.invariant_of-self-in_err-reserve_more
invariant_of-self-in_err-reserve_more c =
    let items : List MemberKept = c.self.inside.items.items in
    let more : List MemberKept = c.reserve_more.new.items in
    let run : RunOf = record { timing = c.self.inside.timing; sizes = c.self.inside.geometry; host = c.self.inside.host } in
    let roomier : AreRoomier items more = subst (λ (xs : List MemberKept). AreRoomier xs more) (c.deref_mut.ensures.value ∙ c.reserve_places.ensures.items.0) c.in_err-reserve_more.ensures.kept in
    let all : take c.reserve_places.new.items.len (more ++ drop (length more) c.reserve_places.new.items.items) ≡ more =
    all_taken c.reserve_places.new.items.len more c.reserve_places.new.items.items
    (roomier_length items more roomier ∙ sym (ap (λ (xs : List MemberKept). length xs) (c.deref_mut.ensures.value ∙ c.reserve_places.ensures.items.0)) ∙ c.deref_mut.ensures.len)
    in (
      subst (λ (xs : List MemberKept). AreMembers run c.self.inside.room xs) (sym all) (roomier_members run c.self.inside.room items more c.self.invariant.0 roomier),
      omega (arith, c.self.invariant.1, c.reserve_places.ensures.items.1),
      omega (arith, c.self.invariant.2, c.reserve_places.ensures.capacity),
    )

pub returns-in_err-reserve_more-clause-err : goal.returns-in_err-reserve_more-clause-err
returns-in_err-reserve_more-clause-err c =
    let items : List MemberKept = c.self.inside.items.items in
    let more : List MemberKept = c.reserve_more.new.items in
    let run : RunOf = record { timing = c.self.inside.timing; sizes = c.self.inside.geometry; host = c.self.inside.host } in
    let roomier : AreRoomier items more = subst (λ (xs : List MemberKept). AreRoomier xs more) (c.deref_mut.ensures.value ∙ c.reserve_places.ensures.items.0) c.in_err-reserve_more.ensures.kept in
    let all : take c.reserve_places.new.items.len (more ++ drop (length more) c.reserve_places.new.items.items) ≡ more =
    all_taken c.reserve_places.new.items.len more c.reserve_places.new.items.items
    (roomier_length items more roomier ∙ sym (ap (λ (xs : List MemberKept). length xs) (c.deref_mut.ensures.value ∙ c.reserve_places.ensures.items.0)) ∙ c.deref_mut.ensures.len)
    in
    on_err _ _ (ap (λ (xs : List MemberKept). members_as run xs c.self.inside.most c.self.inside.room) all
    ∙ roomier_kept c.args.self.now run items more c.self.inside.most c.self.inside.room roomier c.self.view_is)

pub invariant_of-self-2 : goal.invariant_of-self-2
invariant_of-self-2 c =
    let items : List MemberKept = c.self.inside.items.items in
    let more : List MemberKept = c.reserve_more.new.items in
    let run : RunOf = record { timing = c.self.inside.timing; sizes = c.self.inside.geometry; host = c.self.inside.host } in
    let roomier : AreRoomier items more = subst (λ (xs : List MemberKept). AreRoomier xs more) (c.deref_mut.ensures.value ∙ c.reserve_places.ensures.items.0) c.in_ok-reserve_more.ensures.kept in
    let all : take c.reserve_places.new.items.len (more ++ drop (length more) c.reserve_places.new.items.items) ≡ more =
    all_taken c.reserve_places.new.items.len more c.reserve_places.new.items.items
    (roomier_length items more roomier ∙ sym (ap (λ (xs : List MemberKept). length xs) (c.deref_mut.ensures.value ∙ c.reserve_places.ensures.items.0)) ∙ c.deref_mut.ensures.len)
    in (
      subst (λ (n : ℕ). AreMembers run n (take c.reserve_places.new.items.len (more ++ drop (length more) c.reserve_places.new.items.items))) (sym c.max-self-inside-2.ensures)
          (subst (λ (xs : List MemberKept). AreMembers run (max c.self.inside.room c.args.room) xs) (sym all)
          (roomy_members run c.self.inside.room c.args.room items more c.self.invariant.0 roomier c.in_ok-reserve_more.ensures.ok)),
      omega (arith, c.self.invariant.1, c.reserve_places.ensures.items.1, c.max-self-inside.ensures),
      omega (arith, c.self.invariant.2, c.reserve_places.ensures.capacity, c.in_ok-reserve_places.ensures.ok, c.max-self-inside.ensures),
    )

pub returns-clause-ok : goal.returns-clause-ok
returns-clause-ok c =
    let items : List MemberKept = c.self.inside.items.items in
    let more : List MemberKept = c.reserve_more.new.items in
    let run : RunOf = record { timing = c.self.inside.timing; sizes = c.self.inside.geometry; host = c.self.inside.host } in
    let roomier : AreRoomier items more = subst (λ (xs : List MemberKept). AreRoomier xs more) (c.deref_mut.ensures.value ∙ c.reserve_places.ensures.items.0) c.in_ok-reserve_more.ensures.kept in
    let all : take c.reserve_places.new.items.len (more ++ drop (length more) c.reserve_places.new.items.items) ≡ more =
    all_taken c.reserve_places.new.items.len more c.reserve_places.new.items.items
    (roomier_length items more roomier ∙ sym (ap (λ (xs : List MemberKept). length xs) (c.deref_mut.ensures.value ∙ c.reserve_places.ensures.items.0)) ∙ c.deref_mut.ensures.len)
    in
    let P : List MemberState → ℕ → ℕ → MembersState = λ ss p r. record { run = run; members = ss; most = p; room = r } in
    ap (λ (xs : List MemberKept). P (states xs) c.max-self-inside.result c.max-self-inside-2.result) all
    ∙ ap (λ ss. P ss c.max-self-inside.result c.max-self-inside-2.result) (roomier_states items more roomier)
    ∙ ap (λ p. P (states items) p c.max-self-inside-2.result) c.max-self-inside.ensures
    ∙ ap (λ r. P (states items) (max c.self.inside.most c.args.most) r) c.max-self-inside-2.ensures
    ∙ ap (λ (v : MembersState). record v { most = max v.most c.args.most; room = max v.room c.args.room }) c.self.view_is
