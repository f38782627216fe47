-- A call of one of the members: what is kept then.
use Rattle.sl_area.specs.AreaSizes.{layout_of}
use Rattle.sl_host_state.specs.KeptState.{MemberState}
use Rattle.sl_member.proofs.MembersByNumber.{at_changed, at_found, has_number, is_at, member_at, members_as, none_at, none_changed, none_found, run_kept, set_members, state_kept, states}
use Rattle.sl_member.specs.Leases.{begins_lease}
use Rattle.sl_member.specs.Members.{MemberKept, RunOf, kept_called, member_called}
use Rattle.sl_member.specs.HostMembers.{AreMembers, MembersState, begins_among, changed_member, member_with, number_of}
use Rattle.sl_trace.specs.Traces.{Submitted}
use Rattle.sl_words.proofs.CaseLaws.{some_value}
use Rattle.sl_words.specs.Words.{some_is}
use Rattle.std.proofs.Common.{ap, arith, subst, sym, ◌∙◌}
use Rattle.std.proofs.lemmas.List.{map-set}
use Rattle.std.specs.Prelude.{Bool, List, None, Some, cond, false, position, slice_index_or, slice_set, true, ℕ, ◌-◌, ◌<◌, ◌≡◌, ◌≤◌}

-- Whether it begins a lease, as the list says.
pub among_is : (v : MembersState) (m : Submitted) (x : MemberKept) → member_with m.call.session v.members ≡ Some x.state → x.run ≡ v.run
    → begins_among v.run m v.members ≡ begins_lease (layout_of x.run.sizes) m x.state.leases
among_is v m x state run =
    ap (some_is (λ (s : MemberState). begins_lease (layout_of v.run.sizes) m s.leases)) state ∙ ap (λ (r : RunOf). begins_lease (layout_of r.sizes) m x.state.leases) (sym run)

-- There is room for the lease that it begins.
pub room_at : (v : MembersState) (run : RunOf) (ms : List MemberKept) (most room k : ℕ) (m : Submitted) (x : MemberKept) → AreMembers run room ms
    → position (has_number m.call.session) ms ≡ Some k → x ≡ slice_index_or ms k x → members_as run ms most room ≡ v → (begins_among v.run m v.members ≡ true → 0 < v.room)
    → begins_lease (layout_of x.run.sizes) m x.state.leases ≡ true → (0 < room) × (0 < x.room)
room_at v run ms most room k m x i found is view has begins =
    let n : ℕ = m.call.session in
    let state : member_with n v.members ≡ Some x.state = state_kept v run ms most room n k x i found is view in
    let same : x.run ≡ v.run = run_kept v run ms most room n k x i found is view in
    let some : 0 < v.room = has (among_is v m x state same ∙ begins) in
    let here : room ≡ v.room = ap (λ (w : MembersState). w.room) view in
    let more : room ≤ x.room = (member_at run room ms n k x i (is_at n ms k x found is)).1 in
    (omega (arith, some, here), omega (arith, some, here, more))

fewer : (b : Bool) (room : ℕ) → cond b (room - 1) room ≤ room
fewer true room = omega arith
fewer false room = omega arith

left_of : (b : Bool) (room more : ℕ) → room ≤ more → cond b (room - 1) room ≤ cond b (more - 1) more
left_of true room more le = omega (arith, le)
left_of false room more le = le

pub called_members : (run : RunOf) (room less : ℕ) (ms : List MemberKept) (k : ℕ) (m : Submitted) (x y : MemberKept) (b : Bool) → AreMembers run room ms
    → position (has_number m.call.session) ms ≡ Some k → x ≡ slice_index_or ms k x → y ≡ kept_called m x → b ≡ begins_lease (layout_of x.run.sizes) m x.state.leases
    → less ≡ cond b (room - 1) room → AreMembers run less (slice_set ms k y)
called_members run room less ms k m x y b i found is made begins left =
    let n : ℕ = m.call.session in
    let at = is_at n ms k x found is in
    let more : room ≤ x.room = (member_at run room ms n k x i at).1 in
    let few : cond b (room - 1) room ≤ room = fewer b room in
    let many : cond b (room - 1) room ≤ cond b (x.room - 1) x.room = left_of b room x.room more in
    let y_room : y.room ≡ cond b (x.room - 1) x.room = ap (λ (z : MemberKept). z.room) made ∙ ap (λ t. cond t (x.room - 1) x.room) (sym begins) in
    set_members run room less ms n k x y i at (omega (arith, few, left)) (ap (λ (z : MemberKept). z.run) made) (omega (arith, many, left, y_room)) (ap number_of made)

pub called_kept : (v : MembersState) (run : RunOf) (ms : List MemberKept) (most room less k : ℕ) (m : Submitted) (x y : MemberKept) (b : Bool) → AreMembers run room ms
    → position (has_number m.call.session) ms ≡ Some k → x ≡ slice_index_or ms k x → y ≡ kept_called m x → b ≡ begins_lease (layout_of x.run.sizes) m x.state.leases
    → less ≡ cond b (room - 1) room → members_as run ms most room ≡ v
    → members_as run (slice_set ms k y) most less
    ≡ record v { members = changed_member m.call.session (member_called (layout_of v.run.sizes) m) v.members; room = cond (begins_among v.run m v.members) (v.room - 1) v.room }
called_kept v run ms most room less k m x y b i found is made begins left view =
    let n : ℕ = m.call.session in
    let at = is_at n ms k x found is in
    let here : x.run ≡ run = (member_at run room ms n k x i at).0 in
    let w : MembersState = members_as run ms most room in
    let among : begins_among run m (states ms) ≡ begins_lease (layout_of x.run.sizes) m x.state.leases = among_is w m x (at_found n ms k x i.apart at) here in
    let P : List MemberState → ℕ → MembersState = λ ss r. record { run = run; members = ss; most = most; room = r } in
    subst (λ (w : MembersState). P (states (slice_set ms k y)) less
    ≡ record w { members = changed_member n (member_called (layout_of w.run.sizes) m) w.members; room = cond (begins_among w.run m w.members) (w.room - 1) w.room }) view
    (ap (λ ss. P ss less)
    (map-set (λ (z : MemberKept). z.state) ms k y
    ∙ (ap (λ (z : MemberKept). slice_set (states ms) k z.state) made ∙ ap (λ (r : RunOf). slice_set (states ms) k (member_called (layout_of r.sizes) m x.state)) here
    ∙ sym (at_changed n (member_called (layout_of run.sizes) m) ms k x i.apart at)))
    ∙ ap (λ r. P (changed_member n (member_called (layout_of run.sizes) m) (states ms)) r)
    (left ∙ ap (λ t. cond t (room - 1) room) (begins ∙ sym among)))

pub nobody_called : (v : MembersState) (run : RunOf) (ms : List MemberKept) (most room : ℕ) (m : Submitted) → position (has_number m.call.session) ms ≡ None
    → members_as run ms most room ≡ v
    → v ≡ record v { members = changed_member m.call.session (member_called (layout_of v.run.sizes) m) v.members; room = cond (begins_among v.run m v.members) (v.room - 1) v.room }
nobody_called v run ms most room m none view =
    let n : ℕ = m.call.session in
    let off = none_at n ms none in
    let P : List MemberState → ℕ → MembersState = λ ss r. record { run = run; members = ss; most = most; room = r } in
    subst (λ (w : MembersState). w
    ≡ record w { members = changed_member n (member_called (layout_of w.run.sizes) m) w.members; room = cond (begins_among w.run m w.members) (w.room - 1) w.room }) view
    (sym (ap (λ ss. P ss (cond (begins_among run m (states ms)) (room - 1) room)) (none_changed n (member_called (layout_of run.sizes) m) ms off)
    ∙ ap (λ t. P (states ms) (cond t (room - 1) room)) (ap (some_is (λ (s : MemberState). begins_lease (layout_of run.sizes) m s.leases)) (none_found n ms off))))

-- What is read twice at a place is one.
pub one_item : (n : ℕ) (ms : List MemberKept) (k : ℕ) (x z : MemberKept) → position (has_number n) ms ≡ Some k → x ≡ slice_index_or ms k x → z ≡ slice_index_or ms k z → x ≡ z
one_item n ms k x z found a b = some_value x z (sym (is_at n ms k x found a).there ∙ (is_at n ms k z found b).there)
