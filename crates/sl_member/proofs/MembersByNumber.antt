-- Members by number: where one stands, and what a change there makes of them.
use Rattle.sl_host_state.specs.KeptState.{MemberState}
use Rattle.sl_member.specs.Members.{MemberKept, RunOf}
use Rattle.sl_member.specs.HostMembers.{AreApart, AreMembers, MembersState, changed_member, member_with, number_of}
use Rattle.sl_words.proofs.Places.{position_found, position_none}
use Rattle.sl_words.proofs.CaseLaws.{none_some, some_value, true_is_false}
use Rattle.std.proofs.Common.{ap, arith, refl, subst, suc, sym, zero, ◌∙◌}
use Rattle.std.proofs.lemmas.Bool.Decides.{Decides-eqb}
use Rattle.std.proofs.lemmas.List.{map-set}
use Rattle.std.specs.List.{AllByRecursion}
use Rattle.std.specs.Prelude.{Bool, List, None, Some, cond, false, map, position, slice_get, slice_index_or, slice_set, true, [], ℕ, ◌==◌, ◌∷◌, ◌≡◌, ◌≤◌}

is_one : (n k : ℕ) → (n == k) ≡ true → n ≡ k
is_one n k h = (Decides-eqb n k).0 h

one_is : (n k : ℕ) → n ≡ k → (n == k) ≡ true
one_is n k h = (Decides-eqb n k).1 h

turned : (n k : ℕ) → (n == k) ≡ false → (k == n) ≡ false
turned n k h = by (k == n) refl where
  by : (b : Bool) → (k == n) ≡ b → (k == n) ≡ false
  by false is = is
  by true is = absurd (true_is_false (sym (one_is n k (sym (is_one k n is))) ∙ h))

-- Whether a member has the number.
abbrev pub has_number : ℕ → MemberKept → Bool
has_number n m = n == number_of m

-- Where the first of this number stands.
pub record IsAt (n : ℕ) (ms : List MemberKept) (k : ℕ) (x : MemberKept) : Type 0 where
  pub there : slice_get ms k ≡ Some x
  pub numbered : (n == number_of x) ≡ true

get_at : (ms : List MemberKept) (k : ℕ) (d x : MemberKept) → slice_get ms k ≡ Some x → slice_index_or ms k d ≡ x
get_at [] k d x h = absurd (none_some x h)
get_at (y ∷ ys) zero d x h = some_value y x h
get_at (y ∷ ys) (suc k) d x h = get_at ys k d x h

pub is_at : (n : ℕ) (ms : List MemberKept) (k : ℕ) (x : MemberKept) → position (has_number n) ms ≡ Some k → x ≡ slice_index_or ms k x → IsAt n ms k x
is_at n ms k x found is =
    let f = position_found (has_number n) ms k found in
    let same : x ≡ f.item = is ∙ get_at ms k x f.item f.there in
    record { there = f.there ∙ ap (λ z. Some z) (sym same); numbered = ap (has_number n) same ∙ f.passes }

further : {n : ℕ} {y : MemberKept} {ys : List MemberKept} {k : ℕ} {x : MemberKept} → IsAt n (y ∷ ys) (suc k) x → IsAt n ys k x
further {n} {y} {ys} {k} {x} h = record { there = h.there; numbered = h.numbered }

-- The states of members.
abbrev pub states : List MemberKept → List MemberState
states ms = map (λ m. m.state) ms

others_off : (n i : ℕ) (ms : List MemberKept) → (n == i) ≡ true → AllByRecursion (λ k. (i == k) ≡ false) (map number_of ms) → AllByRecursion (λ m. has_number n m ≡ false) ms
others_off n i [] is apart = tt
others_off n i (m ∷ ms) is apart = (subst (λ j. (j == number_of m) ≡ false) (sym (is_one n i is)) apart.0, others_off n i ms is apart.1)

head_off : (n : ℕ) (y : MemberKept) (ys : List MemberKept) (k : ℕ) (x : MemberKept) → IsAt n ys k x → AllByRecursion (λ j. (number_of y == j) ≡ false) (map number_of ys)
    → (n == number_of y) ≡ false
head_off n y [] k x h apart = absurd (none_some x h.there)
head_off n y (z ∷ zs) zero x h apart =
    let same : n ≡ number_of z = is_one n (number_of x) h.numbered ∙ sym (ap number_of (some_value z x h.there)) in
    subst (λ j. (j == number_of y) ≡ false) (sym same) (turned (number_of y) (number_of z) apart.0)
head_off n y (z ∷ zs) (suc k) x h apart = head_off n y zs k x (further h) apart.1

pub none_changed : (n : ℕ) (f : MemberState → MemberState) (ms : List MemberKept) → AllByRecursion (λ m. has_number n m ≡ false) ms → changed_member n f (states ms) ≡ states ms
none_changed n f [] off = refl
none_changed n f (m ∷ ms) off = ap (λ b. cond b (f m.state) m.state ∷ changed_member n f (states ms)) off.0 ∙ ap (λ zs. m.state ∷ zs) (none_changed n f ms off.1)

-- The one that changes is the one at its place.
pub at_changed : (n : ℕ) (f : MemberState → MemberState) (ms : List MemberKept) (k : ℕ) (x : MemberKept) → AreApart (map number_of ms) → IsAt n ms k x
    → changed_member n f (states ms) ≡ slice_set (states ms) k (f x.state)
at_changed n f [] k x apart h = absurd (none_some x h.there)
at_changed n f (y ∷ ys) zero x apart h =
    let same = some_value y x h.there in
    let on : (n == number_of y) ≡ true = ap (has_number n) same ∙ h.numbered in
    ap (λ b. cond b (f y.state) y.state ∷ changed_member n f (states ys)) on
    ∙ (ap (λ zs. f y.state ∷ zs) (none_changed n f ys (others_off n (number_of y) ys on apart.0)) ∙ ap (λ (z : MemberKept). f z.state ∷ states ys) same)
at_changed n f (y ∷ ys) (suc k) x apart h =
    ap (λ b. cond b (f y.state) y.state ∷ changed_member n f (states ys)) (head_off n y ys k x (further h) apart.0)
    ∙ ap (λ zs. y.state ∷ zs) (at_changed n f ys k x apart.1 (further h))

pub at_found : (n : ℕ) (ms : List MemberKept) (k : ℕ) (x : MemberKept) → AreApart (map number_of ms) → IsAt n ms k x → member_with n (states ms) ≡ Some x.state
at_found n [] k x apart h = absurd (none_some x h.there)
at_found n (y ∷ ys) zero x apart h =
    let same = some_value y x h.there in
    let on : (number_of y == n) ≡ true = one_is (number_of y) n (sym (is_one n (number_of y) (ap (has_number n) same ∙ h.numbered))) in
    ap (λ b. cond b (Some y.state) (member_with n (states ys))) on ∙ ap (λ (z : MemberKept). Some z.state) same
at_found n (y ∷ ys) (suc k) x apart h =
    ap (λ b. cond b (Some y.state) (member_with n (states ys))) (turned n (number_of y) (head_off n y ys k x (further h) apart.0)) ∙ at_found n ys k x apart.1 (further h)

off_from : (n : ℕ) (ms : List MemberKept) → ((k : ℕ) (x : MemberKept) → slice_get ms k ≡ Some x → has_number n x ≡ false) → AllByRecursion (λ m. has_number n m ≡ false) ms
off_from n [] h = tt
off_from n (m ∷ ms) h = (h 0 m refl, off_from n ms (λ k x there. h (suc k) x there))

pub none_at : (n : ℕ) (ms : List MemberKept) → position (has_number n) ms ≡ None → AllByRecursion (λ m. has_number n m ≡ false) ms
none_at n ms h = off_from n ms (λ k x there. position_none (has_number n) ms k x h there)

pub none_found : (n : ℕ) (ms : List MemberKept) → AllByRecursion (λ m. has_number n m ≡ false) ms → member_with n (states ms) ≡ None
none_found n [] off = refl
none_found n (m ∷ ms) off = ap (λ b. cond b (Some m.state) (member_with n (states ms))) (turned n (number_of m) off.0) ∙ none_found n ms off.1

-- ---- what is kept

numbers_stay : (ms : List MemberKept) (k : ℕ) (x y : MemberKept) → slice_get ms k ≡ Some x → number_of y ≡ number_of x → map number_of (slice_set ms k y) ≡ map number_of ms
numbers_stay [] k x y there same = refl
numbers_stay (z ∷ zs) zero x y there same = ap (λ i. i ∷ map number_of zs) (same ∙ sym (ap number_of (some_value z x there)))
numbers_stay (z ∷ zs) (suc k) x y there same = ap (λ is. number_of z ∷ is) (numbers_stay zs k x y there same)

lower : (run : RunOf) (room less : ℕ) (ms : List MemberKept) → less ≤ room → AllByRecursion (λ m. (m.run ≡ run) × (room ≤ m.room)) ms → AllByRecursion (λ m. (m.run ≡ run) × (less ≤ m.room)) ms
lower run room less [] le h = tt
lower run room less (m ∷ ms) le h = ((h.0.0, (let a : room ≤ m.room = h.0.1 in omega (arith, a, le))), lower run room less ms le h.1)

set_each : (run : RunOf) (less : ℕ) (ms : List MemberKept) (k : ℕ) (y : MemberKept) → y.run ≡ run → less ≤ y.room → AllByRecursion (λ m. (m.run ≡ run) × (less ≤ m.room)) ms
    → AllByRecursion (λ m. (m.run ≡ run) × (less ≤ m.room)) (slice_set ms k y)
set_each run less [] k y is has h = tt
set_each run less (m ∷ ms) zero y is has h = ((is, has), h.1)
set_each run less (m ∷ ms) (suc k) y is has h = (h.0, set_each run less ms k y is has h.1)

at_run : (run : RunOf) (room : ℕ) (ms : List MemberKept) (k : ℕ) (x : MemberKept) → AllByRecursion (λ m. (m.run ≡ run) × (room ≤ m.room)) ms → slice_get ms k ≡ Some x
    → (x.run ≡ run) × (room ≤ x.room)
at_run run room [] k x h there = absurd (none_some x there)
at_run run room (m ∷ ms) zero x h there = subst (λ (z : MemberKept). (z.run ≡ run) × (room ≤ z.room)) (some_value m x there) h.0
at_run run room (m ∷ ms) (suc k) x h there = at_run run room ms k x h.1 there

pub member_at : (run : RunOf) (room : ℕ) (ms : List MemberKept) (n k : ℕ) (x : MemberKept) → AreMembers run room ms → IsAt n ms k x → (x.run ≡ run) × (room ≤ x.room)
member_at run room ms n k x i h = at_run run room ms k x i.each h.there

-- With another in its place, of the same number and run.
pub set_members : (run : RunOf) (room less : ℕ) (ms : List MemberKept) (n k : ℕ) (x y : MemberKept) → AreMembers run room ms → IsAt n ms k x → less ≤ room → y.run ≡ x.run → less ≤ y.room
    → number_of y ≡ number_of x → AreMembers run less (slice_set ms k y)
set_members run room less ms n k x y i h le runs has same = record {
  each = set_each run less ms k y (runs ∙ (at_run run room ms k x i.each h.there).0) has (lower run room less ms le i.each);
  apart = subst AreApart (sym (numbers_stay ms k x y h.there same)) i.apart;
}

-- What is kept, by its parts.
abbrev pub members_as : RunOf → List MemberKept → ℕ → ℕ → MembersState
members_as run ms most room = record { run = run; members = states ms; most = most; room = room }

-- A member whose state alone changes.
pub record IsChanged (f : MemberState → MemberState) (x y : MemberKept) : Type 0 where
  pub made : y ≡ record x { state = f x.state }
  pub who : (s : MemberState) → (f s).who.number ≡ s.who.number

pub changed_members : (run : RunOf) (room : ℕ) (ms : List MemberKept) (n k : ℕ) (f : MemberState → MemberState) (x y : MemberKept) → AreMembers run room ms
    → position (has_number n) ms ≡ Some k → x ≡ slice_index_or ms k x → IsChanged f x y → AreMembers run room (slice_set ms k y)
changed_members run room ms n k f x y i found is h =
    let at = is_at n ms k x found is in
    set_members run room room ms n k x y i at (omega arith) (ap (λ (z : MemberKept). z.run) h.made)
    (let a : room ≤ x.room = (member_at run room ms n k x i at).1 in let b : y.room ≡ x.room = ap (λ (z : MemberKept). z.room) h.made in omega (arith, a, b))
    (ap number_of h.made ∙ h.who x.state)

pub changed_kept : (v : MembersState) (run : RunOf) (ms : List MemberKept) (most room n k : ℕ) (f : MemberState → MemberState) (x y : MemberKept) → AreMembers run room ms
    → position (has_number n) ms ≡ Some k → x ≡ slice_index_or ms k x → y ≡ record x { state = f x.state } → members_as run ms most room ≡ v
    → members_as run (slice_set ms k y) most room ≡ record v { members = changed_member n f v.members }
changed_kept v run ms most room n k f x y i found is made view =
    let at = is_at n ms k x found is in
    ap (λ ss. P ss) (map-set (λ (m : MemberKept). m.state) ms k y ∙ (ap (λ (z : MemberKept). slice_set (states ms) k z.state) made ∙ sym (at_changed n f ms k x i.apart at)))
    ∙ ap (λ (w : MembersState). record w { members = changed_member n f w.members }) view
  where
    P : List MemberState → MembersState
    P ss = record { run = run; members = ss; most = most; room = room }

pub none_kept : (v : MembersState) (run : RunOf) (ms : List MemberKept) (most room n : ℕ) (f : MemberState → MemberState) → position (has_number n) ms ≡ None
    → members_as run ms most room ≡ v → v ≡ record v { members = changed_member n f v.members }
none_kept v run ms most room n f none view =
    subst (λ (w : MembersState). w ≡ record w { members = changed_member n f w.members }) view
    (sym (ap (λ ss. P ss) (none_changed n f ms (none_at n ms none))))
  where
    P : List MemberState → MembersState
    P ss = record { run = run; members = ss; most = most; room = room }

-- The member at its place, as the list has it.
pub run_kept : (v : MembersState) (run : RunOf) (ms : List MemberKept) (most room n k : ℕ) (x : MemberKept) → AreMembers run room ms → position (has_number n) ms ≡ Some k
    → x ≡ slice_index_or ms k x → members_as run ms most room ≡ v → x.run ≡ v.run
run_kept v run ms most room n k x i found is view = (member_at run room ms n k x i (is_at n ms k x found is)).0 ∙ ap (λ (w : MembersState). w.run) view

pub state_kept : (v : MembersState) (run : RunOf) (ms : List MemberKept) (most room n k : ℕ) (x : MemberKept) → AreMembers run room ms → position (has_number n) ms ≡ Some k
    → x ≡ slice_index_or ms k x → members_as run ms most room ≡ v → member_with n v.members ≡ Some x.state
state_kept v run ms most room n k x i found is view =
    subst (λ (w : MembersState). member_with n w.members ≡ Some x.state) view (at_found n ms k x i.apart (is_at n ms k x found is))

pub nobody_kept : (v : MembersState) (run : RunOf) (ms : List MemberKept) (most room n : ℕ) → position (has_number n) ms ≡ None → members_as run ms most room ≡ v
    → member_with n v.members ≡ None
nobody_kept v run ms most room n none view = subst (λ (w : MembersState). member_with n w.members ≡ None) view (none_found n ms (none_at n ms none))

-- The numbers of members are those of their states.
pub numbers_are : (ms : List MemberKept) → map number_of ms ≡ map (λ (s : MemberState). s.who.number) (states ms)
numbers_are [] = refl
numbers_are (m ∷ ms) = ap (λ ns. number_of m ∷ ns) (numbers_are ms)
