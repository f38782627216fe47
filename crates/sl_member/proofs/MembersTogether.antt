-- Members that come and go, and what is found among them.
use Rattle.sl_host_state.specs.KeptState.{MemberState}
use Rattle.sl_member.proofs.MembersByNumber.{members_as, states}
use Rattle.sl_member.specs.Members.{MemberKept, RunOf, leaving_begun, recovery_begun}
use Rattle.sl_member.specs.HostMembers.{AreApart, AreMembers, AreRoomier, MembersState, begins_leaving, begun_by, begun_in, begun_kept, late_by, left_by, left_kept, member_with, number_of}
use Rattle.sl_trace.specs.declared.session.Begun.{Begun}
use Rattle.sl_trace.specs.declared.command.LockspaceArg.{LockspaceArg}
use Rattle.sl_words.proofs.CaseLaws.{none_some, some_value}
use Rattle.sl_words.specs.Orders.{is_text_before, put_in}
use Rattle.std.proofs.Common.{ap, arith, refl, subst, suc, sym, zero, ◌∙◌}
use Rattle.std.proofs.lemmas.Bool.Decides.{nat_tests}
use Rattle.std.proofs.lemmas.Grind.{common_steps}
use Rattle.std.proofs.lemmas.List.{length-map}
use Rattle.std.proofs.lemmas.List.Sums.{prefix_len-le-length}
use Rattle.std.specs.List.{AllByRecursion, AllWithin, insert, list_any, position_or_len}
use Rattle.std.specs.Prelude.{Bool, Err, IfSome, List, None, Ok, OnErr, Option, Result, Some, cond, drop, false, filter, find, if◌then◌else◌, length, map, max, min, nat_lt, not, option_map, position, slice_index_or, slice_set, take, true, unwrap_or, [], ℕ, ◌++◌, ◌+◌, ◌<◌, ◌==◌, ◌∷◌, ◌≡◌, ◌≤◌, ◌||◌}

-- ---- what is found

pub found_state : (p : MemberState → Bool) (ms : List MemberKept) → option_map (λ m. m.state) (find (λ (m : MemberKept). p m.state) ms) ≡ find p (states ms)
found_state p [] = refl
found_state p (m ∷ ms) = by (p m.state) (found_state p ms) where
  by : (b : Bool) → option_map (λ m. m.state) (find (λ (m : MemberKept). p m.state) ms) ≡ find p (states ms)
      → option_map (λ m. m.state) (cond b (Some m) (find (λ (m : MemberKept). p m.state) ms)) ≡ cond b (Some m.state) (find p (states ms))
  by true rest = refl
  by false rest = rest

-- What is found of members of one run is of that run.
run_found : (run : RunOf) (room : ℕ) (p : MemberKept → Bool) (ms : List MemberKept) (m : MemberKept) → AllByRecursion (λ n. (n.run ≡ run) × (room ≤ n.room)) ms → Some m ≡ find p ms → m.run ≡ run
run_found run room p [] m each is = absurd (none_some m (sym is))
run_found run room p (n ∷ ms) m each is = by (p n) is (run_found run room p ms m each.1) where
  by : (b : Bool) → Some m ≡ cond b (Some n) (find p ms) → (Some m ≡ find p ms → m.run ≡ run) → m.run ≡ run
  by true here rest = ap (λ (k : MemberKept). k.run) (some_value m n here) ∙ each.0.0
  by false there rest = rest there

pub run_if_found : {R : Type 0} (now : R → MemberKept) (run : RunOf) (room : ℕ) (p : MemberKept → Bool) (ms : List MemberKept) (o : Option R)
    → AllByRecursion (λ n. (n.run ≡ run) × (room ≤ n.room)) ms → option_map now o ≡ find p ms → IfSome o (λ r. (now r).run ≡ run)
run_if_found now run room p ms None each is = tt
run_if_found now run room p ms (Some r) each is = run_found run room p ms (now r) each is

pub mapped_twice : {A B C : Type 0} (f : A → B) (g : B → C) (o : Option A) → option_map (λ x. g (f x)) o ≡ option_map g (option_map f o)
mapped_twice f g None = refl
mapped_twice f g (Some x) = refl

-- ---- one comes in

first_or_all : (n l : ℕ) → n ≤ l → unwrap_or (cond (nat_lt n l) (Some n) None) l ≡ n
first_or_all n l le = by (nat_lt n l) refl where
  by : (b : Bool) → nat_lt n l ≡ b → unwrap_or (cond b (Some n) None) l ≡ n
  by true is = refl
  by false is = grind (arith, nat_tests)

gap_is : (p : MemberKept → Bool) (ms : List MemberKept) → unwrap_or (position p ms) (length ms) ≡ position_or_len p ms
gap_is p ms = first_or_all (position_or_len p ms) (length ms) (prefix_len-le-length (λ m. not (p m)) ms)

-- Whether a member's lockspace comes behind this one.
abbrev pub comes_behind : List ℕ → MemberKept → Bool
comes_behind name m = is_text_before name m.state.who.lockspace

one_more : (n : ℕ) → 1 + n ≡ suc n
one_more n = omega arith

put_first : (x : MemberKept) (ms : List MemberKept)
    → states (insert ms (position_or_len (comes_behind x.state.who.lockspace) ms) x) ≡ put_in (λ a b. is_text_before a.who.lockspace b.who.lockspace) x.state (states ms)
put_first x [] = refl
put_first x (m ∷ ms) = by (comes_behind x.state.who.lockspace m) (put_first x ms) where
  n : ℕ
  n = position_or_len (comes_behind x.state.who.lockspace) ms

  rest : List MemberState
  rest = put_in (λ a b. is_text_before a.who.lockspace b.who.lockspace) x.state (states ms)

  by : (b : Bool) → states (insert ms (position_or_len (comes_behind x.state.who.lockspace) ms) x) ≡ put_in (λ a b. is_text_before a.who.lockspace b.who.lockspace) x.state (states ms)
      → states (insert (m ∷ ms) (cond (not b) (1 + position_or_len (comes_behind x.state.who.lockspace) ms) 0) x)
      ≡ (if b then x.state ∷ m.state ∷ states ms else m.state ∷ put_in (λ a b. is_text_before a.who.lockspace b.who.lockspace) x.state (states ms))
  by true h = refl
  by false h = ap (λ k. states (insert (m ∷ ms) k x)) (one_more (position_or_len (comes_behind x.state.who.lockspace) ms)) ∙ ap (λ zs. m.state ∷ zs) h

pub put_states : (x : MemberKept) (ms : List MemberKept) (k : ℕ) → k ≡ unwrap_or (position (comes_behind x.state.who.lockspace) ms) (length ms)
    → states (insert ms k x) ≡ put_in (λ a b. is_text_before a.who.lockspace b.who.lockspace) x.state (states ms)
put_states x ms k is = ap (λ i. states (insert ms i x)) (is ∙ gap_is (comes_behind x.state.who.lockspace) ms) ∙ put_first x ms

each_in : (run : RunOf) (room : ℕ) (x : MemberKept) (ms : List MemberKept) (k : ℕ) → (x.run ≡ run) × (room ≤ x.room) → AllByRecursion (λ m. (m.run ≡ run) × (room ≤ m.room)) ms
    → AllByRecursion (λ m. (m.run ≡ run) × (room ≤ m.room)) (insert ms k x)
each_in run room x ms zero is h = (is, h)
each_in run room x [] (suc k) is h = (is, tt)
each_in run room x (m ∷ ms) (suc k) is h = (h.0, each_in run room x ms k is h.1)

numbers_in : (x : MemberKept) (ms : List MemberKept) (k : ℕ) → map number_of (insert ms k x) ≡ insert (map number_of ms) k (number_of x)
numbers_in x ms zero = refl
numbers_in x [] (suc k) = refl
numbers_in x (m ∷ ms) (suc k) = ap (λ is. number_of m ∷ is) (numbers_in x ms k)

other_in : (i n : ℕ) (ns : List ℕ) (k : ℕ) → (i == n) ≡ false → AllByRecursion (λ j. (i == j) ≡ false) ns → AllByRecursion (λ j. (i == j) ≡ false) (insert ns k n)
other_in i n ns zero off h = (off, h)
other_in i n [] (suc k) off h = (off, tt)
other_in i n (j ∷ js) (suc k) off h = (h.0, other_in i n js k off h.1)

turned : (n k : ℕ) → (n == k) ≡ false → (k == n) ≡ false
turned n k h = grind (arith, nat_tests)

apart_in : (n : ℕ) (ns : List ℕ) (k : ℕ) → AllByRecursion (λ j. (n == j) ≡ false) ns → AreApart ns → AreApart (insert ns k n)
apart_in n ns zero off h = (off, h)
apart_in n [] (suc k) off h = (tt, tt)
apart_in n (j ∷ js) (suc k) off h = (other_in j n js k (turned n j off.0) h.0, apart_in n js k off.1 h.1)

none_here : (n : ℕ) (ms : List MemberKept) → member_with n (states ms) ≡ None → AllByRecursion (λ j. (n == j) ≡ false) (map number_of ms)
none_here n [] h = tt
none_here n (m ∷ ms) h = by (number_of m == n) refl h (λ g. none_here n ms g) where
  by : (b : Bool) → (number_of m == n) ≡ b → cond b (Some m.state) (member_with n (states ms)) ≡ None
      → (member_with n (states ms) ≡ None → AllByRecursion (λ j. (n == j) ≡ false) (map number_of ms))
      → ((n == number_of m) ≡ false) × AllByRecursion (λ j. (n == j) ≡ false) (map number_of ms)
  by true is g rest = absurd (none_some m.state (sym g))
  by false is g rest = (turned (number_of m) n is, rest g)

-- Members that have memory for more have it for less.
pub lowered_each : (run : RunOf) (room less : ℕ) (ms : List MemberKept) → less ≤ room → AllByRecursion (λ m. (m.run ≡ run) × (room ≤ m.room)) ms
    → AllByRecursion (λ m. (m.run ≡ run) × (less ≤ m.room)) ms
lowered_each run room less [] le h = tt
lowered_each run room less (m ∷ ms) le h = ((h.0.0, (let a : room ≤ m.room = h.0.1 in omega (arith, a, le))), lowered_each run room less ms le h.1)

pub put_members : (v : MembersState) (run : RunOf) (ms : List MemberKept) (most room k : ℕ) (x : MemberKept) → AreMembers run room ms → members_as run ms most room ≡ v
    → x.run ≡ v.run → member_with (number_of x) v.members ≡ None → AreMembers run (min room x.room) (insert ms k x)
put_members v run ms most room k x i view runs none =
    let here : member_with (number_of x) (states ms) ≡ None = subst (λ (w : MembersState). member_with (number_of x) w.members ≡ None) (sym view) none in
    record {
      each = each_in run (min room x.room) x ms k (runs ∙ sym (ap (λ (w : MembersState). w.run) view), omega arith) (lowered_each run room (min room x.room) ms (omega arith) i.each);
      apart = subst AreApart (sym (numbers_in x ms k)) (apart_in (number_of x) (map number_of ms) k (none_here (number_of x) ms here) i.apart);
    }

-- There are as few as are seen.
pub few_kept : (v : MembersState) (run : RunOf) (ms : List MemberKept) (most room : ℕ) → members_as run ms most room ≡ v → length v.members < v.most → length ms < most
few_kept v run ms most room view few =
    let few : length (states ms) < most = subst (λ (w : MembersState). length w.members < w.most) (sym view) few in
    let same : length (states ms) ≡ length ms = length-map ms (λ (m : MemberKept). m.state) in
    omega (arith, few, same)

-- ---- some go

pub kept_states : (q : MemberState → Bool) (ms : List MemberKept) → states (filter (λ (m : MemberKept). q m.state) ms) ≡ filter q (states ms)
kept_states q [] = refl
kept_states q (m ∷ ms) = by (q m.state) (kept_states q ms) where
  by : (b : Bool) → states (filter (λ (m : MemberKept). q m.state) ms) ≡ filter q (states ms)
      → states (cond b (m ∷ filter (λ (m : MemberKept). q m.state) ms) (filter (λ (m : MemberKept). q m.state) ms)) ≡ cond b (m.state ∷ filter q (states ms)) (filter q (states ms))
  by true rest = ap (λ zs. m.state ∷ zs) rest
  by false rest = rest

kept_each : (P : MemberKept → Type 0) (p : MemberKept → Bool) (ms : List MemberKept) → AllByRecursion P ms → AllByRecursion P (filter p ms)
kept_each P p [] h = tt
kept_each P p (m ∷ ms) h = by (p m) (kept_each P p ms h.1) where
  by : (b : Bool) → AllByRecursion P (filter p ms) → AllByRecursion P (cond b (m ∷ filter p ms) (filter p ms))
  by true rest = (h.0, rest)
  by false rest = rest

kept_other : (i : ℕ) (p : MemberKept → Bool) (ms : List MemberKept) → AllByRecursion (λ j. (i == j) ≡ false) (map number_of ms) → AllByRecursion (λ j. (i == j) ≡ false) (map number_of (filter p ms))
kept_other i p [] h = tt
kept_other i p (m ∷ ms) h = by (p m) (kept_other i p ms h.1) where
  by : (b : Bool) → AllByRecursion (λ j. (i == j) ≡ false) (map number_of (filter p ms)) → AllByRecursion (λ j. (i == j) ≡ false) (map number_of (cond b (m ∷ filter p ms) (filter p ms)))
  by true rest = (h.0, rest)
  by false rest = rest

kept_apart : (p : MemberKept → Bool) (ms : List MemberKept) → AreApart (map number_of ms) → AreApart (map number_of (filter p ms))
kept_apart p [] h = tt
kept_apart p (m ∷ ms) h = by (p m) (kept_apart p ms h.1) (kept_other (number_of m) p ms h.0) where
  by : (b : Bool) → AreApart (map number_of (filter p ms)) → AllByRecursion (λ j. (number_of m == j) ≡ false) (map number_of (filter p ms))
      → AreApart (map number_of (cond b (m ∷ filter p ms) (filter p ms)))
  by true rest off = (off, rest)
  by false rest off = rest

pub kept_members : (run : RunOf) (room : ℕ) (ms zs : List MemberKept) (p : MemberKept → Bool) → AreMembers run room ms → zs ≡ filter p ms → AreMembers run room zs
kept_members run room ms zs p i is =
    subst (λ xs. AreMembers run room xs) (sym is) (record { each = kept_each (λ m. (m.run ≡ run) × (room ≤ m.room)) p ms i.each; apart = kept_apart p ms i.apart })

pub kept_kept : (v : MembersState) (run : RunOf) (ms zs : List MemberKept) (most room : ℕ) (q : MemberState → Bool) → zs ≡ filter (λ (m : MemberKept). q m.state) ms
    → members_as run ms most room ≡ v → members_as run zs most room ≡ record v { members = filter q v.members }
kept_kept v run ms zs most room q is view =
    ap (λ ss. P ss) (ap states is ∙ kept_states q ms) ∙ ap (λ (w : MembersState). record w { members = filter q w.members }) view
  where
    P : List MemberState → MembersState
    P ss = record { run = run; members = ss; most = most; room = room }

-- ---- more memory

pub roomier_itself : (ms : List MemberKept) → AreRoomier ms ms
roomier_itself [] = tt
roomier_itself (m ∷ ms) = (refl, refl, omega arith, roomier_itself ms)

pub roomier_set : (xs ys : List MemberKept) (i : ℕ) (x y : MemberKept) → AreRoomier xs ys → x ≡ slice_index_or ys i x → y.run ≡ x.run → y.state ≡ x.state → x.room ≤ y.room
    → AreRoomier xs (slice_set ys i y)
roomier_set [] [] i x y h is run state room = tt
roomier_set [] (z ∷ zs) i x y h is run state room = absurd h
roomier_set (u ∷ us) [] i x y h is run state room = absurd h
roomier_set (u ∷ us) (z ∷ zs) zero x y h is run state room =
    let same : x ≡ z = is in
    let more : x.room ≡ z.room = ap (λ (w : MemberKept). w.room) same in
    let less : u.room ≤ z.room = h.2 in
    (run ∙ (ap (λ (w : MemberKept). w.run) same ∙ h.0), state ∙ (ap (λ (w : MemberKept). w.state) same ∙ h.1), omega (arith, room, more, less), h.3)
roomier_set (u ∷ us) (z ∷ zs) (suc i) x y h is run state room = (h.0, h.1, h.2, roomier_set us zs i x y h.3 is run state room)

pub roomier_states : (xs ys : List MemberKept) → AreRoomier xs ys → states ys ≡ states xs
roomier_states [] [] h = refl
roomier_states [] (y ∷ ys) h = absurd h
roomier_states (x ∷ xs) [] h = absurd h
roomier_states (x ∷ xs) (y ∷ ys) h = ap (λ s. s ∷ states ys) h.1 ∙ ap (λ ss. x.state ∷ ss) (roomier_states xs ys h.3)

roomier_numbers : (xs ys : List MemberKept) → AreRoomier xs ys → map number_of ys ≡ map number_of xs
roomier_numbers [] [] h = refl
roomier_numbers [] (y ∷ ys) h = absurd h
roomier_numbers (x ∷ xs) [] h = absurd h
roomier_numbers (x ∷ xs) (y ∷ ys) h = ap (λ (s : MemberState). s.who.number ∷ map number_of ys) h.1 ∙ ap (λ ns. number_of x ∷ ns) (roomier_numbers xs ys h.3)

roomier_each : (run : RunOf) (room : ℕ) (xs ys : List MemberKept) → AreRoomier xs ys → AllByRecursion (λ m. (m.run ≡ run) × (room ≤ m.room)) xs
    → AllByRecursion (λ m. (m.run ≡ run) × (room ≤ m.room)) ys
roomier_each run room [] [] h i = tt
roomier_each run room [] (y ∷ ys) h i = absurd h
roomier_each run room (x ∷ xs) [] h i = absurd h
roomier_each run room (x ∷ xs) (y ∷ ys) h i =
    let least : room ≤ x.room = i.0.1 in let more : x.room ≤ y.room = h.2 in ((h.0 ∙ i.0.0, omega (arith, least, more)), roomier_each run room xs ys h.3 i.1)

each_max : (run : RunOf) (room more : ℕ) (ys : List MemberKept) → AllByRecursion (λ m. (m.run ≡ run) × (room ≤ m.room)) ys → AllWithin (λ m. more ≤ m.room) ys 0 (length ys)
    → AllByRecursion (λ m. (m.run ≡ run) × (max room more ≤ m.room)) ys
each_max run room more [] i has = tt
each_max run room more (y ∷ ys) i has =
    let a : room ≤ y.room = i.0.1 in
    let b : more ≤ y.room = has 0 y (omega arith) (omega arith) in
    ((i.0.0, omega (arith, a, b)), each_max run room more ys i.1 (λ k d from to. has (suc k) d (omega arith) (omega (arith, to))))

pub roomier_members : (run : RunOf) (room : ℕ) (xs ys : List MemberKept) → AreMembers run room xs → AreRoomier xs ys → AreMembers run room ys
roomier_members run room xs ys i h = record { each = roomier_each run room xs ys h i.each; apart = subst AreApart (sym (roomier_numbers xs ys h)) i.apart }

-- .. where those that had less have more.
each_more : (run : RunOf) (room more : ℕ) (ys : List MemberKept) → AllByRecursion (λ m. (m.run ≡ run) × (room ≤ m.room)) ys
    → (room < more → AllWithin (λ m. more ≤ m.room) ys 0 (length ys)) → AllByRecursion (λ m. (m.run ≡ run) × (max room more ≤ m.room)) ys
each_more run room more ys i has = by (nat_lt room more) refl where
  by : (b : Bool) → nat_lt room more ≡ b → AllByRecursion (λ m. (m.run ≡ run) × (max room more ≤ m.room)) ys
  by true is = each_max run room more ys i (has (grind (arith, nat_tests)))
  by false is = lowered_each run room (max room more) ys (let le : more ≤ room = grind (arith, nat_tests) in omega (arith, le)) i

pub roomy_members : (run : RunOf) (room more : ℕ) (xs ys : List MemberKept) → AreMembers run room xs → AreRoomier xs ys
    → (room < more → AllWithin (λ m. more ≤ m.room) ys 0 (length ys)) → AreMembers run (max room more) ys
roomy_members run room more xs ys i h has = record {
  each = each_more run room more ys (roomier_each run room xs ys h i.each) has;
  apart = subst AreApart (sym (roomier_numbers xs ys h)) i.apart;
}

-- ---- a step begins

begun_number : (now at : ℕ) (m : MemberKept) → number_of (begun_kept now at m) ≡ number_of m
begun_number now at m = by (late_by m.run.timing now m.state) where
  by : (b : Bool) → (let s : MemberState = cond b (recovery_begun (begun_in now at) m.state) m.state in s.who.number) ≡ m.state.who.number
  by true = refl
  by false = refl

begun_numbers : (now at : ℕ) (ms : List MemberKept) → map number_of (map (begun_kept now at) ms) ≡ map number_of ms
begun_numbers now at [] = refl
begun_numbers now at (m ∷ ms) = ap (λ n. n ∷ map number_of (map (begun_kept now at) ms)) (begun_number now at m) ∙ ap (λ ns. number_of m ∷ ns) (begun_numbers now at ms)

begun_each : (now at : ℕ) (run : RunOf) (room : ℕ) (ms : List MemberKept) → AllByRecursion (λ m. (m.run ≡ run) × (room ≤ m.room)) ms
    → AllByRecursion (λ m. (m.run ≡ run) × (room ≤ m.room)) (map (begun_kept now at) ms)
begun_each now at run room [] h = tt
begun_each now at run room (m ∷ ms) h = (h.0, begun_each now at run room ms h.1)

pub begun_members : (now at : ℕ) (run : RunOf) (room : ℕ) (ms zs : List MemberKept) → AreMembers run room ms → zs ≡ map (begun_kept now at) ms → AreMembers run room zs
begun_members now at run room ms zs i is =
    subst (λ xs. AreMembers run room xs) (sym is)
    (record { each = begun_each now at run room ms i.each; apart = subst AreApart (sym (begun_numbers now at ms)) i.apart })

pub begun_states : (now at : ℕ) (run : RunOf) (room : ℕ) (ms : List MemberKept) → AllByRecursion (λ m. (m.run ≡ run) × (room ≤ m.room)) ms
    → states (map (begun_kept now at) ms) ≡ map (begun_by run.timing now at) (states ms)
begun_states now at run room [] h = refl
begun_states now at run room (m ∷ ms) h =
    ap (λ (r : RunOf). begun_by r.timing now at m.state ∷ states (map (begun_kept now at) ms)) h.0.0
    ∙ ap (λ ss. begun_by run.timing now at m.state ∷ ss) (begun_states now at run room ms h.1)

pub late_states : (now : ℕ) (run : RunOf) (room : ℕ) (ms : List MemberKept) → AllByRecursion (λ m. (m.run ≡ run) × (room ≤ m.room)) ms
    → list_any (λ (m : MemberKept). late_by m.run.timing now m.state) ms ≡ list_any (late_by run.timing now) (states ms)
late_states now run room [] h = refl
late_states now run room (m ∷ ms) h =
    ap (λ (r : RunOf). late_by r.timing now m.state || list_any (λ (m : MemberKept). late_by m.run.timing now m.state) ms) h.0.0
    ∙ ap (λ b. late_by run.timing now m.state || b) (late_states now run room ms h.1)

pub roomier_length : (xs ys : List MemberKept) → AreRoomier xs ys → length ys ≡ length xs
roomier_length [] [] h = refl
roomier_length [] (y ∷ ys) h = absurd h
roomier_length (x ∷ xs) [] h = absurd h
roomier_length (x ∷ xs) (y ∷ ys) h = let rest = roomier_length xs ys h.3 in omega (arith, rest)

-- All of a list, which is as long as that, in front of more.
pub all_taken : (n : ℕ) (ys xs : List MemberKept) → length ys ≡ n → take n (ys ++ drop (length ys) xs) ≡ ys
all_taken n ys xs e = grind (arith, common_steps)

pub on_err : {T E : Type 0} (r : Result T E) (P : Type 0) → P → OnErr r P
on_err (Ok a) P p = tt
on_err (Err e) P p = p

-- The same members with more memory are seen as the same.
pub roomier_kept : (v : MembersState) (run : RunOf) (xs ys : List MemberKept) (most room : ℕ) → AreRoomier xs ys → members_as run xs most room ≡ v → members_as run ys most room ≡ v
roomier_kept v run xs ys most room h view = ap (λ ss. P ss) (roomier_states xs ys h) ∙ view
  where
    P : List MemberState → MembersState
    P ss = record { run = run; members = ss; most = most; room = room }

-- ---- one leaves

left_number : (a : LockspaceArg) (b : Begun) (job : ℕ) (m : MemberKept) → number_of (left_kept a b job m) ≡ number_of m
left_number a b job m = by (begins_leaving a m.state) where
  by : (c : Bool) → (let s : MemberState = cond c (leaving_begun b job m.state) m.state in s.who.number) ≡ m.state.who.number
  by true = refl
  by false = refl

left_numbers : (a : LockspaceArg) (b : Begun) (job : ℕ) (ms : List MemberKept) → map number_of (map (left_kept a b job) ms) ≡ map number_of ms
left_numbers a b job [] = refl
left_numbers a b job (m ∷ ms) = ap (λ n. n ∷ map number_of (map (left_kept a b job) ms)) (left_number a b job m) ∙ ap (λ ns. number_of m ∷ ns) (left_numbers a b job ms)

left_each : (a : LockspaceArg) (b : Begun) (job : ℕ) (run : RunOf) (room : ℕ) (ms : List MemberKept) → AllByRecursion (λ m. (m.run ≡ run) × (room ≤ m.room)) ms
    → AllByRecursion (λ m. (m.run ≡ run) × (room ≤ m.room)) (map (left_kept a b job) ms)
left_each a b job run room [] h = tt
left_each a b job run room (m ∷ ms) h = (h.0, left_each a b job run room ms h.1)

pub left_members : (a : LockspaceArg) (b : Begun) (job : ℕ) (run : RunOf) (room : ℕ) (ms zs : List MemberKept) → AreMembers run room ms → zs ≡ map (left_kept a b job) ms → AreMembers run room zs
left_members a b job run room ms zs i is =
    subst (AreMembers run room) (sym is)
    (record { each = left_each a b job run room ms i.each; apart = subst AreApart (sym (left_numbers a b job ms)) i.apart })

pub left_states : (a : LockspaceArg) (b : Begun) (job : ℕ) (ms : List MemberKept) → states (map (left_kept a b job) ms) ≡ map (left_by a b job) (states ms)
left_states a b job [] = refl
left_states a b job (m ∷ ms) = ap (λ ss. left_by a b job m.state ∷ ss) (left_states a b job ms)

pub any_state : (p : MemberState → Bool) (ms : List MemberKept) → list_any (λ (m : MemberKept). p m.state) ms ≡ list_any p (states ms)
any_state p [] = refl
any_state p (m ∷ ms) = ap (λ b. p m.state || b) (any_state p ms)
